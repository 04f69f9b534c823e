use Rattle.std.proofs.lemmas.Slice.Eq.{slice_eq-Decides}
use Rattle.check_pool.proofs.RecordLemmas.{Rec-Decides}
use Rattle.check_pool.proofs.message.are_same.Goals as goal

pub returns : goal.returns
returns c = slice_eq-Decides Rec-Decides _ _ _ c.eq.ensures
