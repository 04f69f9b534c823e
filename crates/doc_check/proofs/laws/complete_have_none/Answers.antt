use Rattle.doc_check.proofs.CompleteLemmas.{complete_have_none}
use Rattle.doc_check.proofs.laws.complete_have_none.Goals as goal

pub returns : goal.returns
returns c = complete_have_none
