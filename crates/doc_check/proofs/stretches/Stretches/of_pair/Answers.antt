use Rattle.doc_check.proofs.StretchLemmas.{pair_found, pair_missed}
use Rattle.doc_check.proofs.stretches.Stretches.of_pair.Goals as goal

pub returns-in-Ok-clause-some : goal.returns-in-Ok-clause-some
returns-in-Ok-clause-some c =
    pair_found c.args.self.now c.args.pair c.in-Ok.link c.requires
    c.in-Ok.ensures.bound
    c.in-Ok.ensures.position

pub returns-in-Err-clause-none : goal.returns-in-Err-clause-none
returns-in-Err-clause-none c =
    pair_missed c.args.self.now c.args.pair c.in-Err.field-0 c.requires
    c.in-Err.ensures.position
