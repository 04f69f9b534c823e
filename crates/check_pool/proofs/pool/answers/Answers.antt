use Rattle.std.proofs.Common.{length}
use Rattle.std.proofs.lemmas.Result.{IfErr-weaker}
use Rattle.check_pool.proofs.SlotLemmas.{NamesJob-from_fault, some-from_not_empty}
use Rattle.check_pool.proofs.pool.answers.Goals as goal

pub returns-clause-named : goal.returns-clause-named
returns-clause-named g c =
    IfErr-weaker c.collect.result _ _
    (λ fault is. NamesJob-from_fault c.args.jobs.items _ _ fault (some-from_not_empty (length c.args.jobs.items) c.args.jobs.len c.is_empty.result c.if-is_empty.false c.is_empty.ensures c.args.jobs.ok.0) (rw c.deref-2.ensures.value at is))
    c.collect.ensures.fault
