use Rattle.std.proofs.Common.{◌≡◌, None, arith}
use Rattle.check_pool.proofs.SlotLemmas.{IsFirstEmpty-from_rest, none_from}
use Rattle.check_pool.proofs.collector.answers_of.Goals as goal

pub returns-in_default-clause-fault : goal.returns-in_default-clause-fault
returns-in_default-clause-fault c =
    let none : c.in-Some.slot ≡ None = none_from c.in-Some.slot c.in_default.not-Some in
    IsFirstEmpty-from_rest c.loop-slot.answers.items c.args.slots.items _ c.len-in_default.result (omega arith)
    (rw (c.in-Some.ensures.steps.0, none) at c.loop-slot.invariant)
