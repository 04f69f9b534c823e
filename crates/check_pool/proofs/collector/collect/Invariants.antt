use Rattle.std.proofs.Common.{◌≡◌, ◌++◌}
use Rattle.std.specs.Vec.Iter.{into_iter_items}
use Rattle.check_pool.specs.aids.Slots.{AreFilled}
use Rattle.check_pool.proofs.collector.collect.Given as goal

-- the places are filled by the messages that came
abbrev pub invariant-loop-message : goal.invariant-loop-message
invariant-loop-message l = record {
  came : l.yielded ++ into_iter_items l.message-iterator ≡ l.fn.messages.items;
  filled : AreFilled l.jobs l.yielded l.slots.items;
}
