use Rattle.std.proofs.Common.{◌≡◌, vec_len}
use Rattle.std.specs.Prelude.{◌≡◌}
use Rattle.check_pool.specs.aids.Slots.{AreEmpty}
use Rattle.check_pool.proofs.collector.empty_slots.Given as goal

abbrev pub invariant-loop : goal.invariant-loop
invariant-loop l = record { count : vec_len l.slots ≡ l.counter; empty : AreEmpty l.slots.items }
