use Rattle.std.proofs.Common.{◌≡◌, ◌++◌, Some}
use Rattle.std.specs.Prelude.{map}
use Rattle.std.specs.Vec.Iter.{into_iter_items}
use Rattle.check_pool.proofs.collector.answers_of.Given as goal

-- the answers so far are those of the places that were passed
abbrev pub invariant-loop-slot : goal.invariant-loop-slot
invariant-loop-slot l = map (λ a. Some a) l.answers.items ++ into_iter_items l.slot-iterator ≡ l.fn.slots.items
