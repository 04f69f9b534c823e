use Rattle.std.proofs.Common.{◌≡◌, ◌++◌}
use Rattle.covers.specs.aids.Searched.{AreAlike}
use Rattle.covers.proofs.reordered.with_new_places.Given as goal

abbrev pub invariant-loop-witness : goal.invariant-loop-witness
invariant-loop-witness l =
    (goal.iterator-loop-witness).can_next l.witness-iterator × (goal.iterator-loop-witness).is_finite l.witness-iterator
    × (l.yielded ++ l.witness-iterator.rest.items ≡ l.fn.witnesses.items) × AreAlike l.yielded l.others.items
