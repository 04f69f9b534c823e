use Rattle.std.proofs.Common.{◌≡◌, ◌++◌, map}
use Rattle.std.specs.Vec.Iter.{into_iter_items}
use Rattle.workload.proofs.rounds.pens_of.Given as goal

-- the pens so far, and those of the seats that are left
abbrev pub invariant-loop-seat : goal.invariant-loop-seat
invariant-loop-seat g l = l.pens.items ++ map (λ seat. seat.pen) (into_iter_items l.seat-iterator) ≡ map (λ seat. seat.pen) l.fn.seats.items
