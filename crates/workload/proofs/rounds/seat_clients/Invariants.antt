use Rattle.std.specs.Vec.Iter.{into_iter_items}
use Rattle.workload.proofs.RoundLemmas.{AreNewSoFar}
use Rattle.workload.proofs.rounds.seat_clients.Given as goal

abbrev pub invariant-loop-pen : goal.invariant-loop-pen
invariant-loop-pen g l = AreNewSoFar l.fn.pens.items l.seats.items (into_iter_items l.pen-iterator)
