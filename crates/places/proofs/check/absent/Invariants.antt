use Rattle.places.specs.aids.Walks.{AllNamedBelow}
use Rattle.places.proofs.check.absent.Given as goal

abbrev pub invariant-loop-k : goal.invariant-loop-k
invariant-loop-k l = AllNamedBelow l.records l.marks l.k
