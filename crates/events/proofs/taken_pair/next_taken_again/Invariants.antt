use Rattle.events.specs.TakenPairs.{AreApart}
use Rattle.events.proofs.taken_pair.next_taken_again.Given as goal

abbrev pub invariant-loop-k : goal.invariant-loop-k
invariant-loop-k g l = AreApart g.T.TakesPair.takes l.taken l.from l.k
