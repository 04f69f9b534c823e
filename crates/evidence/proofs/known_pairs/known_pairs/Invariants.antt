use Rattle.evidence.specs.aids.KnownPairs.{AreKnownOf}
use Rattle.evidence.proofs.known_pairs.known_pairs.Given as goal

abbrev pub invariant-loop-doc : goal.invariant-loop-doc
invariant-loop-doc l = AreKnownOf l.history l.known.items
