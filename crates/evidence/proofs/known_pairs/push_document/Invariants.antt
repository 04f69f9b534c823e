use Rattle.evidence.specs.aids.KnownPairs.{AreKnownOf}
use Rattle.evidence.proofs.known_pairs.push_document.Given as goal

abbrev pub invariant-loop-i : goal.invariant-loop-i
invariant-loop-i l = AreKnownOf l.history l.initial.known.items → AreKnownOf l.history l.known.items
