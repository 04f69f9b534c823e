use Rattle.evidence.specs.Evidence.{AreDocuments}
use Rattle.compose.proofs.refutation.documents_among.Given as goal

abbrev pub invariant-loop-i : goal.invariant-loop-i
invariant-loop-i l = AreDocuments l.history l.docs.items
