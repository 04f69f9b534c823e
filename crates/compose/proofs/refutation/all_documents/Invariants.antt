use Rattle.evidence.specs.Evidence.{AreDocuments}
use Rattle.compose.proofs.refutation.all_documents.Given as goal

abbrev pub invariant-loop-doc : goal.invariant-loop-doc
invariant-loop-doc l = AreDocuments l.history l.docs.items
