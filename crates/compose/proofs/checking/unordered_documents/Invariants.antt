use Rattle.compose.specs.aids.Searched.{AreUnordered}
use Rattle.compose.proofs.checking.unordered_documents.Given as goal

abbrev pub invariant-loop-doc : goal.invariant-loop-doc
invariant-loop-doc l = AreUnordered l.answers l.doc l.docs.items
