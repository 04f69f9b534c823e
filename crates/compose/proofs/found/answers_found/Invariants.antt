use Rattle.std.proofs.Common.{take, true}
use Rattle.events.specs.Events.{documents_of}
use Rattle.covers.specs.Answered.{AreAnswersFor}
use Rattle.compose.proofs.found.answers_found.Given as goal

abbrev pub invariant-loop-doc : goal.invariant-loop-doc
invariant-loop-doc l = AreAnswersFor l.conflicts l.history true (take l.doc (documents_of l.history)) l.answers.items
