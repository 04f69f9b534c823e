use Rattle.deciding.proofs.EventLemmas.{IsBetween}
use Rattle.deciding.proofs.walk.first_without_row.Given as goal

abbrev pub invariant-loop-answer : goal.invariant-loop-answer
invariant-loop-answer l = IsBetween l.document l.answers l.answer-index l.made l.walk
