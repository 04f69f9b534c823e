use Rattle.readings.specs.aids.Unexplained.{IsJudgedSoFar}
use Rattle.readings.proofs.unexplained.unexplained_get.Given as goal

abbrev pub invariant-loop-doc : goal.invariant-loop-doc
invariant-loop-doc l = IsJudgedSoFar l.reading l.voids l.text l.doc l.first
