use Rattle.readings.specs.aids.Judging.{IsReadSoFar}
use Rattle.readings.proofs.judged.judged_history.Given as goal

abbrev pub invariant-loop-place : goal.invariant-loop-place
invariant-loop-place l = IsReadSoFar l.reading l.voids l.text l.place l.judged
