use Rattle.readings.specs.aids.Peaks.{ArePeaksSoFar}
use Rattle.readings.proofs.peaks.Changes.peaks.Given as goal

abbrev pub invariant-loop-k : goal.invariant-loop-k
invariant-loop-k l = ArePeaksSoFar l.self l.records l.answers l.peaks.items l.k l.peak
