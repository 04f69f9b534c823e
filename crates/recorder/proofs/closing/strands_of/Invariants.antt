use Rattle.std.proofs.Common.{◌≡◌}
use Rattle.recorder.specs.Recordings.{lists_of}
use Rattle.recorder.proofs.closing.strands_of.Given as goal

abbrev pub invariant-loop-pen : goal.invariant-loop-pen
invariant-loop-pen l = l.strands.items ≡ lists_of l.yielded
