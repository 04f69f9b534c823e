use Rattle.std.proofs.Common.{◌≡◌}
use Rattle.recorder.proofs.closing.history_of.Given as goal

abbrev pub invariant-loop-event : goal.invariant-loop-event
invariant-loop-event l = l.history ≡ l.yielded
