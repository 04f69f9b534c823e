use Rattle.std.proofs.Common.{[], take}
use Rattle.history.specs.aids.Writing.{AreWritten}
use Rattle.history.proofs.writer.write.Given as goal

abbrev pub invariant-loop-place : goal.invariant-loop-place
invariant-loop-place l = AreWritten l.history [] l.text.items (take l.place l.history)
