use Rattle.std.proofs.Common.{◌≡◌, ◌≤◌, replicate, vec_len}
use Rattle.std.specs.Prelude.{vec_capacity}
use Rattle.recorder.specs.Pens.{new_pen}
use Rattle.recorder.proofs.recorder.Recorder.start.Given as goal

abbrev pub invariant-loop : goal.invariant-loop
invariant-loop l = record {
  made : l.started.items ≡ replicate l.counter new_pen;
  count : vec_len l.started ≡ l.counter;
  room : l.pens ≤ vec_capacity l.started;
}
