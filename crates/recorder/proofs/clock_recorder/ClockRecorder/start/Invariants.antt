use Rattle.std.proofs.Common.{◌≡◌, ◌≤◌, [], replicate, vec_len}
use Rattle.std.specs.Prelude.{vec_capacity}
use Rattle.recorder.specs.declared.clock_view.ClockView.TheVariants.{Maker}
use Rattle.recorder.specs.Clock.{most_pens, new_clock_pen, seat_with}
use Rattle.recorder.proofs.clock_recorder.ClockRecorder.start.Given as goal

abbrev pub invariant-loop : goal.invariant-loop
invariant-loop l = record {
  made : l.started.items ≡ replicate l.counter (new_clock_pen l.clock);
  count : vec_len l.started ≡ l.counter;
  room : l.pens ≤ vec_capacity l.started;
  few : l.pens ≤ most_pens;
  of_clock : l.maker.table_id ≡ l.clock;
  view : l.maker.me ≡ seat_with (Maker l.counter 0 []);
}
