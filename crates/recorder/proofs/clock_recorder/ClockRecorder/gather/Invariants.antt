use Rattle.std.proofs.Common.{◌≡◌, ℕ, List, All, length, true}
use Rattle.std.specs.List.{list_any}
use Rattle.recorder.specs.declared.clock_view.ClockView.TheVariants.{Maker}
use Rattle.recorder.specs.Clock.{is_past, pen_states, seat_with}
use Rattle.recorder.specs.Closing.{has_full}
use Rattle.recorder.specs.Recordings.{entries_of, lists_of}
use Rattle.recorder.specs.aids.Drawing.{numbers_of_events}
use Rattle.recorder.specs.aids.Notes.{IsPenList, numbers_of}
use Rattle.recorder.proofs.clock_recorder.ClockRecorder.gather.Given as goal

abbrev pub invariant-loop-pen : goal.invariant-loop-pen
invariant-loop-pen l = record {
  lists : l.strands.items ≡ lists_of (pen_states l.yielded);
  kept : All IsPenList l.strands.items;
  of_clock : l.maker.table_id ≡ l.fn.self.clock;
  view : (gained : List ℕ) × (l.maker.me ≡ seat_with (Maker l.fn.self.pens (length l.yielded) gained))
      × (numbers_of_events gained ≡ numbers_of (entries_of l.strands.items))
      × (has_full (pen_states l.yielded) ≡ true → list_any is_past gained ≡ true);
}
