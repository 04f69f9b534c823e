-- What the seat of a pen drew.
use Rattle.std.specs.Prelude.{◌≡◌, ℕ, ◌<◌, ◌≤◌, ◌++◌, false, true, List, [], All, nat_lt}
use Rattle.std.specs.List.{filter, list_any}
use Rattle.atomic_table.specs.Table.{Me}
use Rattle.events.specs.Refusal.{most_events}
use Rattle.recorder.specs.declared.clock_view.ClockView.{ClockView}
use Rattle.recorder.specs.declared.clock_view.ClockView.TheVariants.{Drew}
use Rattle.recorder.specs.Clock.{is_past, seat_with}
use Rattle.recorder.specs.Pens.{PenState}
use Rattle.recorder.specs.aids.Notes.{numbers_of}

-- those of the numbers that are numbers of events
abbrev pub numbers_of_events : List ℕ → List ℕ
numbers_of_events numbers = filter (λ n. nat_lt n most_events) numbers

-- The seat drew the numbers of the pen's entries. If and only if it was reported to the pen that the
-- recording is full, it also drew one that is above those of events.
pub record HasDrawn (pen : PenState) (seat : Me (Unit {0}) ClockView) : Type 0 where
  pub past : List ℕ
  pub view : seat ≡ seat_with (Drew (numbers_of pen.list ++ past))
  pub events : All (λ n. n < most_events) (numbers_of pen.list)
  pub no_events : All (λ n. most_events ≤ n) past
  pub when_open : pen.is_full ≡ false → past ≡ []
  pub when_full : pen.is_full ≡ true → list_any is_past past ≡ true

-- the seat drew the numbers of the entries in the pen's list, and otherwise only numbers above those of
-- events: one of these if it was reported to the pen that the recording is full
abbrev pub IsSeatFor : PenState → Me (Unit {0}) ClockView → Type 0
IsSeatFor pen seat = (drawn : List ℕ) × (seat ≡ seat_with (Drew drawn)) × (numbers_of_events drawn ≡ numbers_of pen.list)
    × (pen.is_full ≡ true → list_any is_past drawn ≡ true)
