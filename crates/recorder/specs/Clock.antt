-- The second form of the recorder has no lock. It has one word, the clock word, which is the next number; a
-- pen numbers an event by adding 1 to it in one atomic step. What is known of the word is kept in views,
-- which exist in proofs alone: each pen has a seat with a view, and so has the maker, which started the
-- recorder and closes it. There are three kinds of step, and a rule that each of them keeps:
--
-- - a split, by the maker: one more seat is split off, whose view is empty;
-- - a draw, by a pen, an atomic addition of 1: the view of its seat gains the number found;
-- - a join, by the maker: its view gains the joined seat's numbers, and the joined view is spent.
use Rattle.std.specs.Prelude.{◌≡◌, ℕ, ◌+◌, ◌<◌, ◌≤◌, Bool, true, false, not, List, [], ◌∷◌, ◌++◌, length, All, map, nat_lt}
use Rattle.std.specs.List.{flat_map, list_any, range_with_len}
use Rattle.std.specs.List.Sorted.{IsPermutation}
use Rattle.atomic_table.specs.Seated.{TableId}
use Rattle.atomic_table.specs.Table.{Me, State, Step}
use Rattle.events.specs.Refusal.{most_events}
use Rattle.recorder.specs.declared.clock_view.ClockView.{ClockView}
use Rattle.recorder.specs.declared.clock_view.ClockView.TheVariants.{Maker, Drew, Spent}
use Rattle.recorder.specs.Pens.{PenState, new_pen}

-- ---- views

-- the greatest number of pens that a recorder can be started with: 8
-- Source: profile.
abbrev pub most_pens : ℕ
most_pens = 8

-- a seat with a view and nothing more: a seat of the clock word holds nothing else
abbrev pub seat_with : ClockView → Me (Unit {0}) ClockView
seat_with v = (v, [])

-- the numbers that a view holds; none if it is spent
abbrev pub numbers_in : ClockView → List ℕ
numbers_in (Maker split_off joined gained) = gained
numbers_in (Drew drawn) = drawn
numbers_in Spent = []

-- the numbers below n
abbrev pub numbers_below : ℕ → List ℕ
numbers_below n = range_with_len 0 n

-- the number is that of no event: it is 1,048,576 or more
-- Source: profile.
abbrev pub is_past : ℕ → Bool
is_past n = not (nat_lt n most_events)

-- the view is spent
-- Source: profile.
abbrev pub is_spent : ClockView → Bool
is_spent (Maker split_off joined gained) = false
is_spent (Drew drawn) = false
is_spent Spent = true

-- the seat draws no more: its view is spent, or holds a number that is that of no event
-- Source: profile.
abbrev pub is_over : ClockView → Bool
is_over (Maker split_off joined gained) = false
is_over (Drew drawn) = list_any is_past drawn
is_over Spent = true

-- the view of a pen's seat, joined or not
abbrev pub IsOfPen : ClockView → Type 0
IsOfPen (Maker split_off joined gained) = ⊥
IsOfPen (Drew drawn) = Unit {0}
IsOfPen Spent = Unit {0}

-- 1 if it is true, otherwise 0
abbrev pub one_if : Bool → ℕ
one_if true = 1
one_if false = 0

-- the number of views that pass the test
abbrev pub how_many : (ClockView → Bool) → List ClockView → ℕ
how_many test [] = 0
how_many test (v ∷ vs) = one_if (test v) + how_many test vs

-- ---- the kinds of step

-- Split: the maker's seat has split one more off; the new seat's view is empty.
-- Source: profile.
abbrev pub split_once_more : ClockView → ClockView
split_once_more (Maker split_off joined gained) = Maker (split_off + 1) joined gained
split_once_more (Drew drawn) = Drew drawn
split_once_more Spent = Spent

-- the view of a new seat: nothing was drawn
-- Source: profile.
abbrev pub nothing_drawn : ClockView
nothing_drawn = Drew []

-- Draw, by a fetch_add of 1: a pen's seat gains the number found, which is above all that it drew before.
-- Source: profile.
abbrev pub Draws : Step (Unit {0}) → Me (Unit {0}) ClockView → ℕ → Me (Unit {0}) ClockView → Type 0
Draws step before found after =
    (after ≡ seat_with (Drew (numbers_in before.0 ++ found ∷ []))) × All (λ n. n < found) (numbers_in before.0)

-- Join: the maker's seat gains the numbers of the joined one, and has joined one more; the joined seat's view
-- is spent.
-- Source: profile.
abbrev pub with_joined : ClockView → ClockView → ClockView
with_joined (Maker split_off joined gained) other = Maker split_off (joined + 1) (gained ++ numbers_in other)
with_joined (Drew drawn) other = Drew drawn
with_joined Spent other = Spent

-- ---- the rule

-- The rule: what holds of the word and of all views between any two steps. So the counter never overflows.
-- Source: profile.
pub record IsClock (state : State (Unit {0}) ClockView) : Type 0 where
  -- the clock word
  pub word : ℕ
  -- the number of seats that were split off
  pub split_off : ℕ
  -- the number of seats that were joined
  pub joined : ℕ
  -- the numbers that the maker's view gained
  pub gained : List ℕ
  -- the other views
  pub others : List ClockView
  -- there is no other word
  pub words : state.words ≡ word ∷ []
  -- there is one maker's view, the first
  pub views : state.views ≡ Maker split_off joined gained ∷ others
  -- the other views are those of pens' seats
  pub of_pens : All IsOfPen others
  -- there are as many as seats were split off
  pub as_many : length others ≡ split_off
  -- at most 8 seats were split off
  pub few : split_off ≤ most_pens
  -- as many views are spent as seats were joined
  pub spent : how_many is_spent others ≡ joined
  -- the views together hold each number below the word, once
  pub dense : IsPermutation (flat_map numbers_in state.views) (numbers_below word)
  -- the word is at most the greatest number of events plus the number of seats that draw no more
  pub bounded : word ≤ most_events + how_many is_over others

-- ---- what contracts see of a clock recorder and of its pens

-- How contracts see a `ClockRecorder`.
pub record ClockRecorderState : Type 0 where
  -- the number of pens that it was started with
  pub pens : ℕ
  -- its clock word
  pub clock : TableId

-- How contracts see a `ClockPen`.
pub record ClockPenState : Type 0 where
  -- what is known of it as of every pen
  pub pen : PenState
  -- the clock word of its recorder
  pub clock : TableId

-- a pen of this clock word through which nothing was recorded yet
abbrev pub new_clock_pen : TableId → ClockPenState
new_clock_pen clock = record { pen = new_pen; clock = clock }

-- the states of the pens, as those of pens of any form: without what is known of the clock word
abbrev pub pen_states : List ClockPenState → List PenState
pen_states pens = map (λ pen. pen.pen) pens
