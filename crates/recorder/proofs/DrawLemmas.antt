-- What the seat of a pen drew, after a recording and at the end.
use Rattle.std.proofs.Common.{ℕ, ◌≡◌, ◌≢◌, ◌<◌, ◌≤◌, List, [], ◌∷◌, ◌++◌, refl, sym, ap, subst, ◌∙◌, None, Result, Ok, Err, Bool, true, false, All, IfOk, OnErr}
use Rattle.std.specs.Prelude.{cond, ◌||◌, if◌then◌else◌, nat_lt}
use Rattle.std.specs.List.{filter, list_any}
use Rattle.std.proofs.lemmas.Bool.{ltb-true, le-ltb, lt-ltb, both_ways}
use Rattle.std.proofs.lemmas.List.{append-nil}
use Rattle.std.proofs.lemmas.List.Elements.{All-cons, All-head, All-nil, All-tail, filter-append}
use Rattle.std.proofs.lemmas.List.Folds.{list_any-append}
use Rattle.atomic_table.specs.Table.{Me}
use Rattle.events.specs.declared.event.Event.{Event}
use Rattle.events.specs.Refusal.{most_events}
use Rattle.recorder.specs.declared.clock_view.ClockView.{ClockView}
use Rattle.recorder.specs.declared.fault.RecFault.{RecFault}
use Rattle.recorder.specs.declared.fault.RecFault.TheVariants.{Full, Rewound}
use Rattle.recorder.specs.Clock.{is_past, numbers_in}
use Rattle.recorder.specs.Pens.{IsUnused, PenState, Records, reports_full, reported_by_list}
use Rattle.recorder.specs.aids.Drawing.{HasDrawn, IsSeatFor, numbers_of_events}
use Rattle.recorder.specs.aids.Notes.{numbers_of}
use Rattle.version_pair.proofs.TruthLemmas.{or-true}

-- ---- numbers of events

pub kept_under : (most : ℕ) (ns : List ℕ) → All (λ n. n < most) ns → filter (λ n. nat_lt n most) ns ≡ ns
kept_under most [] below = refl
kept_under most (n ∷ ns) below =
    ap (λ b. cond b (n ∷ filter (λ m. nat_lt m most) ns) (filter (λ m. nat_lt m most) ns)) (lt-ltb n most (All-head (λ m. m < most) n ns below))
    ∙ ap (λ rest. n ∷ rest) (kept_under most ns (All-tail (λ m. m < most) n ns below))

pub none_under : (most : ℕ) (ns : List ℕ) → All (λ n. most ≤ n) ns → filter (λ n. nat_lt n most) ns ≡ []
none_under most [] up = refl
none_under most (n ∷ ns) up =
    ap (λ b. cond b (n ∷ filter (λ m. nat_lt m most) ns) (filter (λ m. nat_lt m most) ns)) (le-ltb n most (All-head (λ m. most ≤ m) n ns up))
    ∙ none_under most ns (All-tail (λ m. most ≤ m) n ns up)

-- ---- the seat

-- at the end: what the seat drew, but for what is no event's, are the numbers of the entries
pub seat_for : (pen : PenState) (seat : Me (Unit {0}) ClockView) → HasDrawn pen seat → IsSeatFor pen seat
seat_for pen seat drew = (
  numbers_of pen.list ++ drew.past,
  drew.view,
  filter-append (λ n. nat_lt n most_events) (numbers_of pen.list) drew.past
      ∙ (ap (λ rest. numbers_of_events (numbers_of pen.list) ++ rest) (none_under most_events drew.past drew.no_events)
      ∙ (append-nil (numbers_of_events (numbers_of pen.list)) ∙ kept_under most_events (numbers_of pen.list) drew.events)),
  λ full. list_any-append is_past (numbers_of pen.list) drew.past
      ∙ (ap (λ b. list_any is_past (numbers_of pen.list) || b) (drew.when_full full) ∙ or-true (list_any is_past (numbers_of pen.list))),
)

-- a drawn number is not answered by saying that the recording was rewound
never_rewound : (n : ℕ) (answer : Result ℕ RecFault) → answer ≡ (if nat_lt n most_events then Ok n else Err Full) → (m : ℕ) → answer ≢ Err (Rewound m)
never_rewound n answer is m reported = by_test (nat_lt n most_events) (sym is ∙ reported) where
  by_test : (b : Bool) → (if b then Ok n else Err Full) ≡ Err (Rewound m) → ⊥
  by_test true reported = let impossible : Ok n ≡ Err (Rewound m) = reported in cc
  by_test false reported = let impossible : Err Full ≡ Err (Rewound m) = reported in cc

-- what becomes of the pen
record IsComplete (old new : PenState) (event : ℕ → Event) (answer : Result ℕ RecFault) : Type 0 where
  pub ok : IfOk answer (λ n. new.list ≡ old.list ++ (n, event n) ∷ [])
  pub err : OnErr answer (new.list ≡ old.list)
  pub full : new.is_full ≡ (old.is_full || reports_full answer)

held_of : (old : PenState) (seat : Me (Unit {0}) ClockView) → HasDrawn old seat → old.is_full ≡ false → numbers_in seat.0 ≡ numbers_of old.list
held_of old seat drew open_ =
    ap (λ me. numbers_in me.0) drew.view ∙ (ap (λ past. numbers_of old.list ++ past) (drew.when_open open_) ∙ append-nil (numbers_of old.list))

-- the number that is answered is above all in the list
pub answered_above : (old : PenState) (seat : Me (Unit {0}) ClockView) (n : ℕ) (answer : Result ℕ RecFault)
    → answer ≡ (if nat_lt n most_events then Ok n else Err Full) → HasDrawn old seat → old.is_full ≡ false → All (λ m. m < n) (numbers_in seat.0)
    → IfOk answer (λ n. All (λ entry. entry.0 < n) old.list)
answered_above old seat n answer is drew open_ above =
    subst (λ a. IfOk a (λ n. All (λ entry. entry.0 < n) old.list)) (sym is)
    (by_test (nat_lt n most_events) (below_each old.list (subst (λ ns. All (λ m. m < n) ns) (held_of old seat drew open_) above))) where
      below_each : (list : List (ℕ × Event)) → All (λ m. m < n) (numbers_of list) → All (λ entry. entry.0 < n) list
      below_each [] all = All-nil (λ entry. entry.0 < n)
      below_each (x ∷ xs) all = All-cons (λ entry. entry.0 < n) x xs (All-head (λ m. m < n) x.0 (numbers_of xs) all) (below_each xs (All-tail (λ m. m < n) x.0 (numbers_of xs) all))

      by_test : (b : Bool) → All (λ entry. entry.0 < n) old.list → IfOk (if b then Ok n else Err Full) (λ n. All (λ entry. entry.0 < n) old.list)
      by_test true all = all
      by_test false all = tt

-- what is answered then
pub clock_recorded : (old new : PenState) (event : ℕ → Event) (seat : Me (Unit {0}) ClockView) (n : ℕ) (answer : Result ℕ RecFault)
    → answer ≡ (if nat_lt n most_events then Ok n else Err Full) → HasDrawn old seat → old.is_full ≡ false → All (λ m. m < n) (numbers_in seat.0)
    → IfOk answer (λ n. new.list ≡ old.list ++ (n, event n) ∷ []) → OnErr answer (new.list ≡ old.list) → new.is_full ≡ (old.is_full || reports_full answer)
    → IfOk answer (λ n. IsUnused n old.list) → Records old None event answer new
clock_recorded old new event seat n answer is drew open_ above ok err full unused = record {
  grows = ok;
  stays = err;
  above = answered_above old seat n answer is drew open_ above;
  below = subst (λ a. IfOk a (λ n. n < most_events)) (sym is) (below_most (nat_lt n most_events) refl);
  unused = unused;
  by_list = ap reported_by_list is ∙ no_reason (nat_lt n most_events);
  full = λ _ was. absurd (both_ways old.is_full open_ was);
  full_from_then = full;
  rewound = λ m reported. absurd (never_rewound n answer is m reported);
} where
  below_most : (b : Bool) → nat_lt n most_events ≡ b → IfOk (if b then Ok n else Err Full) (λ n. n < most_events)
  below_most true less = ltb-true n most_events less
  below_most false past = tt

  no_reason : (b : Bool) → reported_by_list (if b then Ok n else Err Full) ≡ None
  no_reason true = refl
  no_reason false = refl
