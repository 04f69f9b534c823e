-- Pens: what was recorded through a pen, what its list refuses, and what a recording reports.
use Rattle.std.specs.Prelude.{◌≡◌, ℕ, ◌<◌, ◌≤◌, ◌||◌, Bool, true, false, List, [], ◌∷◌, ◌++◌, Option, Some, None, Result, Ok, Err, IfOk, OnErr, All, AllPairs, Any, if◌then◌else◌, map}
use Rattle.std.specs.List.{list_any}
use Rattle.std.specs.Option.{option_map_or}
use Rattle.doc_register.specs.Register.{fits}
use Rattle.events.specs.declared.event.Event.{Event}
use Rattle.events.specs.declared.event.Event.TheVariants.{Call, Reply, Lost}
use Rattle.events.specs.Events.{is_ending}
use Rattle.events.specs.Refusal.{most_events, op_of}
use Rattle.recorder.specs.declared.fault.RecFault.{RecFault}
use Rattle.recorder.specs.declared.fault.RecFault.TheVariants.{NotMine, Ended, Kind, Full, NoMemory, Rewound}

-- What is known of a pen.
-- Source: profile.
pub record PenState : Type 0 where
  -- the events that were recorded through it, in their order, each with its number
  pub list : List (ℕ × Event)
  -- whether a recording through it reported that the recording is full
  pub is_full : Bool

-- a pen through which nothing was recorded yet
abbrev pub new_pen : PenState
new_pen = record { list = []; is_full = false }

-- the events of a list, without their numbers
abbrev pub events_in : List (ℕ × Event) → List Event
events_in list = map (λ entry. entry.1) list

-- the numbers rise
abbrev pub IsRising : List (ℕ × Event) → Type 0
IsRising list = AllPairs (λ x y. x.0 < y.0) list

-- ---- what a pen's list refuses

-- the call numbered n has its ending in the list
abbrev pub is_ended : List (ℕ × Event) → ℕ → Bool
is_ended list n = list_any (is_ending n) (events_in list)

-- no call in the list has the number n, and no ending in it is of such a call
abbrev pub IsUnused : ℕ → List (ℕ × Event) → Type 0
IsUnused n list = (op_of (events_in list) n ≡ None) × (is_ended list n ≡ false)

-- The first reason of a pen's list to refuse an event. For an ending: NotMine if its call isn't in the list,
-- Ended if it has an ending already, Kind if the reply doesn't fit its operation. For a call there is none.
-- Source: profile.
abbrev pub refusal_of : List (ℕ × Event) → Event → Option RecFault
refusal_of list (Call h n d op) = None
refusal_of list (Reply n r) =
    option_map_or (λ op. if is_ended list n then Some Ended else (if fits op r then None else Some Kind))
    (op_of (events_in list) n) (Some NotMine)
refusal_of list (Lost n) =
    option_map_or (λ op. if is_ended list n then Some Ended else None) (op_of (events_in list) n) (Some NotMine)

-- the reason by the pen's list that an answer reports: NotMine, Ended or Kind
abbrev pub reported_by_list : Result ℕ RecFault → Option RecFault
reported_by_list (Ok n) = None
reported_by_list (Err NotMine) = Some NotMine
reported_by_list (Err Ended) = Some Ended
reported_by_list (Err Kind) = Some Kind
reported_by_list (Err Full) = None
reported_by_list (Err NoMemory) = None
reported_by_list (Err (Rewound n)) = None

-- ---- what a recording reports

-- the answer is that the recording is full
abbrev pub reports_full : Result ℕ RecFault → Bool
reports_full (Ok n) = false
reports_full (Err NotMine) = false
reports_full (Err Ended) = false
reports_full (Err Kind) = false
reports_full (Err Full) = true
reports_full (Err NoMemory) = false
reports_full (Err (Rewound n)) = false

-- What a recording returns, and how it changes the pen. `recorded` is the event at each number; the reason is
-- the one for which the pen's list refuses it, if it does.
-- Source: profile.
pub record Records (old : PenState) (reason : Option RecFault) (recorded : ℕ → Event) (answer : Result ℕ RecFault) (new : PenState) : Type 0 where
  -- if a number is returned, the list grows by the number and its event
  pub grows : IfOk answer (λ n. new.list ≡ old.list ++ (n, recorded n) ∷ [])
  -- otherwise it stays as it was
  pub stays : OnErr answer (new.list ≡ old.list)
  -- the number is above all in the list
  pub above : IfOk answer (λ n. All (λ entry. entry.0 < n) old.list)
  -- the number is below the greatest number of events
  pub below : IfOk answer (λ n. n < most_events)
  -- it is the number of no call in the list
  pub unused : IfOk answer (λ n. IsUnused n old.list)
  -- a reason by the list is reported if and only if the list has it
  pub by_list : reported_by_list answer ≡ reason
  -- if a pen is full, Full is returned for it whenever its list refuses nothing
  pub full : reason ≡ None → old.is_full ≡ true → answer ≡ Err Full
  -- a pen is full once Full was returned for it
  pub full_from_then : new.is_full ≡ (old.is_full || reports_full answer)
  -- Rewound with n is reported only if the pen's list has a number of at least n
  pub rewound : (n : ℕ) → answer ≡ Err (Rewound n) → Any (λ entry. n ≤ entry.0) old.list
