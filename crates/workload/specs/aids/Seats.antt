-- A client that is visited: its state between two visits, and what a visit does.
use Rattle.std.specs.Prelude.{◌≡◌, ℕ, suc, ◌+◌, ◌-◌, ◌*◌, ◌<◌, Bool, true, false, List, [], Option, Some, None, All, length, slice_get, sum_by, take, unwrap_or}
use Rattle.doc_register.specs.declared.op.Op.{Op}
use Rattle.events.specs.declared.event.Event.{Event}
use Rattle.recorder.specs.Pens.{PenState}
use Rattle.workload.specs.ClientRuns.{LastPairs, nothing_known, pair_in}
use Rattle.workload.specs.Plans.{turn_at, turn_count}
use Rattle.workload.specs.aids.Clients.{BeginsTurn, IsHeard, IsLongerByFront, IsOpenIn}
use Rattle.workload.specs.declared.polled_call.PolledCall.{PolledCall}
use Rattle.workload.specs.declared.polled_call.Polled.{Polled}
use Rattle.workload.specs.declared.polled_call.Polled.TheVariants.{Ends, Waits}
use Rattle.workload.specs.declared.seat.Seat.{Seat}
use Rattle.workload.specs.declared.target.Progress.{Progress}
use Rattle.workload.specs.declared.target.Progress.TheVariants.{Waiting}
use Rattle.workload.specs.declared.target.Ticket.{Ticket}
use Rattle.workload.specs.declared.turn.Turn.{Turn}

-- the turns of a client; none if there is no such client
abbrev pub turns_of : List (List Turn) → ℕ → List Turn
turns_of clients client = unwrap_or (slice_get clients client) []

-- the seat of the client of that number before its first turn, with its pen
pub record IsNew {P : Type 0} (client : ℕ) (pen : P) (seat : Seat P) : Type 0 where
  pub client_is : seat.client ≡ client
  pub pen_is : seat.pen ≡ pen
  pub knows : pair_in seat.known ≡ nothing_known
  pub begun_is : seat.begun ≡ 0
  pub is_idle : seat.open_call ≡ None

-- the seats of all clients in their order before their first turns, with their pens
pub record AreNew {P : Type 0} (pens : List P) (seats : List (Seat P)) : Type 0 where
  pub count : length seats ≡ length pens
  pub each : (i : ℕ) (pen : P) (seat : Seat P) → slice_get pens i ≡ Some pen → slice_get seats i ≡ Some seat → IsNew i pen seat

-- no call is open, and no turn is left to begin
pub record IsDone {P : Type 0} (clients : List (List Turn)) (seat : Seat P) : Type 0 where
  pub is_idle : seat.open_call ≡ None
  pub is_at_end : turn_at clients seat.client seat.begun ≡ None

-- the greatest number of visits that an open call takes: its polls, or one that loses it without a poll
abbrev pub visits_for : Option PolledCall → ℕ
visits_for None = 0
visits_for (Some polled) = polled.polls_left + 1

-- the greatest number of visits that a client takes: for each turn that isn't begun one that begins it, and
-- those of its call
abbrev pub visits_left : {P : Type 0} → List (List Turn) → ℕ → Seat P → ℕ
visits_left clients polls seat = (length (turns_of clients seat.client) - seat.begun) * (polls + 2) + visits_for seat.open_call

-- if a call is open, the list has it
abbrev pub IsOpenIfAny : (Ticket → List ℕ → Op → Type 0) → List (ℕ × Event) → Option PolledCall → Type 0
IsOpenIfAny issued list None = Unit {0}
IsOpenIfAny issued list (Some polled) = IsOpenIn issued list polled.call

-- The effect of one visit on the turns begun and on the open call: it begins one turn, whose call may be
-- polled this often, or nothing if no turn is left; or it polls the open call once, which then has its ending
-- or one poll less.
abbrev pub IsOneStep : ℕ → ℕ → ℕ → Option PolledCall → Option PolledCall → Type 0
IsOneStep polls before after None None = after ≡ before
IsOneStep polls before after None (Some opened) = (after ≡ suc before) × (opened.polls_left ≡ polls)
IsOneStep polls before after (Some polled) None = after ≡ before
IsOneStep polls before after (Some polled) (Some next) = (after ≡ before) × (suc next.polls_left ≡ polled.polls_left)

-- the client was visited once
abbrev pub IsVisitedOnce : {P : Type 0} → ℕ → Seat P → Seat P → Type 0
IsVisitedOnce polls old new = IsOneStep polls old.begun new.begun old.open_call new.open_call

-- each client was visited once
pub record AreVisitedOnce {P : Type 0} (polls : ℕ) (old new : List (Seat P)) : Type 0 where
  pub count : length new ≡ length old
  pub each : (i : ℕ) (before after : Seat P) → slice_get old i ≡ Some before → slice_get new i ≡ Some after → IsVisitedOnce polls before after

module _ (issued : Ticket → List ℕ → Op → Type 0) (gave : Ticket → Progress → Type 0) where
  -- What a poll reports of a call that may be polled this many more times: that it waits and may be polled
  -- again, or what was heard of it.
  abbrev pub IsPolled : PolledCall → Polled → Type 0
  IsPolled polled Waits = (0 < polled.polls_left) × gave polled.call.ticket Waiting
  IsPolled polled (Ends heard) = IsHeard issued gave polled.polls_left polled.call.ticket heard

  module _ (polls : ℕ) where
    -- The last turn that was begun is open: the list is longer by a run of the turns before it, and by its
    -- call, which waited if it was polled.
    pub record IsLongerByOpen (first : ℕ) (turns : List Turn) (begun : ℕ) (known : LastPairs) (old new : List (ℕ × Event)) (polled : PolledCall) : Type 0 where
      pub place : ℕ
      pub is_last : begun ≡ place + 1
      pub turn : Turn
      pub turn_is : slice_get turns place ≡ Some turn
      pub between : List (ℕ × Event)
      pub front : IsLongerByFront issued gave polls first turns place known old between
      pub begins : BeginsTurn issued known (first + place) turn between new polled.call
      pub waited : polled.polls_left < polls → gave polled.call.ticket Waiting

    -- The list is longer by a run of the turns begun; the last of them is open if a call is.
    abbrev pub IsLongerSoFar : ℕ → List Turn → ℕ → LastPairs → List (ℕ × Event) → List (ℕ × Event) → Option PolledCall → Type 0
    IsLongerSoFar first turns begun known old new None = IsLongerByFront issued gave polls first turns begun known old new
    IsLongerSoFar first turns begun known old new (Some polled) = IsLongerByOpen first turns begun known old new polled

    module _ {P : Type 0} (state : P → PenState) (clients : List (List Turn)) where
      -- The seat is that of the client of that number, whose pen had this list before its first turn.
      pub record IsSeated (client : ℕ) (old : List (ℕ × Event)) (seat : Seat P) : Type 0 where
        pub client_is : seat.client ≡ client
        pub turns : List Turn
        pub turns_are : slice_get clients client ≡ Some turns
        pub longer : IsLongerSoFar (1 + turn_count (take client clients)) turns seat.begun (pair_in seat.known) old (state seat.pen).list seat.open_call

      -- A visit doesn't change whose seat it is. If there was something to do, fewer visits are left after
      -- it; otherwise the client is done, and nothing has changed.
      pub record Visits (old new : Seat P) (acted : Bool) : Type 0 where
        pub same_client : new.client ≡ old.client
        pub keeps : (client : ℕ) (list : List (ℕ × Event)) → IsSeated client list old → IsSeated client list new
        pub fewer : acted ≡ true → visits_left clients polls new < visits_left clients polls old
        pub done : acted ≡ false → (new ≡ old) × IsDone clients old

      -- the seats of the clients in their order, whose pens had these lists before their first turns
      pub record AreSeated (old : List P) (seats : List (Seat P)) : Type 0 where
        pub count : length seats ≡ length old
        pub each : (i : ℕ) (pen : P) (seat : Seat P) → slice_get old i ≡ Some pen → slice_get seats i ≡ Some seat
            → IsSeated i (state pen).list seat

      -- A round visits each client once. If one had something to do, fewer visits are left after it;
      -- otherwise all are done, and nothing has changed.
      pub record VisitsEach (old new : List (Seat P)) (acted : Bool) : Type 0 where
        pub keeps : (pens : List P) → AreSeated pens old → AreSeated pens new
        pub fewer : acted ≡ true → sum_by (visits_left clients polls) new < sum_by (visits_left clients polls) old
        pub done : acted ≡ false → (new ≡ old) × All (IsDone clients) old
