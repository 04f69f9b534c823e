-- Clients that are played in turns against a target that nobody else asks: what their visits record, one
-- after the other. A `Player` is a client between two visits.
use Rattle.std.specs.Prelude.{◌≡◌, ℕ, zero, suc, ◌+◌, ◌-◌, All, List, [], ◌∷◌, ◌++◌, MatchBool, Option, Some, None, if◌then◌else◌, length, nat_lt, slice_get, slice_set, take}
use Rattle.doc_register.specs.declared.op.Op.{Op}
use Rattle.doc_register.specs.declared.reply.Reply.{Reply as Answer}
use Rattle.events.specs.declared.event.Event.{Event}
use Rattle.events.specs.declared.event.Event.TheVariants.{Call}
use Rattle.workload.specs.ClientRuns.{after_ending, doc_name, ending_of, nothing_known, op_of, pair_in}
use Rattle.workload.specs.Plans.{turn_at, turn_count}
use Rattle.workload.specs.declared.open_call.OpenCall.{OpenCall}
use Rattle.workload.specs.declared.player.Player.{Player}
use Rattle.workload.specs.declared.polled_call.PolledCall.{PolledCall}
use Rattle.workload.specs.declared.polled_call.Polled.{Polled}
use Rattle.workload.specs.declared.polled_call.Polled.TheVariants.{Ends, Waits}
use Rattle.workload.specs.declared.target.Progress.{Progress}
use Rattle.workload.specs.declared.target.Progress.TheVariants.{Waiting, Done, Unknown}
use Rattle.workload.specs.declared.target.Ticket.{Ticket}
use Rattle.workload.specs.declared.turn.Turn.{Turn}

-- ---- one client

-- the client of that number before its first turn
pub record IsNewPlayer (client : ℕ) (player : Player) : Type 0 where
  -- it has that number
  pub client_is : player.client ≡ client
  -- it knows nothing
  pub knows : pair_in player.known ≡ nothing_known
  -- it has begun no turn
  pub begun_is : player.begun ≡ 0
  -- it has no open call
  pub is_idle : player.open_call ≡ None

-- that many clients in their order, before their first turns
pub record AreNewPlayers (count : ℕ) (players : List Player) : Type 0 where
  pub count_is : length players ≡ count
  pub each : (i : ℕ) (player : Player) → slice_get players i ≡ Some player → IsNewPlayer i player

-- the client is done
pub record IsPlayedOut (clients : List (List Turn)) (player : Player) : Type 0 where
  -- no call is open
  pub is_idle : player.open_call ≡ None
  -- no turn is left to begin
  pub is_at_end : turn_at clients player.client player.begun ≡ None

-- The operation of this turn, the client's next one, by what it knows (`op_of`). The numbers that writes
-- write count all turns of the plan, those of earlier clients first, from 1, as in a client run.
-- Source: profile.
abbrev pub asked_at : List (List Turn) → Player → Turn → Op
asked_at clients player turn =
    op_of turn.kind (pair_in player.known turn.doc) (1 + turn_count (take player.client clients) + player.begun)

-- The result of a poll of a call that may be polled this many more times: it waits on, if that is reported
-- and it may be polled again; it ends with the reply that is reported; otherwise it is lost.
-- Source: profile.
abbrev pub polled_to : ℕ → Progress → Polled
polled_to left Waiting = if nat_lt 1 left then Waits else Ends None
polled_to left (Done r) = Ends (Some r)
polled_to left Unknown = Ends None

-- The open call ends, with a reply or lost.
-- Source: profile.
pub record EndsCall (call : OpenCall) (heard : Option Answer) (old : Player) (before : List Event) (new : Player) (after : List Event) : Type 0 where
  -- its ending is recorded after the events before
  pub recorded : after ≡ before ++ ending_of call.no heard ∷ []
  -- the client knows what the reply reports
  pub knows : pair_in new.known ≡ after_ending (pair_in old.known) call.doc (ending_of call.no heard)
  -- it has no open call
  pub closed : new ≡ record old { known = new.known; open_call = None }

-- after a poll that came to this: the call stays open, with one poll less, or it ends
-- Source: profile.
abbrev pub GoesOn : PolledCall → Polled → Player → List Event → Player → List Event → Type 0
GoesOn polled Waits old before new after =
    (new ≡ record old { open_call = Some (record polled { polls_left = polled.polls_left - 1 }) }) × (after ≡ before)
GoesOn polled (Ends heard) old before new after = EndsCall polled.call heard old before new after

-- The open call is polled once, and what the target reports decides how it goes on.
-- Source: profile.
pub record PollsCall {S : Type 0} (reports : S → Ticket → Progress → S → Type 0) (polled : PolledCall) (w : S) (old : Player) (before : List Event) (w' : S) (new : Player) (after : List Event) : Type 0 where
  -- what the target reports
  pub progress : Progress
  -- the target reports it, and goes on to its next state
  pub reported : reports w polled.call.ticket progress w'
  -- the report decides how the call goes on
  pub goes_on : GoesOn polled (polled_to polled.polls_left progress) old before new after

-- the open call is lost, and the target isn't asked
-- Source: profile.
abbrev pub LosesCall : {S : Type 0} → PolledCall → S → Player → List Event → S → Player → List Event → Type 0
LosesCall polled w old before w' new after = (w' ≡ w) × EndsCall polled.call None old before new after

-- ---- all clients, and the target

-- The state between two visits.
pub record PlayState (S : Type 0) : Type 0 where
  -- the target
  pub target : S
  -- the clients in their order
  pub players : List Player
  -- the events that were recorded, in their order
  pub events : List Event

-- Of a target: its state before and after it returns a ticket for an operation on a document, and before and
-- after it reports on a ticket. Of the clients: the greatest number of polls of a call, and their turns.
module _ {S : Type 0} (takes : S → List ℕ → Op → Ticket → S → Type 0) (reports : S → Ticket → Progress → S → Type 0) (polls : ℕ) (clients : List (List Turn)) where
  -- The client begins this turn: its call is recorded, and then submitted.
  -- Source: profile.
  pub record BeginsCall (turn : Turn) (w : S) (old : Player) (before : List Event) (w' : S) (new : Player) (after : List Event) : Type 0 where
    pub call : OpenCall
    -- the call is numbered by how many events there are
    pub numbered : call.no ≡ length before
    -- it is of the document of the turn
    pub of_document : call.doc ≡ turn.doc
    -- it is recorded, on shard 0, after the events before
    pub recorded : after ≡ before ++ Call 0 (length before) (doc_name turn.doc) (asked_at clients old turn) ∷ []
    -- it is submitted to the target
    pub submitted : takes w (doc_name turn.doc) (asked_at clients old turn) call.ticket w'
    -- it is the client's open call, with all its polls
    pub opened : new ≡ record old { begun = old.begun + 1; open_call = Some (record { call = call; polls_left = polls }) }

  -- A visit to a client with this open call and this next turn, if it has them: the open call is polled, or
  -- lost if it may not be polled; otherwise the next turn is begun; otherwise nothing happens.
  -- Source: profile.
  abbrev pub VisitsWith : Option PolledCall → Option Turn → S → Player → List Event → S → Player → List Event → Type 0
  VisitsWith (Some polled) turn w old before w' new after =
      MatchBool (nat_lt 0 polled.polls_left) (PollsCall reports polled w old before w' new after) (LosesCall polled w old before w' new after)
  VisitsWith None (Some turn) w old before w' new after = BeginsCall turn w old before w' new after
  VisitsWith None None w old before w' new after = (w' ≡ w) × (new ≡ old) × (after ≡ before)

  -- the client is visited, by its own open call and its next turn
  -- Source: profile.
  abbrev pub VisitsPlayer : S → Player → List Event → S → Player → List Event → Type 0
  VisitsPlayer w old before w' new after = VisitsWith old.open_call (turn_at clients old.client old.begun) w old before w' new after

  -- the client at this index is visited, and the others stay as they were
  pub record VisitsAt (i : ℕ) (old new : PlayState S) : Type 0 where
    pub before : Player
    pub after : Player
    pub is_there : slice_get old.players i ≡ Some before
    -- the client at this index is visited
    pub visited : VisitsPlayer old.target before old.events new.target after new.events
    -- the others stay as they were
    pub others_stay : new.players ≡ slice_set old.players i after

  -- the first clients, this many, are visited in their order
  unfoldable pub AreVisited : ℕ → PlayState S → PlayState S → Type 0
  AreVisited zero old new = new ≡ old
  AreVisited (suc i) old new = (between : PlayState S) × AreVisited i old between × VisitsAt i between new

  -- This many rounds: each visits each client once, in their order.
  unfoldable pub AreRounds : ℕ → PlayState S → PlayState S → Type 0
  AreRounds zero old new = new ≡ old
  AreRounds (suc n) old new = (between : PlayState S) × AreRounds n old between × AreVisited (length clients) between new

  -- The clients are played in turns, and record these events. What is left open is what the target's
  -- relations leave open: if these answer in one way alone, there is one such list of events.
  -- Source: profile.
  pub record ArePlayed (first last : S) (events : List Event) : Type 0 where
    -- the clients at first
    pub new : List Player
    -- at first they are new
    pub are_new : AreNewPlayers (length clients) new
    -- the clients at last
    pub done : List Player
    -- at last all are played out
    pub are_done : All (IsPlayedOut clients) done
    -- the number of rounds
    pub rounds : ℕ
    -- that many rounds lead from the first state of the target, with nothing recorded, to the last one, with
    -- these events recorded
    pub played : AreRounds rounds (record { target = first; players = new; events = [] }) (record { target = last; players = done; events = events })
