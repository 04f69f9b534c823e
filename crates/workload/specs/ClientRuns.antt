-- Client runs: which lists of events, each with its number, a client records that takes its turns.
use Rattle.std.specs.Prelude.{◌≡◌, ℕ, ◌+◌, ◌<◌, ◌==◌, ◌⊎◌, suc, List, [], ◌∷◌, ◌++◌, Option, Some, None, codes, decimal, if◌then◌else◌, length, slice_get, take, unwrap_or}
use Rattle.version_pair.specs.declared.pair.Pair.{Pair}
use Rattle.doc_register.specs.declared.op.Op.{Op}
use Rattle.doc_register.specs.declared.op.Op.TheVariants.{Get, Index, Delete}
use Rattle.doc_register.specs.declared.reply.Reply.{Reply as Answer}
use Rattle.doc_register.specs.Register.{pair_of_reply}
use Rattle.events.specs.declared.event.Event.{Event}
use Rattle.events.specs.declared.event.Event.TheVariants.{Call, Reply, Lost}
use Rattle.recorder.specs.Pens.{IsRising, PenState}
use Rattle.recorder.specs.Recordings.{IsRecordingOf}
use Rattle.workload.specs.Plans.{turn_count}
use Rattle.workload.specs.declared.target.Progress.{Progress}
use Rattle.workload.specs.declared.target.Progress.TheVariants.{Waiting, Done, Unknown}
use Rattle.workload.specs.declared.target.Ticket.{Ticket}
use Rattle.workload.specs.declared.turn.Kind.{Kind}
use Rattle.workload.specs.declared.turn.Kind.TheVariants as kind
use Rattle.workload.specs.declared.turn.Turn.{Turn}

-- ---- what a client knows, and what it asks for

-- what a client knows: for each document, by its number, the pair last reported of it, if there is one
-- Source: profile.
abbrev pub LastPairs : Type 0
LastPairs = ℕ → Option Pair

-- at first no pair is known
-- Source: profile.
abbrev pub nothing_known : LastPairs
nothing_known doc = None

-- what is known after a reply about the document: of that document the pair in the reply, which is none after
-- Missing and Conflict
-- Source: profile.
abbrev pub after_reply : LastPairs → ℕ → Answer → LastPairs
after_reply known doc r = λ other. if other == doc then pair_of_reply r else known other

-- what is known after the ending of a call of the document; a lost call leaves it as it was
-- Source: profile.
abbrev pub after_ending : LastPairs → ℕ → Event → LastPairs
after_ending known doc (Call h n d op) = known
after_ending known doc (Reply n r) = after_reply known doc r
after_ending known doc (Lost n) = known

-- the pair that a list of pairs has of a document; none after its end
abbrev pub pair_in : List (Option Pair) → LastPairs
pair_in pairs doc = unwrap_or (slice_get pairs doc) None

-- the ending of the call numbered n of which this was heard, or nothing
abbrev pub ending_of : ℕ → Option Answer → Event
ending_of n None = Lost n
ending_of n (Some r) = Reply n r

-- the id of a document: a `d`, and its number in decimal
-- Source: profile.
abbrev pub doc_name : ℕ → List ℕ
doc_name doc = codes "d" ++ decimal doc

-- The operation of a turn, if this pair, or none, is known of its document; k is the number that a write
-- writes. A turn that needs a pair is a get if none is known.
-- Source: profile.
abbrev pub op_of : Kind → Option Pair → ℕ → Op
op_of kind.Get seen k = Get
op_of kind.Put seen k = Index k None
op_of kind.PutIfSeen None k = Get
op_of kind.PutIfSeen (Some p) k = Index k (Some p)
op_of kind.Delete seen k = Delete None
op_of kind.DeleteIfSeen None k = Get
op_of kind.DeleteIfSeen (Some p) k = Delete (Some p)

-- ---- the run of one client

-- Of a target: for which document and operation it issued a ticket, and what it gave when a ticket was
-- polled. Of a client: the greatest number of polls of a call.
module _ (issued : Ticket → List ℕ → Op → Type 0) (gave : Ticket → Progress → Type 0) (polls : ℕ) where
  -- the reply is one that the target gave to a ticket that it issued for that document and operation
  -- Source: profile.
  pub record IsAnswered (d : List ℕ) (op : Op) (r : Answer) : Type 0 where
    pub ticket : Ticket
    -- the target issued the ticket for them
    pub was_issued : issued ticket d op
    -- the target gave the reply to it
    pub was_given : gave ticket (Done r)

  -- for a ticket that it issued for that document and operation the target gave that the call waits, or that
  -- its outcome is unknown
  -- Source: profile.
  pub record IsUnanswered (d : List ℕ) (op : Op) : Type 0 where
    pub ticket : Ticket
    -- the target issued the ticket for them
    pub was_issued : issued ticket d op
    -- the target gave one of the two to it; if calls aren't polled at all, nothing is required of what it
    -- gave
    pub was_given : 0 < polls → gave ticket Waiting ⊎ gave ticket Unknown

  -- the event is the ending of the call numbered n, of that document and operation: a reply that was answered
  -- so, or a loss of a call that was left unanswered
  -- Source: profile.
  abbrev pub Ends : ℕ → List ℕ → Op → Event → Type 0
  Ends n d op (Call h m e o) = ⊥
  Ends n d op (Reply m r) = (m ≡ n) × IsAnswered d op r
  Ends n d op (Lost m) = (m ≡ n) × IsUnanswered d op

  -- What is recorded of one turn: a call and its ending.
  -- Source: profile.
  pub record IsTurn (known : LastPairs) (k : ℕ) (turn : Turn) (call ending : ℕ × Event) : Type 0 where
    -- the call, whose number is that of its own event, is of the operation of that turn
    pub called : call.1 ≡ Call 0 call.0 (doc_name turn.doc) (op_of turn.kind (known turn.doc) k)
    -- the ending is one of that call
    pub ended : Ends call.0 (doc_name turn.doc) (op_of turn.kind (known turn.doc) k) ending.1

  -- What is recorded of turns, one after the other, by a client that knows this before them. The write of the
  -- first turn writes the number k, each later one a number that is greater by one.
  -- Source: profile.
  unfoldable pub IsRunFrom : LastPairs → ℕ → List Turn → List (ℕ × Event) → Type 0
  IsRunFrom known k [] [] = Unit {0}
  IsRunFrom known k [] (entry ∷ entries) = ⊥
  IsRunFrom known k (turn ∷ turns) [] = ⊥
  IsRunFrom known k (turn ∷ turns) (call ∷ []) = ⊥
  IsRunFrom known k (turn ∷ turns) (call ∷ ending ∷ entries) =
      IsTurn known k turn call ending × IsRunFrom (after_ending known turn.doc ending.1) (suc k) turns entries

  -- The run of the client of that number. Each of its calls is ended before its next one: a client that
  -- overlaps with itself has no run. The numbers that are written count all turns of the plan, those of
  -- earlier clients first, from 1.
  -- Source: profile.
  pub record IsClientRun (clients : List (List Turn)) (client : ℕ) (entries : List (ℕ × Event)) : Type 0 where
    -- the turns of the client in the plan
    pub turns : List Turn
    pub turns_are : slice_get clients client ≡ Some turns
    -- it takes its turns, knowing nothing before them
    pub run : IsRunFrom nothing_known (1 + turn_count (take client clients)) turns entries
    -- the numbers of its events rise
    pub rising : IsRising entries

  -- Each pen's list has grown by the run of its client.
  -- Source: profile.
  pub record AreLongerByRuns (clients : List (List Turn)) (old new : List PenState) : Type 0 where
    -- there are as many pens as before
    pub count : length new ≡ length old
    -- each pen's list is longer by the run of the client of its number; if its numbers rose, they still rise
    pub each : (client : ℕ) (before after : PenState) → slice_get old client ≡ Some before → slice_get new client ≡ Some after
        → (entries : List (ℕ × Event)) × (after.list ≡ before.list ++ entries) × IsClientRun clients client entries
        × (IsRising before.list → IsRising after.list)

  -- The lists are, one for each client and in their order, the runs of the clients.
  -- Source: profile.
  pub record AreClientRuns (clients : List (List Turn)) (lists : List (List (ℕ × Event))) : Type 0 where
    -- there are as many lists as clients
    pub count : length lists ≡ length clients
    -- each list is the run of the client of its number
    pub each : (client : ℕ) (list : List (ℕ × Event)) → slice_get lists client ≡ Some list → IsClientRun clients client list

  -- The events are those of clients.
  -- Source: profile.
  pub record AreOfClients (clients : List (List Turn)) (events : List Event) : Type 0 where
    -- the lists of pens, one for each client of the plan
    pub lists : List (List (ℕ × Event))
    -- the list of each pen is the run of its client
    pub runs : AreClientRuns clients lists
    -- the events are the recording of these pens
    pub recording : IsRecordingOf lists events
