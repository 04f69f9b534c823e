-- A client at its turns.
use Rattle.std.specs.Prelude.{◌≡◌, ℕ, ◌+◌, ◌<◌, ◌⊎◌, All, List, [], ◌∷◌, ◌++◌, Option, Some, None, drop, false, IfErr, IfOk, Result}
use Rattle.doc_register.specs.declared.op.Op.{Op}
use Rattle.doc_register.specs.declared.reply.Reply.{Reply as Answer}
use Rattle.doc_register.specs.Register.{fits}
use Rattle.events.specs.declared.event.Event.{Event}
use Rattle.events.specs.declared.event.Event.TheVariants.{Call}
use Rattle.events.specs.Refusal.{op_of as op_called}
use Rattle.recorder.specs.Pens.{IsRising, PenState, events_in, is_ended}
use Rattle.workload.specs.ClientRuns.{IsClientRun, IsRunFrom, IsTurn, LastPairs, after_ending, doc_name, ending_of, nothing_known, op_of}
use Rattle.workload.specs.declared.open_call.OpenCall.{OpenCall}
use Rattle.workload.specs.declared.run_fault.RunFault.{RunFault}
use Rattle.workload.specs.declared.target.Progress.{Progress}
use Rattle.workload.specs.declared.target.Progress.TheVariants.{Waiting, Done, Unknown}
use Rattle.workload.specs.declared.target.Ticket.{Ticket}
use Rattle.workload.specs.declared.turn.Turn.{Turn}

-- The list is longer by the call of the turn, which is open: its ticket was issued for the operation of that
-- turn.
pub record BeginsTurn (issued : Ticket → List ℕ → Op → Type 0) (known : LastPairs) (k : ℕ) (turn : Turn) (old new : List (ℕ × Event)) (call : OpenCall) : Type 0 where
  pub grows : new ≡ old ++ (call.no, Call 0 call.no (doc_name turn.doc) (op_of turn.kind (known turn.doc) k)) ∷ []
  pub above : All (λ entry. entry.0 < call.no) old
  pub is_of : call.doc ≡ turn.doc
  pub was_issued : issued call.ticket (doc_name turn.doc) (op_of turn.kind (known turn.doc) k)

-- The list has the call and no ending of it, and its ticket was issued for its operation.
pub record IsOpenIn (issued : Ticket → List ℕ → Op → Type 0) (list : List (ℕ × Event)) (call : OpenCall) : Type 0 where
  pub document : List ℕ
  pub op : Op
  pub called : op_called (events_in list) call.no ≡ Some op
  pub unended : is_ended list call.no ≡ false
  pub was_issued : issued call.ticket document op

-- What was heard of the call numbered n is a reply that its operation doesn't have.
pub record IsMisheard (list : List (ℕ × Event)) (n : ℕ) (heard : Option Answer) : Type 0 where
  pub op : Op
  pub called : op_called (events_in list) n ≡ Some op
  pub reply : Answer
  pub is_heard : heard ≡ Some reply
  pub misfits : fits op reply ≡ false

-- The list is longer by the ending of the open call of which this was heard, or nothing, and this is known
-- after it.
pub record EndsTurn (call : OpenCall) (heard : Option Answer) (known : LastPairs) (old new : List (ℕ × Event)) (after : LastPairs) : Type 0 where
  pub number : ℕ
  pub grows : new ≡ old ++ (number, ending_of call.no heard) ∷ []
  pub above : All (λ entry. entry.0 < number) old
  pub knows : after ≡ after_ending known call.doc (ending_of call.no heard)

module _ (issued : Ticket → List ℕ → Op → Type 0) (gave : Ticket → Progress → Type 0) (polls : ℕ) where
  -- what is heard of a ticket that is polled: a reply, or nothing if it waits, or if its outcome is unknown
  abbrev pub IsHeard : Ticket → Option Answer → Type 0
  IsHeard ticket None = 0 < polls → gave ticket Waiting ⊎ gave ticket Unknown
  IsHeard ticket (Some r) = gave ticket (Done r)

  -- The list is longer by what is recorded of the turn, and this is known after it.
  pub record TakesTurn (known : LastPairs) (k : ℕ) (turn : Turn) (old new : List (ℕ × Event)) (after : LastPairs) : Type 0 where
    pub call : ℕ × Event
    pub ending : ℕ × Event
    pub grows : new ≡ old ++ call ∷ ending ∷ []
    pub above : All (λ entry. entry.0 < call.0) old
    pub later : call.0 < ending.0
    pub is_turn : IsTurn issued gave polls known k turn call ending
    pub knows : after ≡ after_ending known turn.doc ending.1

  -- The entries are a run so far, of the first i turns: if what follows is a run of the turns that are left,
  -- the whole is one.
  pub record IsFront (first : ℕ) (turns : List Turn) (i : ℕ) (known : LastPairs) (entries : List (ℕ × Event)) : Type 0 where
    pub onward : (rest : List (ℕ × Event)) → IsRunFrom issued gave polls known (first + i) (drop i turns) rest
        → IsRunFrom issued gave polls nothing_known first turns (entries ++ rest)

  -- The list is longer by a run so far.
  pub record IsLongerByFront (first : ℕ) (turns : List Turn) (i : ℕ) (known : LastPairs) (old new : List (ℕ × Event)) : Type 0 where
    pub entries : List (ℕ × Event)
    pub grows : new ≡ old ++ entries
    pub front : IsFront first turns i known entries
    pub rising : IsRising entries
    pub rises : IsRising old → IsRising new

  -- The list is longer by a run of these turns.
  pub record IsLongerByRun (first : ℕ) (turns : List Turn) (old new : List (ℕ × Event)) : Type 0 where
    pub entries : List (ℕ × Event)
    pub grows : new ≡ old ++ entries
    pub run : IsRunFrom issued gave polls nothing_known first turns entries
    pub rising : IsRising entries
    pub rises : IsRising old → IsRising new

  -- The list is longer by the run of the client of that number.
  pub record IsLongerByClient (clients : List (List Turn)) (client : ℕ) (old new : List (ℕ × Event)) : Type 0 where
    pub entries : List (ℕ × Event)
    pub grows : new ≡ old ++ entries
    pub run : IsClientRun issued gave polls clients client entries
    pub rises : IsRising old → IsRising new

  -- The run of a job, which is the number of a client and its pen, returns that pen, whose list is longer by
  -- the run of that client; or a fault that has a cause.
  pub record RunsJob {P : Type 0} (state : P → PenState) (is_ours : P → Type 0) (has_cause : RunFault → Type 0) (clients : List (List Turn)) (job : ℕ × P) (result : Result P RunFault) : Type 0 where
    pub runs : IfOk result (λ done. IsLongerByClient clients job.0 (state job.1).list (state done).list × is_ours done)
    pub cause : IfErr result has_cause
