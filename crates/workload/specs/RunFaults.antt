-- Run faults: the causes of the faults of a run of clients.
use Rattle.std.specs.Prelude.{◌≡◌, ℕ, ◌≤◌, Any, List, false, true}
use Rattle.doc_register.specs.declared.op.Op.{Op}
use Rattle.doc_register.specs.declared.reply.Reply.{Reply as Answer}
use Rattle.doc_register.specs.Register.{fits}
use Rattle.recorder.specs.declared.fault.RecFault.{RecFault}
use Rattle.recorder.specs.declared.fault.RecFault.TheVariants as recording
use Rattle.recorder.specs.Pens.{PenState}
use Rattle.workload.specs.declared.run_fault.RunFault.{RunFault}
use Rattle.workload.specs.declared.run_fault.RunFault.TheVariants as run
use Rattle.workload.specs.declared.target.Progress.{Progress}
use Rattle.workload.specs.declared.target.Progress.TheVariants.{Done}
use Rattle.workload.specs.declared.target.TargetFault.TheVariants as target
use Rattle.workload.specs.declared.target.Ticket.{Ticket}

-- For a ticket that it issued for an operation the target gave a reply that such an operation doesn't have.
-- Source: profile.
pub record IsMisfit (issued : Ticket → List ℕ → Op → Type 0) (gave : Ticket → Progress → Type 0) : Type 0 where
  pub ticket : Ticket
  pub document : List ℕ
  pub op : Op
  pub reply : Answer
  -- the target issued the ticket for the operation
  pub was_issued : issued ticket document op
  -- it gave the reply to it
  pub was_given : gave ticket (Done reply)
  -- such an operation doesn't have this reply
  pub misfits : fits op reply ≡ false

-- Of a target: whether it gave a reply that misfits, and what holds if it has given all its tickets. Of a
-- recorder: whether it may report that the recording was rewound, what is known of its pens, and which pens
-- are its own.
module _ (misfit all_given may_rewind : Type 0) {P : Type 0} (state : P → PenState) (is_ours : P → Type 0) where
  -- The cause if the recorder refuses an event of a client. Each ending is of the client's own open call, so
  -- this is neither NotMine nor Ended. Kind comes only of a misfit, Full only if one of the recorder's pens
  -- is full, and Rewound with n only of a recorder that may report it, if one of its pens has a number of at
  -- least n. Memory may be refused at any time: of NoMemory this says nothing.
  -- Source: profile.
  abbrev pub HasRecordingCause : RecFault → Type 0
  HasRecordingCause recording.NotMine = ⊥
  HasRecordingCause recording.Ended = ⊥
  HasRecordingCause recording.Kind = misfit
  HasRecordingCause recording.Full = (pen : P) × is_ours pen × ((state pen).is_full ≡ true)
  HasRecordingCause recording.NoMemory = Unit {0}
  HasRecordingCause (recording.Rewound n) = may_rewind × ((pen : P) × is_ours pen × Any (λ entry. n ≤ entry.0) (state pen).list)

  -- The cause of a fault of a run: that of the recorder's refusal, or that the target has given all its
  -- tickets. Of being out of memory this says nothing.
  -- Source: profile.
  abbrev pub HasCause : RunFault → Type 0
  HasCause (run.Record fault) = HasRecordingCause fault
  HasCause (run.Target target.Full) = all_given
  HasCause (run.Target target.NoMemory) = Unit {0}
  HasCause run.NoMemory = Unit {0}
