-- What the faults of a run come of.
use Rattle.std.proofs.Common.{ℕ, ◌≡◌, ◌∙◌, List, Option, ap, subst, sym}
use Rattle.doc_register.specs.declared.op.Op.{Op}
use Rattle.doc_register.specs.declared.reply.Reply.{Reply as Answer}
use Rattle.doc_register.specs.Register.{fits}
use Rattle.events.specs.declared.event.Event.{Event}
use Rattle.recorder.specs.declared.fault.RecFault.TheVariants as recording
use Rattle.recorder.specs.Pens.{PenState}
use Rattle.workload.specs.RunFaults.{HasCause, IsMisfit}
use Rattle.workload.specs.aids.Clients.{IsHeard, IsMisheard, IsOpenIn}
use Rattle.workload.specs.declared.open_call.OpenCall.{OpenCall}
use Rattle.workload.specs.declared.run_fault.RunFault.{RunFault}
use Rattle.workload.specs.declared.run_fault.RunFault.TheVariants as run
use Rattle.workload.specs.declared.target.Progress.{Progress}
use Rattle.workload.specs.declared.target.TargetFault.TheVariants as target
use Rattle.workload.specs.declared.target.Ticket.{Ticket}
use Rattle.version_pair.proofs.ListLemmas.{same_some}

-- what was misheard of an open call misfits
pub misheard_misfits : (issued : Ticket → List ℕ → Op → Type 0) (gave : Ticket → Progress → Type 0) (polls : ℕ) (list : List (ℕ × Event)) (call : OpenCall)
    (heard : Option Answer) → IsOpenIn issued list call → IsHeard issued gave polls call.ticket heard → IsMisheard list call.no heard → IsMisfit issued gave
misheard_misfits issued gave polls list call heard opened reported misheard =
    let same : opened.op ≡ misheard.op = same_some opened.op misheard.op (sym opened.called ∙ misheard.called) in
    record {
      ticket = call.ticket;
      document = opened.document;
      op = opened.op;
      reply = misheard.reply;
      was_issued = opened.was_issued;
      was_given = subst (IsHeard issued gave polls call.ticket) misheard.is_heard reported;
      misfits = ap (λ op. fits op misheard.reply) same ∙ misheard.misfits;
    }

-- a cause by weaker ones
pub caused_still : (misfit misfit' all_given all_given' may_rewind : Type 0) {P : Type 0} (state : P → PenState) (is_ours : P → Type 0) (fault : RunFault)
    → (misfit → misfit') → (all_given → all_given') → HasCause misfit all_given may_rewind state is_ours fault
    → HasCause misfit' all_given' may_rewind state is_ours fault
caused_still misfit misfit' all_given all_given' may_rewind state is_ours (run.Record recording.NotMine) odd all cause = cause
caused_still misfit misfit' all_given all_given' may_rewind state is_ours (run.Record recording.Ended) odd all cause = cause
caused_still misfit misfit' all_given all_given' may_rewind state is_ours (run.Record recording.Kind) odd all cause = odd cause
caused_still misfit misfit' all_given all_given' may_rewind state is_ours (run.Record recording.Full) odd all cause = cause
caused_still misfit misfit' all_given all_given' may_rewind state is_ours (run.Record recording.NoMemory) odd all cause = cause
caused_still misfit misfit' all_given all_given' may_rewind state is_ours (run.Record (recording.Rewound n)) odd all cause = cause
caused_still misfit misfit' all_given all_given' may_rewind state is_ours (run.Target target.Full) odd all cause = all cause
caused_still misfit misfit' all_given all_given' may_rewind state is_ours (run.Target target.NoMemory) odd all cause = cause
caused_still misfit misfit' all_given all_given' may_rewind state is_ours run.NoMemory odd all cause = cause
