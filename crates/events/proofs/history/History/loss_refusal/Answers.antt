use Rattle.std.proofs.Common.{sym, ◌∙◌}
use Rattle.events.proofs.OpenCalls.{loss_kept_out, refusal_loss}
use Rattle.events.proofs.history.History.loss_refusal.Goals as goal

pub returns-in-Err : goal.returns-in-Err
returns-in-Err c = loss_kept_out c.args.self.now c.args.no c.in-Err.fault (sym c.in-Err.ensures)

pub returns-in-Ok : goal.returns-in-Ok
returns-in-Ok c =
    c.refusal_for_room.ensures ∙ sym (refusal_loss c.args.self.now c.args.no c.in-Ok.field-0 (sym c.in-Ok.ensures))
