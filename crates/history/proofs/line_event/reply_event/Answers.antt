use Rattle.std.proofs.Common.{◌≡◌, Err, subst, sym}
use Rattle.api_lines.specs.Faults.{IfReported}
use Rattle.api_lines.specs.Fields.{body_seen}
use Rattle.api_lines.specs.declared.history_line.LineSaid.TheVariants as said
use Rattle.events.proofs.OpenCalls.{open_within}
use Rattle.history.specs.Reading.{event_said}
use Rattle.history.proofs.TextReading.{reply_not_open}
use Rattle.history.proofs.line_event.reply_event.Goals as goal

pub returns-in-Err : goal.returns-in-Err
returns-in-Err c =
    subst (λ f. IfReported f (λ cause. event_said c.args.history.now (body_seen c.args.body.now) (said.Reply c.args.no c.args.status) ≡ Err cause))
    (sym c.line_fault.ensures)
    (reply_not_open c.args.history.now c.args.no c.args.status (body_seen c.args.body.now) c.in-Err.fault (sym c.in-Err.ensures))

pub event-requires : goal.event-requires
event-requires c = open_within c.args.history.now c.args.no c.in-Ok.call (sym c.in-Ok.ensures)
