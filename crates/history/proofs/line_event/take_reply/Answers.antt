use Rattle.std.proofs.Common.{◌≡◌, Err, subst, sym}
use Rattle.api_lines.specs.Faults.{IfReported}
use Rattle.api_lines.specs.Fields.{body_seen}
use Rattle.history.specs.aids.Taking.{takes_reply}
use Rattle.events.proofs.OpenCalls.{open_within}
use Rattle.history.proofs.TextReading.{answer_refused, reply_closed}
use Rattle.history.proofs.line_event.take_reply.Goals as goal

pub returns-in-Err-clause-err : goal.returns-in-Err-clause-err
returns-in-Err-clause-err c =
    subst (λ f. IfReported f (λ cause. takes_reply c.args.history.now c.args.no c.args.status (body_seen c.args.body.now) ≡ Err cause)) (sym c.line_fault.ensures)
    (reply_closed c.args.history.now c.args.no c.args.status (body_seen c.args.body.now) c.in-Err.fault (sym c.in-Err.ensures))

pub event-requires : goal.event-requires
event-requires c = open_within c.args.history.now c.args.no c.in-Ok.call (sym c.in-Ok.ensures)

pub returns-in-Reply-clause-err : goal.returns-in-Reply-clause-err
returns-in-Reply-clause-err c =
    answer_refused c.args.history.now c.args.no c.in-Ok.call c.args.status (body_seen c.args.body.now) c.event.result.now c.in-Reply.reply c.push_answer.result c.of_line.result
    (sym c.in-Ok.ensures) c.event.ensures c.in-Reply.ensures c.of_line.ensures c.push_answer.ensures.reason
