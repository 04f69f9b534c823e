use Rattle.std.proofs.Common.{Some, ap, sym, ◌∙◌}
use Rattle.evidence.proofs.CallsByNumber.{call_none, call_there, found_elsewhere}
use Rattle.evidence.proofs.answered_call.performed_write.Goals as goal

pub returns-in_default : goal.returns-in_default
returns-in_default c = λ d q w. call_none c.args.history.now c.args.no w.called w.shard d w.op (sym c.call.ensures.place ∙ c.in_default.is) w.call

pub returns-in_default-event : goal.returns-in_default-event
returns-in_default-event c = λ d q w.
    found_elsewhere c.args.history.now c.args.no c.in-Some.called c.event.result.now (sym c.call.ensures.place ∙ c.in-Some.is) c.event.ensures (λ m h d op. c.in_default-event.not-Call h m d op)

pub returns-in-Some-pair_taken : goal.returns-in-Some-pair_taken
returns-in-Some-pair_taken c = record {
  doc = c.in-Call.id;
  reply = c.in-Some-heard.answer.1;
  call = call_there c.args.history.now c.args.no c.in-Some.called c.in-Call.no c.in-Call.shard c.in-Call.id c.in-Call.op (sym c.call.ensures.place ∙ c.in-Some.is)
      (c.event.ensures ∙ ap (λ e. Some e) c.in-Call.is);
  heard = sym c.heard.ensures ∙ c.in-Some-heard.is;
  shows = sym c.pair_taken.ensures ∙ c.in-Some-pair_taken.is;
}
