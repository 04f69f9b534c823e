use Rattle.std.proofs.Common.{Some, ap, sym, ◌∙◌}
use Rattle.evidence.proofs.CallsByNumber.{call_found, call_none}
use Rattle.evidence.proofs.answered_call.missing_get.Goals as goal

pub returns-in_default : goal.returns-in_default
returns-in_default c = λ d i missing. call_none c.args.history.now c.args.no missing.called missing.shard d missing.op (sym c.call.ensures.place ∙ c.in_default.is) missing.call

pub returns-in-Some-default-Missing : goal.returns-in-Some-default-Missing
returns-in-Some-default-Missing c =
    let call = call_found c.args.history.now c.args.no c.in-Some.called (sym c.call.ensures.place ∙ c.in-Some.is) in
    record {
      doc = call.1;
      shard = call.0;
      op = call.2;
      call = call.3;
      heard = sym c.heard.ensures ∙ (c.in-Some-default-Missing.is ∙ ap (λ r. Some (c.in-Some-default-Missing.replied, r)) c.in-Some-default-Missing.field-0-1-is);
    }
