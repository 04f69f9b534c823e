use Rattle.std.proofs.Common.{◌∙◌, List, Some, ap, subst, sym, ℕ}
use Rattle.events.specs.Events.{IsCallAt}
use Rattle.events.specs.declared.event.Event.{Event}
use Rattle.evidence.proofs.CallsByNumber.{call_there}
use Rattle.report.proofs.details.broken_reply_of.Goals as goal

pub returns : goal.returns
returns c =
    let H = c.args.history.now in
    let at = c.event.ensures ∙ ap (λ (e : Event). Some e) c.in-Call.is in
    let called = call_there H c.args.offence.call c.in-Some.place c.in-Call.no c.in-Call.shard c.in-Call.id c.in-Call.op (sym c.in-Some.ensures.place) at in (
      c.in-Some.place,
      c.in-Call.op,
      subst (λ (d : List ℕ). IsCallAt H c.in-Some.place c.args.offence.call c.in-Call.shard d c.in-Call.op) (sym c.in_ok-copy.ensures) called,
    )
