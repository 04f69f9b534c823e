use Rattle.std.proofs.Common.{◌∙◌, ap, sym}
use Rattle.events.specs.declared.event.Event.TheVariants.{Call}
use Rattle.events.specs.Refusal.{refusal_of}
use Rattle.events.proofs.OpenCalls.{call_reported}
use Rattle.events.proofs.history.History.push_call.Goals as goal

pub returns-in-Some-clause-reason : goal.returns-in-Some-clause-reason
returns-in-Some-clause-reason c = call_reported c.args.self.now c.args.no c.args.shard c.args.id.now c.args.op c.in-Some.fault (c.in-Some.ensures c.args.op)

pub append_call-requires-clause-accepted : goal.append_call-requires-clause-accepted
append_call-requires-clause-accepted c = ap (λ d. refusal_of c.args.self.now (Call c.args.shard c.args.no d c.args.op)) c.in-Ok.ensures ∙ sym (c.in_default.ensures c.args.op)
