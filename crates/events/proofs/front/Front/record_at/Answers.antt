use Rattle.events.proofs.OpenCalls.{call_at_place, record_is_at}
use Rattle.events.proofs.front.Front.record_at.Goals as goal

pub returns-in-Call : goal.returns-in-Call
returns-in-Call c =
    record_is_at c.args.self.now c.args.place c.in-Call.no c.in-Call.shard c.in-Call.id c.in-Call.op c.event.result.now c.heard_at_call.result c.event.ensures c.in-Call.is
    (c.heard_at_call.ensures c.in-Call.no
    (call_at_place c.args.self.now c.args.place c.in-Call.no c.in-Call.shard c.in-Call.id c.in-Call.op c.event.result.now c.event.ensures c.in-Call.is))
