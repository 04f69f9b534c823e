use Rattle.events.proofs.history.History.refusal.Goals as goal

pub returns-in-Call : goal.returns-in-Call
returns-in-Call c = rw (c.in-Call.is, ← c.text-id.ensures) (c.call_refusal.ensures c.in-Call.op)
