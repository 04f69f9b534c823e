use Rattle.std.proofs.Common.{sym, ap}
use Rattle.events.specs.Events.{heard_at}
use Rattle.events.proofs.OpenCalls.{heard_event, heard_no_reply, heard_nothing}
use Rattle.events.proofs.front.Front.heard_at_call.Goals as goal

pub returns-in_default : goal.returns-in_default
returns-in_default c n passes = heard_nothing c.args.self.now n (c.in_default.ensures.ending n passes)

pub returns-in-Reply : goal.returns-in-Reply
returns-in-Reply c n passes =
    heard_event c.args.self.now n c.in-Some.ending c.event.result.now _ (c.in-Some.ensures.ending n passes) c.event.ensures
    (sym (ap (heard_at c.in-Some.ending) c.in-Reply.is))

pub returns-in-Call : goal.returns-in-Call
returns-in-Call c n passes =
    heard_no_reply c.args.self.now n c.in-Some.ending c.event.result.now (c.in-Some.ensures.ending n passes) c.event.ensures
    (ap (heard_at c.in-Some.ending) c.in-Call.is)

pub returns-in-Lost : goal.returns-in-Lost
returns-in-Lost c n passes =
    heard_no_reply c.args.self.now n c.in-Some.ending c.event.result.now (c.in-Some.ensures.ending n passes) c.event.ensures
    (ap (heard_at c.in-Some.ending) c.in-Lost.is)
