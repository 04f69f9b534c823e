use Rattle.std.proofs.Common.{sym}
use Rattle.events.specs.Events.{is_call}
use Rattle.events.proofs.EventLemmas.{place_of-passes}
use Rattle.events.proofs.OpenCalls.{ended_call, open_is}
use Rattle.events.proofs.history.History.open_call.Goals as goal

pub returns-in-Some-ending_of_call : goal.returns-in-Some-ending_of_call
returns-in-Some-ending_of_call c =
    ended_call c.args.self.now c.args.no c.in-Some.place c.in-Some-ending_of_call.field-0 c.in-Some.ensures.place
    (c.in-Some-ending_of_call.ensures.ending c.args.no (place_of-passes (is_call c.args.no) c.args.self.now c.in-Some.place (sym c.in-Some.ensures.place)))

pub returns-in-None : goal.returns-in-None
returns-in-None c =
    open_is c.args.self.now c.args.no c.in-Some.place c.in-Some.ensures.place
    (c.in-None.ensures.ending c.args.no (place_of-passes (is_call c.args.no) c.args.self.now c.in-Some.place (sym c.in-Some.ensures.place)))
