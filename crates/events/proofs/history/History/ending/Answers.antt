use Rattle.std.proofs.Common.{subst, sym}
use Rattle.events.specs.Events.{IsHistory, is_call}
use Rattle.events.proofs.EventLemmas.{place_of-passes}
use Rattle.events.proofs.OpenCalls.{no_ending_uncalled}
use Rattle.events.proofs.history.History.ending.Goals as goal

pub returns-in-Some-clause-place : goal.returns-in-Some-clause-place
returns-in-Some-clause-place c =
    c.ending_of_call.ensures.ending c.args.no (place_of-passes (is_call c.args.no) c.args.self.now c.in-Some.place (sym c.in-Some.ensures.place))

pub returns-in-None-clause-place : goal.returns-in-None-clause-place
returns-in-None-clause-place c =
    sym (no_ending_uncalled c.args.self.now c.args.no (subst IsHistory c.self.view_is c.self.invariant.history) (sym c.in-None.ensures.place))
