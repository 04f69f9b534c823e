use Rattle.workload.proofs.seat.visit.Goals as goal

pub returns-in_ok-poll_open-in-Some-clause-visits :
    goal.returns-in_ok-poll_open-in-Some-clause-visits
returns-in_ok-poll_open-in-Some-clause-visits g c = c.in_ok-poll_open-in-Some.ensures.visits c.args.polls c.args.plan.now
