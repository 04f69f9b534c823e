use Rattle.std.proofs.Common.{sym}
use Rattle.workload.proofs.SeatLemmas.{visit_begins}
use Rattle.workload.proofs.seat.begin_next.Goals as goal

pub returns-clause-visits : goal.returns-clause-visits
returns-clause-visits g c =
    visit_begins g.T.Target.issued g.T.Target.gave c.args.polls g.X.Recording.pen_state c.args.plan.now c.args.seat.now
    c.in-Some.turn c.in-Some.k c.begin_turn.new.pen c.in_ok-call.call
    c.requires.idle (sym c.in-Some.ensures.turn) c.in-Some.ensures.number c.in_ok-call.ensures.begins
