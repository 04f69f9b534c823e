use Rattle.workload.proofs.SeatLemmas.{visit_ends}
use Rattle.workload.proofs.seat.poll_open.Goals as goal

pub returns-in_ok-end_turn-in-Ends-clause-visits :
    goal.returns-in_ok-end_turn-in-Ends-clause-visits
returns-in_ok-end_turn-in-Ends-clause-visits g c polls clients =
    visit_ends g.T.Target.issued g.T.Target.gave polls g.X.Recording.pen_state clients c.args.seat.now
    c.args.polled c.in-Ends.heard c.end_turn.new.pen c.end_turn.new.known
    c.requires.call (rw c.in-Ends.is at c.in_ok-poll.ensures.polled) c.in_ok-end_turn-in-Ends.ensures.ends
