use Rattle.std.proofs.Common.{◌<◌, All, length}
use Rattle.std.specs.Prelude.{sum_by}
use Rattle.workload.specs.aids.Seats.{AreSeated, IsOpenIfAny, visits_left}
use Rattle.workload.proofs.rounds.run_in_turns.Given as goal

-- the seats are those of the clients, whose pens are this recorder's and have the calls that are open
abbrev pub invariant-rounds : goal.invariant-rounds
invariant-rounds g l = record {
  seated : AreSeated g.T.Target.issued g.T.Target.gave l.turns g.X.Recording.pen_state l.plan l.fn.pens.items l.seats.items;
  clients : All (λ seat. seat.client < length l.plan) l.seats.items;
  pens : All (λ seat. g.X.Recording.has_pen l.recorder seat.pen) l.seats.items;
  calls : All (λ seat. IsOpenIfAny g.T.Target.issued (g.X.Recording.pen_state seat.pen).list seat.open_call) l.seats.items;
}

abbrev pub decreases-rounds : goal.decreases-rounds
decreases-rounds g l = sum_by (visits_left l.plan l.turns) l.seats.items
