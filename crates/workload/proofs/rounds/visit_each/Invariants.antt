use Rattle.std.proofs.Common.{◌<◌, All, length}
use Rattle.workload.specs.aids.Seats.{IsOpenIfAny}
use Rattle.workload.proofs.OnceLemmas.{AreVisitedSoFar}
use Rattle.workload.proofs.RoundLemmas.{IsRoundSoFar}
use Rattle.workload.proofs.rounds.visit_each.Given as goal

-- The round so far, and what each visit asks for.
abbrev pub invariant-loop-seat : goal.invariant-loop-seat
invariant-loop-seat g l = record {
  round : IsRoundSoFar g.T.Target.issued g.T.Target.gave l.polls g.X.Recording.pen_state l.plan l.fn.seats.items l.seat-items l.seat-index l.acted;
  once : AreVisitedSoFar l.polls l.fn.seats.items l.seat-items l.seat-index;
  clients : All (λ seat. seat.client < length l.plan) l.seat-items;
  pens : All (λ seat. g.X.Recording.has_pen l.recorder seat.pen) l.seat-items;
  calls : All (λ seat. IsOpenIfAny g.T.Target.issued (g.X.Recording.pen_state seat.pen).list seat.open_call) l.seat-items;
}
