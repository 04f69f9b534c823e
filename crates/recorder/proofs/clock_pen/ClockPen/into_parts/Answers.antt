use Rattle.std.proofs.Common.{ap, subst}
use Rattle.recorder.specs.aids.Drawing.{IsSeatFor}
use Rattle.recorder.proofs.DrawLemmas.{seat_for}
use Rattle.recorder.proofs.clock_pen.ClockPen.into_parts.Goals as goal

pub returns-clause-seat : goal.returns-clause-seat
returns-clause-seat c = (
  ap (λ p. p.clock) c.self.view_is,
  subst (λ pen. IsSeatFor pen c.self.inside.seat.me) (ap (λ p. p.pen) c.self.view_is) (seat_for c.self.inside.notes.pen c.self.inside.seat.me c.self.invariant),
)
