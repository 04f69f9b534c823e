use Rattle.std.proofs.Common.{◌≡◌, ◌∙◌, None, ap, false, subst, sym}
use Rattle.recorder.specs.Pens.{PenState, Records}
use Rattle.recorder.specs.aids.Drawing.{HasDrawn}
use Rattle.recorder.specs.aids.Notes.{numbered}
use Rattle.recorder.proofs.DrawLemmas.{answered_above, clock_recorded}
use Rattle.recorder.proofs.clock_pen.ClockPen.record.Goals as goal

pub settle-requires-clause-above : goal.settle-requires-clause-above
settle-requires-clause-above c =
    let same = c.in_ok-reserve.ensures.same in
    let seat = c.self.inside.seat.me in
    let is_open : c.reserve.new.self.pen.is_full ≡ false = ap (λ (pen : PenState). pen.is_full) same ∙ (sym c.is_full.ensures ∙ c.if-is_full.false) in
    answered_above c.reserve.new.self.pen seat c.draw.result c.number_of_event-answer.result c.number_of_event-answer.ensures
    (subst (λ pen. HasDrawn pen seat) (sym same) c.self.invariant) is_open c.draw.ensures.above

pub returns-clause-records : goal.returns-clause-records
returns-clause-records c =
    let same = c.in_ok-reserve.ensures.same in
    let seat = c.self.inside.seat.me in
    let is_open : c.reserve.new.self.pen.is_full ≡ false = ap (λ (pen : PenState). pen.is_full) same ∙ (sym c.is_full.ensures ∙ c.if-is_full.false) in
    let P : PenState → Type 0 = λ old. Records old None (numbered c.args.event) c.number_of_event-answer.result c.settle.new.self.pen in
    subst P (same ∙ ap (λ p. p.pen) c.self.view_is)
    (clock_recorded c.reserve.new.self.pen c.settle.new.self.pen (numbered c.args.event) seat c.draw.result c.number_of_event-answer.result c.number_of_event-answer.ensures
    (subst (λ pen. HasDrawn pen seat) (sym same) c.self.invariant) is_open c.draw.ensures.above
    c.settle.ensures.ok c.settle.ensures.err c.settle.ensures.full c.settle.ensures.unused)
