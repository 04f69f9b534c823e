use Rattle.std.proofs.Common.{◌≡◌, ◌∙◌, None, ap, false, subst, sym}
use Rattle.recorder.specs.Pens.{PenState, Records}
use Rattle.recorder.specs.aids.Notes.{numbered}
use Rattle.recorder.proofs.AnswerLemmas.{recorded_after}
use Rattle.recorder.proofs.recorder.Recorder.record.Goals as goal

pub returns : goal.returns
returns g c =
    let same : c.reserve.new.self.pen ≡ c.args.pen.now = c.in_ok-reserve.ensures.same ∙ c.pen.view_is in
    let before : c.pen.inside.notes.pen.is_full ≡ false = sym c.is_full.ensures ∙ c.if-is_full.false in
    let is_open : c.reserve.new.self.pen.is_full ≡ false = ap (λ (pen : PenState). pen.is_full) c.in_ok-reserve.ensures.same ∙ before in
    let P : PenState → Type 0 = λ old. Records old None (numbered c.args.event) c.append-answer.result c.settle.new.self.pen in
    subst P same
    (recorded_after c.reserve.new.self.pen c.settle.new.self.pen (numbered c.args.event) c.append-answer.result c.deref_mut.result.now c.last_number-last.result
    is_open c.append-answer.ensures.reason c.append-answer.ensures.number
    c.last_number-last.ensures.above c.last_number-last.ensures.reached
    c.settle.ensures.ok c.settle.ensures.err c.settle.ensures.full c.settle.ensures.unused)
