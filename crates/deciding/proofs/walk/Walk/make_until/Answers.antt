use Rattle.std.proofs.Common.{◌≡◌, ◌<◌, ◌≤◌, ◌+◌, suc, Some, slice_get, refl, sym, ap, subst, ◌∙◌, arith}
use Rattle.events.specs.declared.record.Rec.{Rec}
use Rattle.std.proofs.lemmas.Option.{slice_get_read}
use Rattle.deciding.specs.aids.Walks.{IsPassedTo}
use Rattle.deciding.proofs.EventLemmas.{all_passed, later_calls, passed_more, passed_to}
use Rattle.deciding.proofs.walk.Walk.make_until.Goals as goal

pub loop-number-preserved : goal.loop-number-preserved
loop-number-preserved c d start =
    subst (λ n. IsPassedTo c.args.document.now n c.args.event c.make.new.self) next
    (passed_more c.args.document.now c.loop-number.number c.args.event c.index-document-number.result c.loop-number.self c.make.new.self d here (subst (λ (r : Rec). r.call_at < c.args.event) (sym c.index-document-number.is) c.if-call-event.false)
    (c.loop-number.invariant d start) (λ w. c.in_ok-make.ensures.ok d c.index-document-number.result.call_at (here ∙ ap (λ (r : Rec). Some r) c.index-document-number.is) (ap (λ (r : Rec). r.call_at) (sym c.index-document-number.is)) w)) where
      here : slice_get c.args.document.now.records.now c.loop-number.number ≡ Some c.index-document-number.result
      here = slice_get_read c.args.document.now.records.now _ c.loop-number.number c.index-document-number.result refl c.loop-number-test.true c.index-document-number.is

      next : suc c.loop-number.number ≡ c.loop-number.number + 1
      next = omega arith

pub returns-then-call-event : goal.returns-then-call-event
returns-then-call-event c d start =
    passed_to c.args.document.now c.loop-number.number c.args.event c.loop-number.self (c.loop-number.invariant d start)
    (later_calls c.args.document.now.records.now c.loop-number.number c.args.event c.index-document-number.result d.order here (subst (λ (r : Rec). c.args.event ≤ r.call_at) (sym c.index-document-number.is) c.if-call-event.true)) where
      here : slice_get c.args.document.now.records.now c.loop-number.number ≡ Some c.index-document-number.result
      here = slice_get_read c.args.document.now.records.now _ c.loop-number.number c.index-document-number.result refl c.loop-number-test.true c.index-document-number.is

pub returns : goal.returns
returns c d start = all_passed c.args.document.now c.loop-number.number c.args.event c.loop-number.self (c.loop-number.invariant d start) c.loop-number-test.false
