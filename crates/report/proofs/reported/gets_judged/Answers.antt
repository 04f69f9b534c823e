use Rattle.std.proofs.Common.{arith, ◌≡◌, ◌+◌, ◌≤◌, length, ap, sym, ◌∙◌, cond, Bool, true, false, Some}
use Rattle.events.proofs.CountLemmas.{counted_all, counted_next}
use Rattle.report.specs.Verdict.{gets_judged, is_get_reply}
use Rattle.report.proofs.reported.gets_judged.Goals as goal

one_at_most : (b : Bool) → cond b 1 0 ≤ 1
one_at_most true = omega arith
one_at_most false = omega arith

pub loop-place-preserved : goal.loop-place-preserved
loop-place-preserved c =
    let event = c.event.result.now in
    let one : cond (is_get_reply event) 1 0 ≤ 1 = one_at_most (is_get_reply event) in (
      ap (λ n. c.loop-place.count + n) c.gets_answered-count.ensures ∙ (ap (λ n. n + cond (is_get_reply event) 1 0) c.loop-place.invariant.0
          ∙ sym (counted_next is_get_reply c.args.text.now c.loop-place.place event c.event.ensures)),
      omega (arith, one, c.gets_answered-count.ensures, c.loop-place.invariant.1),
    )

pub returns-after-loop-place : goal.returns-after-loop-place
returns-after-loop-place c =
    let events = c.args.text.now in
    let end : c.loop-place.place ≡ length events = omega (arith, c.loop-place-test.false, c.loop-place.auto.place-end, c.len-place-end.ensures.count) in
    ap (λ n. Some n) (c.loop-place.invariant.0 ∙ counted_all is_get_reply events c.loop-place.place end) ∙ ap (λ g. gets_judged g events) (sym c.in-Any.is)
