use Rattle.std.proofs.Common.{arith, ◌≡◌, ◌+◌, ◌≤◌, length, ap, sym, ◌∙◌, cond, Bool, true, false}
use Rattle.compose.specs.Counts.{is_counted_call}
use Rattle.events.proofs.CountLemmas.{counted_all, counted_next}
use Rattle.compose.proofs.counts.CallNumbers.count_calls.Goals as goal

one_at_most : (b : Bool) → cond b 1 0 ≤ 1
one_at_most true = omega arith
one_at_most false = omega arith

pub loop-place-preserved : goal.loop-place-preserved
loop-place-preserved c =
    let test = is_counted_call c.args.self in
    let one : cond (test c.event.result.now) 1 0 ≤ 1 = one_at_most (test c.event.result.now) in (
      ap (λ n. c.loop-place.calls + n) c.calls_in-calls.ensures ∙ (ap (λ n. n + cond (test c.event.result.now) 1 0) c.loop-place.invariant.0
          ∙ sym (counted_next test c.args.history.now c.loop-place.place c.event.result.now c.event.ensures)),
      omega (arith, one, c.calls_in-calls.ensures, c.loop-place.invariant.1),
    )

pub returns : goal.returns
returns c =
    let end : c.loop-place.place ≡ length c.args.history.now = omega arith in
    c.loop-place.invariant.0 ∙ counted_all (is_counted_call c.args.self) c.args.history.now c.loop-place.place end
