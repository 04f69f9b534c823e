use Rattle.std.proofs.Common.{◌≡◌, ◌∙◌, Option, ap, arith, length, refl, subst, sym, true≢false}
use Rattle.std.specs.Prelude.{IfSome}
use Rattle.events.specs.Events.{record_at}
use Rattle.events.specs.Heard.{IsComplete as IsCompleteCall}
use Rattle.events.specs.declared.record.Rec.{Rec}
use Rattle.compose.proofs.CertaintyLemmas.{complete_by_calls, complete_calls, complete_one_more}
use Rattle.compose.proofs.certainty.is_complete_history.Goals as goal
use Rattle.compose.proofs.certainty.is_complete_history.Goals.{in-Some+else-not-is_complete, in_default}

pub returns-then-not-is_complete : goal.returns-then-not-is_complete
returns-then-not-is_complete c =
    let here = sym (ap (λ es. record_at es c.loop-place.place) c.whole-events.ensures) ∙ sym c.record_at.ensures ∙ c.in-Some.is in (
      λ never. absurd (true≢false (sym never)),
      λ complete. sym c.if-not-is_complete.true ∙ c.is_complete.ensures.1 (complete_calls c.args.conflicts c.args.history.now c.requires complete c.loop-place.place c.in-Some.call here),
    )

pub loop-place-preserved : goal.loop-place-preserved
loop-place-preserved c =
    let own : IfSome c.record_at.result (IsCompleteCall c.args.conflicts) = elim c.match-record_at.branch as (λ _. IfSome c.record_at.result (IsCompleteCall c.args.conflicts)) [
      | in-Some+else-not-is_complete w ↦ subst (λ (o : Option Rec). IfSome o (IsCompleteCall c.args.conflicts)) (sym w.in-Some.is) (w.is_complete.ensures.0 w.if-not-is_complete.false)
      | in_default w ↦ subst (λ (o : Option Rec). IfSome o (IsCompleteCall c.args.conflicts)) (sym w.in_default.is) tt
    ] in
    complete_one_more c.args.conflicts c.args.history.now c.loop-place.place c.record_at.result (sym (c.record_at.ensures ∙ ap (λ es. record_at es c.loop-place.place) c.whole-events.ensures)) own
    c.loop-place.invariant

pub returns : goal.returns
returns c =
    let count : c.len-place-end.result ≡ length c.args.history.now = c.len-place-end.ensures.count ∙ ap length c.whole-events.ensures in (
      λ _. complete_by_calls c.args.conflicts c.args.history.now c.requires (λ i r less at. c.loop-place.invariant i r (omega (arith, less, count, c.loop-place-test.false)) at),
      λ _. refl,
    )
