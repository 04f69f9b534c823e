use Rattle.std.proofs.Common.{◌≡◌, ◌<◌, ◌≤◌, ◌∙◌, arith, inl, inr, refl, true≢false, subst, sym}
use Rattle.std.proofs.lemmas.Bool.{cases_lt}
use Rattle.evidence.specs.Evidence.{IsRemover}
use Rattle.evidence.proofs.holding.is_without_remover.Goals as goal

pub returns-then-is_remover : goal.returns-then-is_remover
returns-then-is_remover c = λ d own. (
  λ never. absurd (true≢false (sym never)),
  λ none. absurd (none c.loop-place.place ((c.is_remover.ensures d own).0 c.if-is_remover.true)),
)

pub loop-place-preserved : goal.loop-place-preserved
loop-place-preserved c = λ d own j below remover.
    elim (cases_lt j c.loop-place.place) as (λ _. ⊥) [
      | inl before ↦ c.loop-place.invariant d own j before remover
      | inr other ↦ (let here : j ≡ c.loop-place.place = omega (arith, below, other) in
          true≢false (sym ((c.is_remover.ensures d own).1 (subst (IsRemover c.args.conflicts c.args.history.now d c.args.get.replied c.args.pair) here remover)) ∙ c.if-is_remover.false))
    ]

pub returns : goal.returns
returns c = λ d own. (
  λ holds j remover. let before : j < c.args.get.replied = remover.before in
      let end : c.args.get.replied ≤ c.loop-place.place = c.loop-place-test.false in
      c.loop-place.invariant d own j (omega (arith, before, end)) remover,
  λ none. refl,
)
