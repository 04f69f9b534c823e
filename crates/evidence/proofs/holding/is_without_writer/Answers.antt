use Rattle.std.proofs.Common.{◌≡◌, ◌<◌, ◌≤◌, ◌∙◌, arith, inl, inr, refl, true≢false, subst, sym}
use Rattle.std.proofs.lemmas.Bool.{cases_lt}
use Rattle.evidence.specs.Evidence.{IsWriter}
use Rattle.evidence.proofs.holding.is_without_writer.Goals as goal

pub returns-then-is_writer : goal.returns-then-is_writer
returns-then-is_writer c = λ d own. (
  λ never. absurd (true≢false (sym never)),
  λ none. absurd (none c.loop-place.place ((c.is_writer.ensures d own).0 c.if-is_writer.true)),
)

pub loop-place-preserved : goal.loop-place-preserved
loop-place-preserved c = λ d own j below writer.
    elim (cases_lt j c.loop-place.place) as (λ _. ⊥) [
      | inl before ↦ c.loop-place.invariant d own j before writer
      | inr other ↦ (let here : j ≡ c.loop-place.place = omega (arith, below, other) in
          true≢false (sym ((c.is_writer.ensures d own).1 (subst (IsWriter c.args.conflicts c.args.history.now d c.args.get.replied c.args.get.pair c.args.get.k) here writer)) ∙ c.if-is_writer.false))
    ]

pub returns : goal.returns
returns c = λ d own. (
  λ holds j writer. let before : j < c.args.get.replied = writer.before in
      let end : c.args.get.replied ≤ c.loop-place.place = c.loop-place-test.false in
      c.loop-place.invariant d own j (omega (arith, before, end)) writer,
  λ none. refl,
)
