use Rattle.std.proofs.Common.{◌≡◌, ◌∙◌, Some, true≢false, subst, sym}
use Rattle.version_pair.specs.declared.pair.Pair.{Pair}
use Rattle.version_pair.specs.PairOrder.{IsBelow}
use Rattle.readings.specs.declared.peaks.Changes.TheVariants.{All}
use Rattle.readings.proofs.JudgeLemmas.{acknowledged_pair, below_up}
use Rattle.readings.proofs.document.Calls.judge_found.Goals as goal

pub returns-in_default : goal.returns-in_default
returns-in_default c = (c.has_source.ensures.0 c.if-not-has_source.false, λ j q w below. c.in_default.ensures j q w)

pub returns-in-Some-pair_at : goal.returns-in-Some-pair_at
returns-in-Some-pair_at c =
    let calls = c.args.self.now in
    let top = c.in-Some.ensures in
    let same : top.0 ≡ c.in-Some-pair_at.pair = acknowledged_pair All calls.records.now c.args.called c.in-Some.write top.0 c.in-Some-pair_at.pair top.1 (sym c.pair_at.ensures ∙ c.in-Some-pair_at.is) in
    (top.0, top.1, subst (λ (p : Pair). IsBelow c.args.found.pair p) (sym same) (c.is_below.ensures.0 c.if-is_below.true))

pub returns-in_default-pair_at : goal.returns-in_default-pair_at
returns-in_default-pair_at c =
    let calls = c.args.self.now in
    let top = c.in-Some.ensures in
    let same : top.0 ≡ c.in-Some-pair_at.pair = acknowledged_pair All calls.records.now c.args.called c.in-Some.write top.0 c.in-Some-pair_at.pair top.1 (sym c.pair_at.ensures ∙ c.in-Some-pair_at.is) in (
      c.has_source.ensures.0 c.if-not-has_source.false,
      λ j q w below.
          let up : IsBelow c.args.found.pair top.0 = below_up c.args.found.pair q top.0 (top.2 j q w) below in
          true≢false (sym (c.is_below.ensures.1 (subst (λ (p : Pair). IsBelow c.args.found.pair p) same up)) ∙ c.if-is_below.false),
    )
