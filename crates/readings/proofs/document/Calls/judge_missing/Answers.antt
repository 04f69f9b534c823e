use Rattle.std.proofs.Common.{◌≡◌, ◌∙◌, Some, true≢false, subst, sym}
use Rattle.version_pair.specs.declared.pair.Pair.{Pair}
use Rattle.readings.specs.declared.peaks.Changes.TheVariants.{Makes}
use Rattle.readings.specs.aids.Records.{HasRemover}
use Rattle.readings.proofs.JudgeLemmas.{acknowledged_pair, removes_earlier}
use Rattle.readings.proofs.document.Calls.judge_missing.Goals as goal

pub returns-in_default : goal.returns-in_default
returns-in_default c = λ j q w. absurd (c.in_default.ensures j q w)

pub returns-then-has_remover : goal.returns-then-has_remover
returns-then-has_remover c = λ j q w.
    let calls = c.args.self.now in
    let top = c.in-Some.ensures in
    let same : top.0 ≡ c.in-Some-pair_at.pair = acknowledged_pair Makes calls.records.now c.args.called c.in-Some.write top.0 c.in-Some-pair_at.pair top.1 (sym c.pair_at.ensures ∙ c.in-Some-pair_at.is) in
    removes_earlier calls.reading calls.records.now c.args.replied top.0 q (top.2 j q w)
    (subst (λ (p : Pair). HasRemover calls.reading calls.records.now c.args.replied p) (sym same) (c.has_remover.ensures.0 c.if-has_remover.true))

pub returns-else-has_remover : goal.returns-else-has_remover
returns-else-has_remover c =
    let calls = c.args.self.now in
    let top = c.in-Some.ensures in
    let same : top.0 ≡ c.in-Some-pair_at.pair = acknowledged_pair Makes calls.records.now c.args.called c.in-Some.write top.0 c.in-Some-pair_at.pair top.1 (sym c.pair_at.ensures ∙ c.in-Some-pair_at.is) in (
      top.0,
      top.1,
      λ remover. true≢false (sym (c.has_remover.ensures.1 (subst (λ (p : Pair). HasRemover calls.reading calls.records.now c.args.replied p) same remover)) ∙ c.if-has_remover.false),
    )
