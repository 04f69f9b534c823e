use Rattle.std.proofs.Common.{◌∙◌, ap, arith, subst}
use Rattle.compose.specs.Checked.{IsVerdictOn}
use Rattle.events.specs.Events.{prefix}
use Rattle.report.proofs.AnswerLemmas.{earlier_found}
use Rattle.report.proofs.earlier.earlier_reasons.Goals as goal

pub returns-in-Ok-No : goal.returns-in-Ok-No
returns-in-Ok-No c =
    let verdict = subst (λ v. IsVerdictOn c.conflicts.result c.in_ok-prefix.prefix v) c.in-Ok-No.field-0-is c.in-Ok-No.ensures.verdict in
    earlier_found c.args.case.now c.in-Ok-No.earlier c.args.failing.now.offence c.saturating_add.result c.with_reasons.result c.prefixes.ensures (grind arith)
    (verdict.0 ∙ (c.in_ok-prefix.ensures ∙ ap (λ H. prefix H c.saturating_add.result) c.history-history.ensures.same)) (verdict.1 ∙ c.conflicts.ensures) c.with_reasons.ensures.case c.with_reasons.ensures.says c.with_reasons.ensures.proved
