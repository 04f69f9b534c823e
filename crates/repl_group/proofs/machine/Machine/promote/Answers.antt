use Rattle.std.proofs.Common.{◌∙◌, ap, sym}
use Rattle.std.specs.Prelude.{option_map, slice_get}
use Rattle.repl_group.specs.Group.{GroupState}
use Rattle.repl_group.specs.aids.Keeping.{flags_of}
use Rattle.repl_group.proofs.DueLemmas.{OnErr-always, promote_due}
use Rattle.repl_group.proofs.machine.Machine.promote.Goals as goal

pub returns-in_err-follow-clause-due : goal.returns-in_err-follow-clause-due
returns-in_err-follow-clause-due c =
    let found = ap (λ (w : GroupState). option_map flags_of (slice_get w.copies c.args.copy)) (sym c.self.view_is) ∙ (sym c.flags.ensures ∙ c.in-Some.is) in
    OnErr-always c.from_residual.result
    (promote_due c.args.self.now c.args.copy c.in-Some.target found (sym c.may_lead.ensures ∙ c.if-not-may_lead.false))
