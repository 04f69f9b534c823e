use Rattle.std.proofs.Common.{◌∙◌, sym, subst}
use Rattle.repl_group.specs.Group.{Does, GroupState, OnCopy, healed}
use Rattle.repl_group.specs.declared.step.Answer.TheVariants.{Done}
use Rattle.repl_group.proofs.DueLemmas.{OnErr-always, heal_due}
use Rattle.repl_group.proofs.machine.Machine.heal.Goals as goal

pub returns-in_err-renew-clause-due : goal.returns-in_err-renew-clause-due
returns-in_err-renew-clause-due c =
    OnErr-always c.from_residual.result
    (subst (λ (w : GroupState). (n : GroupState) × OnCopy (λ y. Does (healed w c.args.copy y)) w c.args.copy Done n) c.self.view_is
    (heal_due _ c.args.copy c.in-Some.field-0 (sym c.flags.ensures ∙ c.in-Some.is)))
