use Rattle.std.proofs.Common.{◌∙◌, ap, sym}
use Rattle.std.specs.Prelude.{option_map, slice_get}
use Rattle.repl_group.specs.Group.{GroupState}
use Rattle.repl_group.specs.aids.Keeping.{flags_of}
use Rattle.repl_group.proofs.DueLemmas.{OnErr-always, copy_due}
use Rattle.repl_group.proofs.machine.Machine.copy.Goals as goal

pub returns-in_err-add_write-clause-due : goal.returns-in_err-add_write-clause-due
returns-in_err-add_write-clause-due c =
    let asked = ap (λ (w : GroupState). slice_get w.requests c.args.ticket) (sym c.self.view_is) ∙ (sym c.get.ensures ∙ c.in-Some.is) in
    let found = ap (λ (w : GroupState). option_map flags_of (slice_get w.copies c.args.copy)) (sym c.self.view_is) ∙ (sym c.flags.ensures ∙ c.in-Some-flags.is) in
    OnErr-always c.from_residual.result
    (copy_due c.args.self.now c.args.ticket c.args.copy c.in-Some.request c.in-Some-flags.target _ asked found (sym c.flight.ensures ∙ c.in-Some-flight.is)
    (sym c.may_take_write.ensures ∙ c.if-not-may_take_write.false))
