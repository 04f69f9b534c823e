use Rattle.std.proofs.Common.{◌≡◌, ◌∙◌, ap, Some}
use Rattle.std.specs.Prelude.{slice_get, slice_set}
use Rattle.repl_group.specs.Group.{GroupState, copy_with}
use Rattle.repl_group.specs.Requests.{with_stage}
use Rattle.repl_group.specs.declared.request.Stage.TheVariants.{InFlight}
use Rattle.repl_group.proofs.DueLemmas.{OnErr-always, performs_due}
use Rattle.repl_group.proofs.MachineLemmas.{performs_done}
use Rattle.repl_group.proofs.machine.Machine.perform.Goals as goal

pub returns-clause-ok : goal.returns-clause-ok
returns-clause-ok c y at =
    let seen = c.requires.seen y at in
    let found : slice_get c.self.inside.copies c.self.inside.primary ≡ Some y = ap (λ (w : GroupState). slice_get w.copies w.primary) c.self.view_is ∙ at in
    performs_done c.args.self.now _ c.args.ticket c.args.request y c.in-Some.pair _ _ c.self.view_is c.in-Some.ensures.value.0 (c.in-Some.ensures.value.1 ∙ seen.0)
    (c.launch.ensures ∙ (ap (λ r. with_stage r c.args.ticket c.args.request (InFlight c.in-Some.pair c.args.before)) c.in_ok-reserve.ensures.same
    ∙ ap (λ s. with_stage c.self.inside.requests.list c.args.ticket c.args.request (InFlight c.in-Some.pair s)) seen.1))
    (c.in_ok-add_write.ensures.ok y found ∙ ap (λ h. slice_set c.self.inside.copies c.self.inside.primary (copy_with y c.args.ticket h)) c.write.ensures)

pub returns-in_err-reserve-clause-due : goal.returns-in_err-reserve-clause-due
returns-in_err-reserve-clause-due c =
    OnErr-always c.from_residual.result (λ y at.
    performs_due c.args.self.now _ c.args.ticket c.args.request y c.in-Some.pair c.self.view_is c.in-Some.ensures.value.0
    (c.in-Some.ensures.value.1 ∙ (c.requires.seen y at).0))

pub returns-in_err-add_write-clause-due : goal.returns-in_err-add_write-clause-due
returns-in_err-add_write-clause-due c =
    OnErr-always c.from_residual-in_err-add_write.result (λ y at.
    performs_due c.args.self.now _ c.args.ticket c.args.request y c.in-Some.pair c.self.view_is c.in-Some.ensures.value.0
    (c.in-Some.ensures.value.1 ∙ (c.requires.seen y at).0))
