use Rattle.std.proofs.Common.{◌≡◌, ◌∙◌, Some, ap, refl}
use Rattle.std.specs.Prelude.{slice_get}
use Rattle.repl_group.specs.aids.Tracking.{RequestsState}
use Rattle.repl_group.specs.declared.request.Stage.TheVariants.{Answered}
use Rattle.repl_group.proofs.RequestLemmas.{listed_ended}
use Rattle.repl_group.proofs.requests.Requests.acknowledge.Goals as goal

pub invariant_of-self : goal.invariant_of-self
invariant_of-self c =
    let at : slice_get c.self.inside.list.items c.args.ticket ≡ Some c.args.request = ap (λ (r : RequestsState). slice_get r.list c.args.ticket) c.self.view_is ∙ c.requires.found in
    rw c.set_stage.ensures
    (listed_ended _ _ _ c.self.invariant c.args.ticket c.args.request at (Answered c.args.reply) _ _ c.requires.flying refl c.take_out.ensures c.swap_remove.ensures.updates.0)
