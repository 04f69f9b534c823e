use Rattle.std.proofs.Common.{◌≡◌, ◌∙◌, Some, ap, false, refl}
use Rattle.std.specs.Prelude.{slice_get}
use Rattle.repl_group.specs.Requests.{is_busy}
use Rattle.repl_group.specs.aids.Tracking.{RequestsState}
use Rattle.repl_group.specs.declared.request.Stage.TheVariants.{InFlight}
use Rattle.repl_group.proofs.RequestLemmas.{listed_launched}
use Rattle.repl_group.proofs.requests.Requests.launch.Goals as goal

pub invariant_of-self : goal.invariant_of-self
invariant_of-self c =
    let at : slice_get c.self.inside.list.items c.args.ticket ≡ Some c.args.request = ap (λ (r : RequestsState). slice_get r.list c.args.ticket) c.self.view_is ∙ c.requires.found in
    let free : is_busy c.self.inside.list.items c.args.request.doc ≡ false = ap (λ (r : RequestsState). is_busy r.list c.args.request.doc) c.self.view_is ∙ c.requires.free in
    rw c.set_stage.ensures
    (listed_launched _ _ _ c.self.invariant c.args.ticket c.args.request at (InFlight c.args.pair c.args.before) _ _ c.requires.is_queued free refl
    c.put_in_order.ensures c.in-Ok.ensures.updates.0)
