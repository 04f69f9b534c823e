use Rattle.std.proofs.Common.{◌∙◌, ap, arith, length}
use Rattle.std.proofs.lemmas.List.{length-map}
use Rattle.workload.proofs.PlanLemmas.{near_turns}
use Rattle.workload.proofs.plan.Plan.turns.Goals as goal

pub returns-clause-documents : goal.returns-clause-documents
returns-clause-documents c =
    near_turns c.self.inside.clients.items c.deref.result.now c.args.client c.index.result.now c.self.invariant
    (omega (arith, ap length c.self.view_is, length-map c.self.inside.clients.items (λ turns. turns.items)))
    (c.deref.ensures.value ∙ ap (λ turns. turns.items) c.index.ensures)
