use Rattle.std.proofs.Common.{◌≡◌, ◌∙◌, None, ap, arith, length, sym}
use Rattle.std.proofs.lemmas.List.{length-map}
use Rattle.workload.specs.Plans.{refusal_of}
use Rattle.workload.proofs.PlanLemmas.{few_clients, some_clients}
use Rattle.workload.proofs.plan.Plan.clients.Goals as goal

is_plan : (c : goal.After-len) → refusal_of c.args.self.now ≡ None
is_plan c = ap refusal_of (sym c.self.view_is) ∙ c.self.invariant

pub returns-clause-some : goal.returns-clause-some
returns-clause-some c =
    omega (
      arith,
      some_clients c.args.self.now (is_plan c),
      ap length c.self.view_is,
      length-map c.self.inside.clients.items (λ turns. turns.items),
      c.self.inside.clients.ok,
    )

pub returns-clause-few : goal.returns-clause-few
returns-clause-few c =
    omega (
      arith,
      few_clients c.args.self.now (is_plan c),
      ap length c.self.view_is,
      length-map c.self.inside.clients.items (λ turns. turns.items),
      c.self.inside.clients.ok,
    )
