use Rattle.std.proofs.Common.{◌≡◌, ◌+◌, ◌∙◌, None, ap, arith, length, sym, take}
use Rattle.std.specs.Prelude.{sum_by}
use Rattle.std.proofs.lemmas.List.{take_all}
use Rattle.workload.specs.Plans.{refusal_of, turn_count}
use Rattle.workload.proofs.PlanLemmas.{counted, room_for}
use Rattle.workload.proofs.plan.Plan.first_number.Goals as goal

number_is : (c : goal.After-loop-turns) → c.loop-turns.number ≡ 1 + turn_count (take c.args.client c.args.self.now)
number_is c =
    c.loop-turns.invariant
    ∙ ap (λ clients. 1 + sum_by (λ turns. length turns.items) clients)
    (take_all c.loop-turns.turns-index (take c.args.client c.deref.result.now) c.loop-turns-test.false ∙ ap (take c.args.client) c.deref.ensures.value)
    ∙ ap (λ n. 1 + n) (sym (counted c.self.inside.clients.items c.args.client))
    ∙ ap (λ clients. 1 + turn_count (take c.args.client clients)) c.self.view_is

pub returns-clause-number : goal.returns-clause-number
returns-clause-number c = number_is c

pub returns-clause-room : goal.returns-clause-room
returns-clause-room c turns at =
    let plan : refusal_of c.args.self.now ≡ None = ap refusal_of (sym c.self.view_is) ∙ c.self.invariant in
    omega (arith, number_is c, room_for c.args.self.now c.args.client turns plan at)
