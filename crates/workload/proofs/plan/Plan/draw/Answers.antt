use Rattle.std.proofs.Common.{arith, ◌∙◌, ap}
use Rattle.workload.specs.Plans.{refusal_of}
use Rattle.workload.proofs.DrawingLemmas.{drawn_is_plan}
use Rattle.workload.proofs.plan.Plan.draw.Goals as goal

pub invariant_of-result : goal.invariant_of-result
invariant_of-result c =
    ap refusal_of c.in_ok-clients.ensures
    ∙ drawn_is_plan c.args.docs c.args.calls c.args.clients c.generator.result (omega arith) (omega arith) (omega arith) (omega arith) (omega arith) (omega arith)
