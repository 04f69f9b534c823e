use Rattle.std.proofs.Common.{subst, sym}
use Rattle.std.specs.Vec.Iter.{into_iter_items}
use Rattle.std.proofs.lemmas.Result.{err_from_is_err_and}
use Rattle.workload.specs.aids.Gathering.{IsFaultOf}
use Rattle.workload.proofs.RunningLemmas.{fault_here}
use Rattle.workload.proofs.running.gather_pens.Goals as goal

pub returns-in_err-result-clause-fault : goal.returns-in_err-result-clause-fault
returns-in_err-result-clause-fault g c =
    let p = err_from_is_err_and c.from_residual-in_err-result.result c.from_residual-in_err-result.ensures.1 in
    let came = rw (c.in-Some.ensures.steps.0, c.in_err-result.was) at c.loop-result.invariant in
    let here : IsFaultOf c.args.results.items c.in_err-result.field-0.0 =
    subst (λ results. IsFaultOf results c.in_err-result.field-0.0) came (fault_here c.loop-result.pens.items (into_iter_items c.next.new.self) c.in_err-result.field-0.0) in
    rw (p.1) (subst (λ fault. IsFaultOf c.args.results.items fault) (sym p.2) here)
