use Rattle.std.proofs.Common.{◌≡◌, ◌++◌, Ok}
use Rattle.std.specs.Prelude.{map}
use Rattle.std.specs.Vec.Iter.{into_iter_items}
use Rattle.workload.proofs.running.gather_pens.Given as goal

-- the pens so far are those of the results that were passed
abbrev pub invariant-loop-result : goal.invariant-loop-result
invariant-loop-result g l = map (λ pen. Ok pen) l.pens.items ++ into_iter_items l.result-iterator ≡ l.fn.results.items
