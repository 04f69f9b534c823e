use Rattle.std.proofs.Common.{◌≡◌, ◌+◌, length}
use Rattle.std.specs.Prelude.{sum_by, take}
use Rattle.workload.proofs.plan.Plan.first_number.Given as goal

-- 1 and the turns so far
abbrev pub invariant-loop-turns : goal.invariant-loop-turns
invariant-loop-turns l = l.number ≡ 1 + sum_by (λ turns. length turns.items) (take l.turns-index l.turns-items)
