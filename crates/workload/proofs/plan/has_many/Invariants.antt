use Rattle.std.proofs.Common.{◌≡◌, ◌+◌, length}
use Rattle.std.specs.Prelude.{sum_by, take}
use Rattle.workload.specs.Plans.{most_turns}
use Rattle.workload.proofs.plan.has_many.Given as goal

-- what is left of the most turns, beside those of the clients so far
abbrev pub invariant-loop-turns : goal.invariant-loop-turns
invariant-loop-turns l = l.left + sum_by (λ turns. length turns.items) (take l.turns-index l.clients) ≡ most_turns
