use Rattle.std.proofs.Common.{◌<◌, arith, length, sym}
use Rattle.std.specs.Prelude.{sum_by}
use Rattle.std.proofs.lemmas.Bool.{lt-ltb}
use Rattle.std.proofs.lemmas.List.Sums.{sum_by_more_le}
use Rattle.workload.specs.Plans.{most_turns}
use Rattle.workload.proofs.plan.has_many.Goals as goal

pub returns-then-len-left : goal.returns-then-len-left
returns-then-len-left c =
    let more = sum_by_more_le (λ turns. length turns.items) c.args.clients.now c.loop-turns.turns-index c.turns-item.result c.loop-turns-test.true in
    let here = rw (← c.turns-item.is) at more in
    let many : most_turns < sum_by (λ turns. length turns.items) c.args.clients.now = omega (arith, c.turns-item.result.ok) in
    sym (lt-ltb most_turns _ many)
