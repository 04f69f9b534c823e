use Rattle.std.proofs.Common.{◌<◌}
use Rattle.workload.specs.declared.target.Progress.TheVariants.{Waiting}
use Rattle.workload.proofs.client.hear.Given as goal

-- once it was polled, the ticket waits
abbrev pub invariant-loop : goal.invariant-loop
invariant-loop g l = 0 < l.counter → g.T.Target.gave l.ticket Waiting
