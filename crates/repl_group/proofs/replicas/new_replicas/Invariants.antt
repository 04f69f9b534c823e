use Rattle.std.proofs.Common.{◌≡◌}
use Rattle.std.specs.Prelude.{replicate}
use Rattle.repl_group.specs.aids.Keeping.{new_replica}
use Rattle.repl_group.proofs.replicas.new_replicas.Given as goal

abbrev pub invariant-loop : goal.invariant-loop
invariant-loop l = l.replicas.items ≡ replicate l.counter new_replica
