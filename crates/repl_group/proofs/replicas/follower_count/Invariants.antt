use Rattle.std.proofs.Common.{◌≡◌, take}
use Rattle.std.specs.Prelude.{count_by}
use Rattle.repl_group.specs.aids.Following.{follows}
use Rattle.repl_group.proofs.replicas.follower_count.Given as goal

abbrev pub invariant-loop-replica : goal.invariant-loop-replica
invariant-loop-replica l = l.count ≡ count_by follows (take l.replica-index l.replicas)
