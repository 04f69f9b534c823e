use Rattle.std.proofs.Common.{◌≡◌, ◌++◌, drop, take, map}
use Rattle.std.specs.Prelude.{count_by, replicate}
use Rattle.repl_group.specs.aids.Keeping.{taken_by}
use Rattle.repl_group.specs.aids.Holding.{HeldState}
use Rattle.repl_group.specs.aids.Following.{follows}
use Rattle.repl_group.proofs.replicas.hand_over.Given as goal

abbrev pub invariant-loop-replica : goal.invariant-loop-replica
invariant-loop-replica l =
    (held : HeldState) → l.initial.sets.items ≡ replicate (count_by follows l.initial.replica-items) held
    → (l.replica-items ≡ map (taken_by held) (take l.replica-index l.initial.replica-items) ++ drop l.replica-index l.initial.replica-items)
    × (l.sets.items ≡ replicate (count_by follows (drop l.replica-index l.initial.replica-items)) held)
