use Rattle.std.proofs.Common.{◌≡◌, ◌<◌, ◌++◌, All, drop, length}
use Rattle.write_chain.specs.Chain.{performed_records}
use Rattle.write_chain.proofs.chain.performed_by_pair.Given as goal

abbrev pub invariant-loop-k : goal.invariant-loop-k
invariant-loop-k l = (l.links.items ++ performed_records l.k (drop l.k l.records) ≡ performed_records 0 l.records)
    × All (λ link. link.1 < length l.records) l.links.items
