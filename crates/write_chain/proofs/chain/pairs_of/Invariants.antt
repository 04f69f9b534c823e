use Rattle.std.proofs.Common.{◌≡◌, map, take}
use Rattle.write_chain.proofs.chain.pairs_of.Given as goal

abbrev pub invariant-loop-link : goal.invariant-loop-link
invariant-loop-link l = l.pairs.items ≡ map (λ link. link.0) (take l.link-index l.chain)
