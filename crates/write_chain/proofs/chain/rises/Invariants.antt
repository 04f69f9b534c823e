use Rattle.std.proofs.Common.{◌≡◌, ℕ, suc, ◌<◌, ◌≤◌, Some, slice_get}
use Rattle.version_pair.specs.declared.pair.Pair.{Pair}
use Rattle.version_pair.specs.PairOrder.{IsBelow}
use Rattle.write_chain.proofs.chain.rises.Given as goal

abbrev pub invariant-loop-k : goal.invariant-loop-k
invariant-loop-k l = (1 ≤ l.k) × ((j : ℕ) (a b : Pair × ℕ) → suc j < l.k → slice_get l.chain j ≡ Some a → slice_get l.chain (suc j) ≡ Some b → IsBelow a.0 b.0)
