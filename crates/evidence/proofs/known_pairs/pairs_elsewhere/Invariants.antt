use Rattle.std.proofs.Common.{ℕ, ◌≡◌, Some, slice_get}
use Rattle.version_pair.specs.declared.pair.Pair.{Pair}
use Rattle.evidence.specs.aids.KnownPairs.{IsOther}
use Rattle.evidence.proofs.known_pairs.pairs_elsewhere.Given as goal

abbrev pub invariant-loop-i : goal.invariant-loop-i
invariant-loop-i l = (j : ℕ) (q : Pair) → slice_get l.pairs.items j ≡ Some q → IsOther l.known l.shard l.doc q
