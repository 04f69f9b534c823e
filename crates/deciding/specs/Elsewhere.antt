-- Pairs that other documents of a shard are known to have.
use Rattle.std.specs.Prelude.{◌≡◌, ℕ, Bool, List, Option, Some, is_some, slice_get}
use Rattle.std.specs.BTreeMap.{BTreeMap, get}
use Rattle.version_pair.specs.declared.pair.Pair.{Pair}
use Rattle.write_chain.specs.Chain.{pair_cmp}

-- the pair is one of those that are kept, each with a pair above it
abbrev pub is_kept : BTreeMap Pair (Option Pair) → Pair → Bool
is_kept ends q = is_some (get pair_cmp ends q)

-- the pair is in the list
abbrev pub IsIn : List Pair → Pair → Type 0
IsIn pairs q = (i : ℕ) × (slice_get pairs i ≡ Some q)
