-- The known pairs of a document in their order, and the pairs beside them.
use Rattle.std.specs.Prelude.{false, ◌≡◌, ◌⊎◌, List, Option, None, Some, IsPermutation, IsSorted}
use Rattle.version_pair.specs.declared.pair.Pair.{Pair}
use Rattle.version_pair.specs.PairOrder.{IsBelow}
use Rattle.write_chain.specs.Chain.{pair_cmp}
use Rattle.events.specs.declared.record.Rec.{Rec}
use Rattle.deciding.specs.Facts.{Facts}
use Rattle.deciding.specs.Reported.{IsKnown, known_pairs}
use Rattle.deciding.specs.Branches.{IsAbove}

-- the known pairs of the records, in the order of pairs
pub record AreKnown (records : List Rec) (pairs : List Pair) : Type 0 where
  pub all : IsPermutation (known_pairs records) pairs
  pub in_order : IsSorted pair_cmp pairs

-- the least known pair above the lower one, if there is one
abbrev pub IsNextKnown : List Rec → Option Pair → Option Pair → Type 0
IsNextKnown records lower None = (v : Pair) → IsKnown records v → ¬ IsAbove lower v
IsNextKnown records lower (Some v) =
    IsKnown records v × IsAbove lower v × ((u : Pair) → IsKnown records u → IsAbove lower u → ¬ IsBelow u v)

-- the least pair above the lower one that no other document is known to have, if it is not known; otherwise a known pair is
-- below each unknown one above the lower one that no other document is known to have
abbrev pub IsFreeAbove : Facts → List Rec → Option Pair → Option Pair → Type 0
IsFreeAbove facts records lower None =
    (r : Pair) → IsAbove lower r → (¬ IsKnown records r) → facts.elsewhere r ≡ false → (v : Pair) × IsKnown records v × IsAbove lower v × IsBelow v r
IsFreeAbove facts records lower (Some q) = (¬ IsKnown records q) × (facts.elsewhere q ≡ false) × IsAbove lower q
    × ((r : Pair) → IsAbove lower r → facts.elsewhere r ≡ false → (q ≡ r) ⊎ IsBelow q r)
