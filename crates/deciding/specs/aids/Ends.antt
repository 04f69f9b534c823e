-- Pairs that are kept with the free pairs above them.
use Rattle.std.specs.Prelude.{◌≡◌, true, false, Option, None, Some}
use Rattle.std.specs.BTreeMap.{BTreeMap, get}
use Rattle.version_pair.specs.declared.pair.Pair.{Pair}
use Rattle.version_pair.specs.PairOrder.{IsBelow}
use Rattle.write_chain.specs.Chain.{pair_cmp}
use Rattle.deciding.specs.Elsewhere.{is_kept}

-- the second pair is the first or above it
abbrev pub IsFrom : Pair → Pair → Type 0
IsFrom p r = ¬ IsBelow r p

-- the least pair from p on that is not kept; if none is given, each from p on is kept
abbrev pub IsFreeFrom : BTreeMap Pair (Option Pair) → Pair → Option Pair → Type 0
IsFreeFrom ends p None = (r : Pair) → IsFrom p r → is_kept ends r ≡ true
IsFreeFrom ends p (Some f) = IsFrom p f × (is_kept ends f ≡ false) × ((r : Pair) → IsFrom p r → IsBelow r f → is_kept ends r ≡ true)

-- with each pair stands the least one from it on that is not kept, if there is one
abbrev pub HasEnds : BTreeMap Pair (Option Pair) → Type 0
HasEnds ends = ((p : Pair) → get pair_cmp ends p ≡ Some None → IsFreeFrom ends p None)
    × ((p f : Pair) → get pair_cmp ends p ≡ Some (Some f) → IsFreeFrom ends p (Some f))

-- each pair that is kept is above this one, if there is one; otherwise none is kept
abbrev pub AreAbove : BTreeMap Pair (Option Pair) → Option Pair → Type 0
AreAbove ends None = (p : Pair) → is_kept ends p ≡ false
AreAbove ends (Some last) = (p : Pair) → is_kept ends p ≡ true → IsFrom last p
