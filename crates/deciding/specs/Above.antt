-- The least pair above another one.
use Rattle.std.specs.Prelude.{◌≡◌, ◌⊎◌, Option, Some, None}
use Rattle.version_pair.specs.declared.pair.Pair.{Pair}
use Rattle.version_pair.specs.PairOrder.{IsBelow}
use Rattle.deciding.specs.Branches.{IsAbove}

-- q is the least pair above the lower one; if none is given, no pair is above it
-- Source: profile.
abbrev pub IsLeastAbove : Option Pair → Option Pair → Type 0
IsLeastAbove lower None = (r : Pair) → ¬ IsAbove lower r
IsLeastAbove lower (Some q) = IsAbove lower q × ((r : Pair) → IsAbove lower r → (q ≡ r) ⊎ IsBelow q r)
