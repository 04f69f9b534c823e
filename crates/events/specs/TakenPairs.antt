-- Neighbours in a list that take the same pair of a shard.
use Rattle.std.specs.Prelude.{◌≡◌, ◌<◌, ◌≤◌, ◌-◌, ℕ, suc, List, Option, Some, None, length, slice_get}
use Rattle.version_pair.specs.declared.pair.Pair.{Pair}

-- the entry at the index takes the pair of the one before it
abbrev pub IsTakenAgain : {T : Type 0} → (T → ℕ × Pair) → List T → ℕ → Type 0
IsTakenAgain {T} takes xs k = (x : T) × (y : T) × (slice_get xs (k - 1) ≡ Some x) × (slice_get xs k ≡ Some y) × (takes x ≡ takes y)

-- from one index on and below another no entry takes the pair of the one before it
abbrev pub AreApart : {T : Type 0} → (T → ℕ × Pair) → List T → ℕ → ℕ → Type 0
AreApart {T} takes xs from end = (i : ℕ) (x y : T) → from ≤ suc i → suc i < end → slice_get xs i ≡ Some x → slice_get xs (suc i) ≡ Some y → takes x ≡ takes y → ⊥

-- the index that was found, or the number of entries
abbrev pub end_of : {T : Type 0} → List T → Option ℕ → ℕ
end_of xs None = length xs
end_of xs (Some k) = k
