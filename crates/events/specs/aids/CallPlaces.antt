-- The positions of calls by their numbers, as a history keeps them: aids of their type and its contracts.
use Rattle.std.specs.Prelude.{◌≡◌, ℕ, ◌<◌, ◌==◌, List, length, slice_index_or}
use Rattle.std.specs.Map.{lookup}

-- the number of the entry at an index
abbrev pub number_at : List (ℕ × ℕ) → ℕ → ℕ
number_at entries i = let entry = slice_index_or entries i (0, 0) in entry.0

-- the numbers rise
abbrev pub AreRising : List (ℕ × ℕ) → Type 0
AreRising entries = (i j : ℕ) → i < j → j < length entries → number_at entries i < number_at entries j

-- all numbers are below this one
abbrev pub AreBelow : List (ℕ × ℕ) → ℕ → Type 0
AreBelow entries n = (i : ℕ) → i < length entries → number_at entries i < n

-- under each number the new entries have the same as the old ones
abbrev pub AreFoundAlike : List (ℕ × ℕ) → List (ℕ × ℕ) → Type 0
AreFoundAlike old new = (q : ℕ) → lookup (◌==◌ q) new ≡ lookup (◌==◌ q) old
