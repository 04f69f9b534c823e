-- Seeds that are tried.
use Rattle.std.specs.Prelude.{ℕ, Option, Some, None, if◌then◌else◌, nat_le}

-- the seeds from the first to the last, if the last is not below the first
abbrev pub seeds_between : ℕ → ℕ → Option (ℕ × ℕ)
seeds_between first last = if nat_le first last then Some (first, last) else None
