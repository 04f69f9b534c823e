-- The hasher with which look-ups begin.
use Rattle.std.specs.Prelude.{ℕ}
use Rattle.std.specs.Hash.{le_bytes}
use Rattle.std.specs.Hash.DefaultHasher.{initial, write}
use Rattle.std.specs.declared.hash.DefaultHasher.{DefaultHasher}

-- the hasher to which two numbers were written, each as its eight bytes, the lowest first
abbrev pub hasher_of : ℕ → ℕ → DefaultHasher
hasher_of first second = write (write initial (le_bytes 8 first)) (le_bytes 8 second)
