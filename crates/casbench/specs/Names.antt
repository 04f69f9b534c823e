-- The names of files as they are written.
use Rattle.std.specs.Prelude.{◌==◌, ◌||◌, ◌/◌, ◌%◌, ◌+◌, ℕ, List, [], ◌∷◌, if◌then◌else◌, nat_lt, flat_map}

-- a hexadecimal digit
abbrev pub hex_digit : ℕ → ℕ
hex_digit n = if nat_lt n 10 then 48 + n else 87 + n

-- a byte of a name as it is written: a control character as `\xHH`, otherwise the byte itself
-- Source: profile.
abbrev pub shown_byte : ℕ → List ℕ
shown_byte b = if nat_lt b 32 || b == 127 then 92 ∷ 120 ∷ hex_digit (b / 16) ∷ hex_digit (b % 16) ∷ [] else b ∷ []

-- a name as it is written
-- Source: profile.
abbrev pub shown_name : List ℕ → List ℕ
shown_name name = flat_map shown_byte name
