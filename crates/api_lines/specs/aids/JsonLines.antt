-- Lines that are JSON, or are not: aids of contracts and lemmas.
use Rattle.std.specs.Prelude.{◌≡◌, ℕ, List, Some, IsUtf8}
use Rattle.serde_json.specs.Data.{Data}
use Rattle.serde_json.specs.Read.{read}

-- the line is UTF-8, and JSON of this value
abbrev pub IsJsonLine : List ℕ → Data → Type 0
IsJsonLine line v = IsUtf8 line × (read line ≡ Some v)

-- the line is not JSON, of any value
abbrev pub IsNoJsonLine : List ℕ → Type 0
IsNoJsonLine line = (v : Data) → ¬ IsJsonLine line v
