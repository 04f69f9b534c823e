-- Lines of witness texts that are written: aids of the contracts.
use Rattle.std.specs.Prelude.{◌≡◌, ◌++◌, ℕ, List, All, length}
use Rattle.serde_json.specs.Written.{compact_text}
use Rattle.version_pair.specs.Id.{IsIdLength}
use Rattle.api_lines.specs.aids.JsonLines.{IsJsonLine}
use Rattle.witness.specs.declared.witness_line.WitnessLine.{WitnessLine}
use Rattle.witness.specs.declared.witness_line.WitnessLine.TheVariants as line
use Rattle.witness.specs.Text.{value_of, written}

-- an id has the length of one
abbrev pub HasId : WitnessLine → Type 0
HasId (line.Document d) = IsIdLength (length d)
HasId (line.Place p) = Unit {0}

-- the line is JSON of its value, with such an id
pub record IsReadable (said : WitnessLine) : Type 0 where
  pub json : IsJsonLine (compact_text (value_of said)) (value_of said)
  pub id : HasId said

-- the text has the lines after what it had, and each can be read
pub record IsWrittenOn (old new : List ℕ) (lines : List WitnessLine) : Type 0 where
  pub added : new ≡ old ++ written lines
  pub readable : All IsReadable lines
