-- What was taken of the bytes that a reader had: as much as may be for a text of some kind.
use Rattle.std.specs.Prelude.{ℕ, List, Option}
use Rattle.api_lines.specs.Sources.{IsTakenFor}
use Rattle.history.specs.ByRules.{history_text_by}
use Rattle.history.specs.declared.text_rules.TextRules.{TextRules}
use Rattle.witness.specs.Text.{witness_text}

-- as much as may be for a history text that is read by these rules
-- Source: profile.
abbrev pub TakesHistory : TextRules → Option (List ℕ) → Option (List ℕ) → Type 0
TakesHistory rules old new = IsTakenFor (history_text_by rules) old new

-- as much as may be for a witness text
-- Source: profile.
abbrev pub TakesWitness : Option (List ℕ) → Option (List ℕ) → Type 0
TakesWitness old new = IsTakenFor witness_text old new
