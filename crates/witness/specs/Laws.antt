-- The law of witness texts.
use Rattle.std.specs.Prelude.{[]}
use Rattle.api_lines.specs.Texts.{ReadsLineByLine}
use Rattle.witness.specs.Text.{takes_value}

-- Witnesses are read line by line (`ReadsLineByLine`), from no document: a reader that takes one line more
-- gives what is read of the text with that line.
-- Source: profile.
abbrev pub WitnessesLineByLine : Type 0
WitnessesLineByLine = ReadsLineByLine takes_value []
