-- What a written explanation says of the bytes that were read.
use Rattle.std.specs.Prelude.{◌≡◌, ℕ, ◌++◌, List, Option}
use Rattle.evidence.specs.declared.ruling_out.RulingOut.{RulingOut}
use Rattle.readings.specs.declared.reading.Reading.{Reading}
use Rattle.report.specs.Verdict.{AnswersInput}
use Rattle.stream_io.specs.declared.status.Status.{Status}

-- What `explain` writes. The text begins with the line of a check, which is an answer, with this status, to
-- the bytes that the reader had (`AnswersInput`); an explanation follows, of which this says nothing.
-- Source: profile.
abbrev pub ExplainsInput : RulingOut → Reading → Option (List ℕ) → Status → List ℕ → Type 0
ExplainsInput ruling reading input status text =
    (line story : List ℕ) × (text ≡ line ++ story) × AnswersInput ruling reading input status line
