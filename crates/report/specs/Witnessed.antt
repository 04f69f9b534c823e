-- What is answered if a witness is asked for, piece by piece.
use Rattle.std.specs.Prelude.{◌≡◌, ◌≢◌, ℕ, List, [], Option, IfSome}
use Rattle.evidence.specs.declared.ruling_out.RulingOut.{RulingOut}
use Rattle.readings.specs.declared.reading.Reading.{Reading}
use Rattle.result_lines.specs.Objects.{line_of}
use Rattle.stream_io.specs.declared.status.Status.{Status}
use Rattle.stream_io.specs.declared.status.Status.TheVariants.{Yes, No, Refuted, Refused}
use Rattle.report.specs.Details.{IsProvedOf, status_of}
use Rattle.report.specs.Verdict.{IsAnswer, IsWitnessAnswer}
use Rattle.report.specs.declared.witnessed.Witnessed.{Witnessed}
use Rattle.report.specs.declared.witnessed.Witnessed.TheVariants.{Text, Answered}

-- what may follow a line with this status: a certificate if the history is refuted, and otherwise nothing
-- Source: profile.
abbrev pub MayFollow : Status → List ℕ → Type 0
MayFollow Yes more = more ≡ []
MayFollow No more = more ≡ []
MayFollow Refuted more = Unit {0}
MayFollow Refused more = more ≡ []

-- it is the text of a witness (`IsWitnessAnswer`), or what a line of a check reports that is not yes (`IsAnswer`), with
-- what is proved of it (`IsProvedOf`), and a certificate if the history is refuted (`MayFollow`)
-- Source: profile.
abbrev pub IsWitnessedBy : RulingOut → Reading → List ℕ → Witnessed → Type 0
IsWitnessedBy ruling reading input (Text text) = IsWitnessAnswer ruling reading input Yes text.items
IsWitnessedBy ruling reading input (Answered details certificate) =
    (status_of details.reported ≢ Yes) × MayFollow (status_of details.reported) certificate.items
    × IsAnswer ruling reading input (status_of details.reported) (line_of details.reported)
    × IsProvedOf reading input details.reported details.proved

-- it is one for the bytes that the reader had, if they are known
abbrev pub WitnessesBy : RulingOut → Reading → Option (List ℕ) → Witnessed → Type 0
WitnessesBy ruling reading input found = IfSome input (λ bytes. IsWitnessedBy ruling reading bytes found)
