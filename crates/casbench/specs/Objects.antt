-- What is written in objects of JSON.
use Rattle.std.specs.Prelude.{◌≡◌, ℕ, List, Option, IfSome, Some}
use Rattle.casbench.specs.Readings.{IsNamedReading}
use Rattle.command_line.specs.declared.form.Form.{Form}
use Rattle.command_line.specs.declared.form.Form.TheVariants.{Lines, Objects}
use Rattle.readings.specs.declared.reading.Reading.{Reading}
use Rattle.evidence.specs.declared.ruling_out.RulingOut.{RulingOut}
use Rattle.report.specs.Details.{IsProvedOf}
use Rattle.report.specs.Explained.{ExplainsInput}
use Rattle.report.specs.Verdict.{AnswersInput, IsAnswer, IsFollowed, IsVerifyAnswer, IsWitnessAnswer, VerifiesInputs, WitnessesInput}
use Rattle.result_lines.specs.Objects.{line_of, object_text}
use Rattle.result_lines.specs.declared.facts.Facts.{Facts}
use Rattle.result_lines.specs.declared.reported.Reported.{Reported}
use Rattle.stream_io.specs.declared.status.Status.{Status}
use Rattle.stream_io.specs.declared.status.Status.TheVariants.{Yes, No, Refuted, Refused}

-- The text is an object whose members are those of this line, of a history that the file of this name had as
-- these bytes, if they are known, with other facts.
-- Source: profile.
pub record IsObjectOn (reading : Reading) (file : List ℕ) (input : Option (List ℕ)) (line text : List ℕ) : Type 0 where
  pub reported : Reported
  pub facts : Facts
  -- the line reports it
  pub says : line ≡ line_of reported
  -- the file is named
  pub named : facts.file.now ≡ file
  -- what is said to be proved of the bytes is (`IsProvedOf`)
  pub proved : IfSome input (λ bytes. IsProvedOf reading bytes reported facts.proved)
  -- the reading is named, unless it leaves each event as it is
  pub by_reading : IsNamedReading reading facts.reading
  pub written : text ≡ object_text reported facts

-- the object of the line of a check, of the history of this file (`IsAnswer`, `IsObjectOn`)
-- Source: profile.
abbrev pub IsObjectOfAnswer : List ℕ → RulingOut → Reading → List ℕ → Status → List ℕ → Type 0
IsObjectOfAnswer file ruling reading input status text = (line : List ℕ) × IsAnswer ruling reading input status line × IsObjectOn reading file (Some input) line text

-- what is written if a witness is asked for: the text of one if the status is Yes (`IsWitnessAnswer`); else the object of
-- the line of a check, after which a certificate may follow if the history is refuted, of which nothing is said
-- Source: profile.
abbrev pub IsWitnessInJson : List ℕ → RulingOut → Reading → List ℕ → Status → List ℕ → Type 0
IsWitnessInJson file ruling reading input Yes text = IsWitnessAnswer ruling reading input Yes text
IsWitnessInJson file ruling reading input No text = IsObjectOfAnswer file ruling reading input No text
IsWitnessInJson file ruling reading input Refuted text = IsFollowed (IsObjectOfAnswer file ruling reading input Refuted) text
IsWitnessInJson file ruling reading input Refused text = IsObjectOfAnswer file ruling reading input Refused text

-- the same for the bytes that the reader had, if they are known
abbrev pub WitnessesInJson : List ℕ → RulingOut → Reading → Option (List ℕ) → Status → List ℕ → Type 0
WitnessesInJson file ruling reading input status text = IfSome input (λ bytes. IsWitnessInJson file ruling reading bytes status text)

-- what is written of a check of a witness: the object of its line, of the history of this file, for the bytes that the
-- two readers had, if they are known (`IsVerifyAnswer`, `IsObjectOn`)
-- Source: profile.
abbrev pub VerifiesInJson : List ℕ → Reading → Option (List ℕ) → Option (List ℕ) → Status → List ℕ → Type 0
VerifiesInJson file reading history witness status text =
    IfSome history (λ h. IfSome witness (λ w. (line : List ℕ) × IsVerifyAnswer reading h w status line × IsObjectOn reading file (Some h) line text))

-- what is written of a check that is explained: the object of its line, of the history of this file, for the bytes
-- that the reader had, if they are known (`AnswersInput`, `IsObjectOn`)
-- Source: profile.
abbrev pub ExplainsInJson : List ℕ → RulingOut → Reading → Option (List ℕ) → Status → List ℕ → Type 0
ExplainsInJson file ruling reading input status text =
    (line : List ℕ) × AnswersInput ruling reading input status line × IsObjectOn reading file input line text

-- ---- in lines or in objects, as is asked for

-- what is written if a witness is asked for (`WitnessesInput`, `WitnessesInJson`)
-- Source: profile.
abbrev pub WitnessesInForm : Form → List ℕ → RulingOut → Reading → Option (List ℕ) → Status → List ℕ → Type 0
WitnessesInForm Lines file ruling reading input status text = WitnessesInput ruling reading input status text
WitnessesInForm Objects file ruling reading input status text = WitnessesInJson file ruling reading input status text

-- what is written of a check of a witness (`VerifiesInputs`, `VerifiesInJson`)
-- Source: profile.
abbrev pub VerifiesInForm : Form → List ℕ → Reading → Option (List ℕ) → Option (List ℕ) → Status → List ℕ → Type 0
VerifiesInForm Lines file reading history witness status text = VerifiesInputs reading history witness status text
VerifiesInForm Objects file reading history witness status text = VerifiesInJson file reading history witness status text

-- what is written of a history that is explained: in lines the text begins with the line of a check (`ExplainsInput`);
-- in objects it is the object of one (`ExplainsInJson`)
-- Source: profile.
abbrev pub ExplainsInForm : Form → List ℕ → RulingOut → Reading → Option (List ℕ) → Status → List ℕ → Type 0
ExplainsInForm Lines file ruling reading input status text = ExplainsInput ruling reading input status text
ExplainsInForm Objects file ruling reading input status text = ExplainsInJson file ruling reading input status text
