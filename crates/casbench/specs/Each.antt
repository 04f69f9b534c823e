-- What is written of several texts that are checked.
use Rattle.std.specs.Prelude.{◌≡◌, ℕ, true, List, [], ◌∷◌, ◌++◌, Option, Some, IfSome, codes, map, take}
use Rattle.std.specs.Io.KnownBytes.{Appends}
use Rattle.std.specs.List.{All, flat_map}
use Rattle.casbench.specs.Exit.{worse_outcome}
use Rattle.casbench.specs.Input.{names_input}
use Rattle.casbench.specs.Names.{shown_name}
use Rattle.casbench.specs.Objects.{IsObjectOn}
use Rattle.casbench.specs.Outcomes.{IsJudged, status_of}
use Rattle.command_line.specs.declared.form.Form.{Form}
use Rattle.command_line.specs.declared.form.Form.TheVariants.{Lines, Objects}
use Rattle.casbench.specs.declared.named_text.NamedText.{NamedText}
use Rattle.casbench.specs.declared.outcome.Outcome.{Outcome}
use Rattle.casbench.specs.declared.outcome.Outcome.TheVariants.{Answered}
use Rattle.readings.specs.declared.reading.Reading.{Reading}
use Rattle.evidence.specs.declared.ruling_out.RulingOut.{RulingOut}
use Rattle.report.specs.Verdict.{AnswersInput}
use Rattle.stream_io.specs.declared.status.Status.TheVariants.{Yes}

-- a text: its name, and its bytes, if they are known
-- Source: profile.
abbrev pub Named : Type 0
Named = List ℕ × Option (List ℕ)

-- a text that is at hand, by its name and the bytes that its source has left
-- Source: profile.
abbrev pub named_of : {S : Type 0} → (S → Option (List ℕ)) → NamedText S → Named
named_of remaining text = (text.name.now, remaining text.source)

-- what is written of a text in this form, if this is its line: the line behind the text's name (`shown_name`) and a colon;
-- or the object of the line (`IsObjectOn`)
-- Source: profile.
abbrev pub IsInForm : Reading → Form → List ℕ → Option (List ℕ) → List ℕ → List ℕ → Type 0
IsInForm reading Lines name input line written = written ≡ shown_name name ++ (codes ": " ++ line)
IsInForm reading Objects name input line written = IsObjectOn reading name input line written

-- What is written of one text: a line, in this form, which answers the bytes as a check of the text alone does
-- (`AnswersInput`, `IsJudged`).
-- Source: profile.
pub record AnswersOne (ruling : RulingOut) (reading : Reading) (least : ℕ) (form : Form) (text : Named) (outcome : Outcome) (written : List ℕ) : Type 0 where
  pub line : List ℕ
  -- it is written in this form
  pub named : IsInForm reading form text.0 text.1 line written
  -- it answers the bytes, with the status of the outcome
  pub answers : AnswersInput ruling reading text.1 (status_of outcome) line
  -- a yes is about fewer calls than are asked for just if the outcome is `TooFew`
  pub judged : IfSome text.1 (λ input. IsJudged least input outcome)

-- A text that was checked: what it is, what the check came to, and the line that is written of it.
-- Source: profile.
pub record CheckedText : Type 0 where
  pub text : Named
  pub outcome : Outcome
  pub line : List ℕ

-- the worst outcome among one and those of texts, the first of those that are equally bad
unfoldable pub worst_from : Outcome → List CheckedText → Outcome
worst_from outcome [] = outcome
worst_from outcome (c ∷ cs) = worst_from (worse_outcome outcome c.outcome) cs

-- What is written of several texts in a form, and what it comes to.
-- Source: profile.
pub record AnswersEach (ruling : RulingOut) (reading : Reading) (least : ℕ) (form : Form) (texts : List Named) (outcome : Outcome) (written : List ℕ) : Type 0 where
  pub checked : List CheckedText
  -- each of the texts was checked, in their order
  pub each : texts ≡ map (λ c. c.text) checked
  -- the line of each answers its bytes (`AnswersOne`)
  pub answered : All (λ c. AnswersOne ruling reading least form c.text c.outcome c.line) checked
  -- the lines are written in this order
  pub lines : written ≡ flat_map (λ c. c.line) checked
  -- the outcome is the worst one; of no text it is yes
  pub worst : outcome ≡ worst_from (Answered Yes) checked

-- The texts are those of files of these names, in their order; that of `-` is what standard input has.
-- Source: profile.
pub record AreOfFiles (files : List (List ℕ)) (given : Option (List ℕ)) (texts : List Named) : Type 0 where
  -- they have these names
  pub names : map (λ t. t.0) texts ≡ files
  -- a text that is named `-` has the bytes of standard input
  pub input : All (λ t. names_input (Some t.0) ≡ true → t.1 ≡ given) texts

-- the names of the files; that of standard input if there is none
-- Source: profile.
abbrev pub or_input : List (List ℕ) → List (List ℕ)
or_input [] = codes "-" ∷ []
or_input (name ∷ names) = name ∷ names

-- the writer holds, after what it held, a prefix of what is written of the texts, which may be empty, or all of it
-- Source: profile.
abbrev pub IsCutOffEach : RulingOut → Reading → ℕ → Form → List Named → Option (List ℕ) → Option (List ℕ) → Type 0
IsCutOffEach ruling reading least form texts old new =
    (outcome : Outcome) × (written : List ℕ) × (n : ℕ) × Appends old new (take n written) × AnswersEach ruling reading least form texts outcome written
