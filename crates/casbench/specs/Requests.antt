-- What the program does for each request.
use Rattle.std.specs.Prelude.{◌≡◌, ◌⊎◌, ℕ, true, List, Option, IfSome, map, option_map}
use Rattle.std.specs.Io.KnownBytes.{Keeps}
use Rattle.casbench.specs.Each.{AnswersEach, AreOfFiles, IsCutOffEach, Named, or_input}
use Rattle.casbench.specs.Input.{name_of, names_input}
use Rattle.casbench.specs.Objects.{ExplainsInForm, WitnessesInForm}
use Rattle.casbench.specs.Outcomes.{IsAnswerWith, IsJudged, status_of}
use Rattle.casbench.specs.declared.outcome.Outcome.{Outcome}
use Rattle.casbench.specs.declared.outcome.Outcome.TheVariants.{Answered}
use Rattle.command_line.specs.declared.request.Request.{Request}
use Rattle.command_line.specs.declared.request.Request.TheVariants as request
use Rattle.doc_register.specs.declared.op.Op.{Op}
use Rattle.readings.specs.declared.reading.Reading.{Reading}
use Rattle.evidence.specs.declared.ruling_out.RulingOut.{RulingOut}
use Rattle.recorded_runs.specs.Runs.{IsRunText, IsTextInTurns}
use Rattle.recorded_runs.specs.declared.manner.Playing.TheVariants.{InTurns}
use Rattle.report.specs.Verdict.{IsAnswered, IsCutOff}
use Rattle.seed_search.specs.Found.{IsFoundText, IsSearched}
use Rattle.stream_io.specs.Written.{HasAnswer, HasPrefix}
use Rattle.stream_io.specs.declared.status.Status.TheVariants.{Yes}
use Rattle.workload.specs.declared.target.Progress.{Progress}
use Rattle.workload.specs.declared.target.Ticket.{Ticket}

-- The line of a check was written, which answers the input, and a yes is about fewer calls than are asked for just if
-- the outcome is `TooFew`.
-- Source: profile.
abbrev pub AnswersCheck : RulingOut → Reading → ℕ → Option (List ℕ) → Option (List ℕ) → Option (List ℕ) → Outcome → Type 0
AnswersCheck ruling reading least input old new outcome =
    IsAnswered ruling reading input old new (status_of outcome) × IfSome input (λ bytes. IsJudged least bytes outcome)

-- What the target of a run issued tickets for, and what it gave when they were polled; what standard input has, and
-- what the writer held before and holds after.
module _ (issued : Ticket → List ℕ → Op → Type 0) (gave : Ticket → Progress → Type 0) (input old new : Option (List ℕ)) where
  -- The writer holds, after what it held, what answers the request, which came to that outcome. Check: the line of a
  -- check. CheckEach: a line or an object for each text, in their order. Witness: the witness, or the answer of a check
  -- that is not yes. Run: the text of a run; in turns of exactly the run that the setting and the disturbance determine.
  -- Search: the first run for which no order was found; or no, if there is none. Explain: the answer of a check, and its
  -- explanation. What is written of a file, and not of standard input, is not said, but that a CheckEach writes something
  -- in its form for each name, in their order; so nothing is said of Verify and Bulk, of which one text at least is a
  -- file.
  -- Source: profile.
  abbrev pub Answers : Request → Outcome → Type 0
  Answers (request.Check file reading workers ruling least) outcome =
      names_input (option_map (λ t. t.now) file) ≡ true → AnswersCheck ruling reading least input old new outcome
  Answers (request.CheckEach files form reading workers ruling least) outcome =
      (texts : List Named) × AreOfFiles (or_input (map (λ f. f.now) files.items)) input texts
      × HasAnswer (AnswersEach ruling reading least form texts outcome) old new
  Answers (request.Witness file form reading ruling) outcome =
      names_input (option_map (λ t. t.now) file) ≡ true
      → IsAnswerWith (λ status. HasAnswer (WitnessesInForm form (name_of (option_map (λ t. t.now) file)) ruling reading input status) old new) outcome
  Answers (request.Verify history witness form reading) outcome = Unit {0}
  Answers (request.Bulk body reply first) outcome = Unit {0}
  Answers (request.Run setting manner) outcome =
      (outcome ≡ Answered Yes) × HasAnswer (IsRunText issued gave setting) old new
      × (manner.playing ≡ InTurns → HasAnswer (IsTextInTurns setting manner.disturbance) old new)
  Answers (request.Search seeds setting disturbance) outcome = IsAnswerWith (IsSearched issued gave disturbance setting seeds.first seeds.last old new) outcome
  Answers (request.Explain file form reading workers ruling page) outcome =
      names_input (option_map (λ t. t.now) file) ≡ true
      → IsAnswerWith (λ status. HasAnswer (ExplainsInForm form (name_of (option_map (λ t. t.now) file)) ruling reading input status) old new) outcome

  -- The writer holds, after what it held, a prefix of what answers the request, which may be empty or all of it; of an
  -- explanation it may hold no more than it held, since a page can fail before. Of files nothing is said, as above.
  -- Source: profile.
  abbrev pub IsCutShort : Request → Type 0
  IsCutShort (request.Check file reading workers ruling least) =
      names_input (option_map (λ t. t.now) file) ≡ true → IsCutOff ruling reading input old new
  IsCutShort (request.CheckEach files form reading workers ruling least) =
      (texts : List Named) × AreOfFiles (or_input (map (λ f. f.now) files.items)) input texts × IsCutOffEach ruling reading least form texts old new
  IsCutShort (request.Witness file form reading ruling) =
      names_input (option_map (λ t. t.now) file) ≡ true
      → HasPrefix (WitnessesInForm form (name_of (option_map (λ t. t.now) file)) ruling reading input) old new
  IsCutShort (request.Verify history witness form reading) = Unit {0}
  IsCutShort (request.Bulk body reply first) = Unit {0}
  IsCutShort (request.Run setting manner) = HasPrefix (λ _. IsRunText issued gave setting) old new
  IsCutShort (request.Search seeds setting disturbance) =
      HasPrefix (λ _. IsFoundText issued gave disturbance setting seeds.first seeds.last) old new
  IsCutShort (request.Explain file form reading workers ruling page) =
      names_input (option_map (λ t. t.now) file) ≡ true
      → HasPrefix (ExplainsInForm form (name_of (option_map (λ t. t.now) file)) ruling reading input) old new ⊎ Keeps old new
