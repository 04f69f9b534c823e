-- What is made of a text that was read answers the bytes of the reader.
use Rattle.std.proofs.Common.{Vec, Global, ℕ, ◌≡◌, ◌≢◌, List, [], refl, sym, Option, None, Some, Ok, Err, subst}
use Rattle.std.specs.Prelude.{IfErr, IfOk, IfSome, MatchResult, Result}
use Rattle.std.specs.declared.alloc.AllocError.{AllocError}
use Rattle.api_lines.specs.declared.text_fault.TextFault.{TextFault}
use Rattle.compose.specs.declared.finding.Finding.{Finding}
use Rattle.compose.specs.declared.finding.Finding.TheVariants.{Explained, Unexplained}
use Rattle.evidence.specs.Evidence.{Holds}
use Rattle.history.specs.declared.text_rules.TextRules.{TextRules}
use Rattle.readings.specs.declared.unexplained.UnexplainedGet.{UnexplainedGet}
use Rattle.result_lines.specs.declared.reported.Reported.{Reported}
use Rattle.result_lines.specs.declared.reported.Reported.TheVariants as reported
use Rattle.stream_io.specs.declared.status.Status.TheVariants.{Yes, Refused}
use Rattle.report.specs.Findings.{HasItsEvidence, IsFoundBy, IsFoundOf, conflicts_of}
use Rattle.report.specs.declared.text_finding.TextFinding.{TextFinding}
use Rattle.report.specs.declared.text_input.NumberedText.{NumberedText}
use Rattle.events.specs.declared.event.Event.{Event}
use Rattle.evidence.specs.declared.ruling_out.RulingOut.{RulingOut}
use Rattle.history.specs.ByRules.{history_text_by}
use Rattle.history.specs.Text.{IsHistoryText}
use Rattle.history.specs.Laws.{TextsAreReadByRules}
use Rattle.history.specs.declared.text_read.TextRead.{TextRead}
use Rattle.readings.specs.Reading.{conflicts_as, rules_of}
use Rattle.readings.specs.declared.reading.Reading.{Reading}
use Rattle.result_lines.specs.Objects.{line_of}
use Rattle.stream_io.specs.declared.stream_fault.StreamFault.{StreamFault}
use Rattle.stream_io.specs.declared.stream_fault.StreamFault.TheVariants as fault
use Rattle.report.specs.Calls.{CountsCalls}
use Rattle.report.specs.Details.{IsProvedOf, calls_reported, status_of}
use Rattle.report.specs.Verdict.{AnswersInput, IsAnswer}
use Rattle.report.specs.Witnessed.{MayFollow, WitnessesBy}
use Rattle.report.specs.Workers.{HasDocument, NamesDocument, NamesOwnDocument}
use Rattle.report.specs.aids.Reports.{IsReportOn, IsWitnessedOf}
use Rattle.report.specs.declared.details.Details.{Details}
use Rattle.report.specs.declared.witnessed.Witnessed.{Witnessed}
use Rattle.report.specs.declared.witnessed.Witnessed.TheVariants.{Text, Answered}
use Rattle.report.proofs.AnswerLemmas.{if_read, refusal_answers, is_answer, is_proved, report_answers, report_counts, report_proves}

-- the text of the reader was read so
abbrev pub IsReadAs : Reading → Option (List ℕ) → TextRead → Type 0
IsReadAs reading input read = IfSome input (λ text. history_text_by (rules_of reading) text ≡ Ok read)

pub made_answers : {A : Type 0} (details : A → Details) (ruling : RulingOut) (reading : Reading) (read : TextRead) (input : Option (List ℕ)) (made : Result A StreamFault)
    → TextsAreReadByRules → IsReadAs reading input read → IfOk made (λ it. IsReportOn ruling reading read (details it).reported (details it).proved)
    → IfOk made (λ it. AnswersInput ruling reading input (status_of (details it).reported) (line_of (details it).reported))
made_answers details ruling reading read input (Err e) laws is report = tt
made_answers details ruling reading read input (Ok it) laws is report = report_answers ruling reading read input (details it).reported (details it).proved laws is report

pub made_counts : {A : Type 0} (details : A → Details) (ruling : RulingOut) (reading : Reading) (read : TextRead) (input : Option (List ℕ)) (made : Result A StreamFault)
    → TextsAreReadByRules → IsReadAs reading input read → IfOk made (λ it. IsReportOn ruling reading read (details it).reported (details it).proved)
    → IfOk made (λ it. IfSome input (λ bytes. CountsCalls bytes (status_of (details it).reported) (calls_reported (details it).reported)))
made_counts details ruling reading read input (Err e) laws is report = tt
made_counts details ruling reading read input (Ok it) laws is report = report_counts ruling reading read input (details it).reported (details it).proved laws is report

pub made_proves : {A : Type 0} (details : A → Details) (ruling : RulingOut) (reading : Reading) (read : TextRead) (input : Option (List ℕ)) (made : Result A StreamFault)
    → TextsAreReadByRules → IsReadAs reading input read → IfOk made (λ it. IsReportOn ruling reading read (details it).reported (details it).proved)
    → IfOk made (λ it. IfSome input (λ bytes. IsProvedOf reading bytes (details it).reported (details it).proved))
made_proves details ruling reading read input (Err e) laws is report = tt
made_proves details ruling reading read input (Ok it) laws is report = report_proves ruling reading read input (details it).reported (details it).proved laws is report

pub names_document : (reading : Reading) (read : TextRead) (input : Option (List ℕ)) (f : StreamFault) → TextsAreReadByRules → IsReadAs reading input read
    → HasDocument read.history f → NamesOwnDocument input f
names_document reading read input f laws is has = if_read reading read input laws is (λ bytes by. named bytes by.is_text f has) where
  named : (bytes : List ℕ) → IsHistoryText bytes read.history → (g : StreamFault) → HasDocument read.history g → NamesDocument bytes g
  named bytes text fault.Read has = tt
  named bytes text fault.Write has = tt
  named bytes text fault.NoMemory has = tt
  named bytes text (fault.Worker doc) has = (read.history, text, has)
  named bytes text fault.Recording has = tt
  named bytes text fault.Setting has = tt

pub made_names : {A : Type 0} (reading : Reading) (read : TextRead) (input : Option (List ℕ)) (made : Result A StreamFault)
    → TextsAreReadByRules → IsReadAs reading input read → IfErr made (HasDocument read.history) → IfErr made (NamesOwnDocument input)
made_names reading read input (Ok it) laws is has = tt
made_names reading read input (Err e) laws is has = names_document reading read input e laws is has

-- ---- a witness

pub witnesses : (ruling : RulingOut) (reading : Reading) (read : TextRead) (input : Option (List ℕ)) (found : Witnessed) → TextsAreReadByRules → IsReadAs reading input read
    → IsWitnessedOf ruling reading read found → WitnessesBy ruling reading input found
witnesses ruling reading read input (Text text) laws is of = if_read reading read input laws is (λ bytes by. (read, by, of))
witnesses ruling reading read input (Answered details certificate) laws is of =
    if_read reading read input laws is (λ bytes by. (
      of.0,
      of.1,
      is_answer ruling reading bytes read (status_of details.reported) (line_of details.reported) by of.2.says,
      is_proved reading bytes read details.reported details.proved by of.2.proof,
    ))

pub made_witnesses : (ruling : RulingOut) (reading : Reading) (read : TextRead) (input : Option (List ℕ)) (made : Result Witnessed AllocError)
    → TextsAreReadByRules → IsReadAs reading input read → IfOk made (IsWitnessedOf ruling reading read) → IfOk made (WitnessesBy ruling reading input)
made_witnesses ruling reading read input (Err e) laws is of = tt
made_witnesses ruling reading read input (Ok found) laws is of = witnesses ruling reading read input found laws is of

-- ---- a text that was read, or refused

-- by what the reading of lines reports the text was read so
pub was_read : {E : Type 0} (err : E → TextFault) (reading : Reading) (rules : TextRules) (input : Option (List ℕ)) (reported : Result NumberedText E) (text : NumberedText) → rules ≡ rules_of reading
    → reported ≡ Ok text → IfSome input (λ bytes. MatchResult reported (λ it. history_text_by rules bytes ≡ Ok it.read) (λ refused. history_text_by rules bytes ≡ Err (err refused)))
    → IsReadAs reading input text.read
was_read err reading rules input reported text same is by =
    subst (λ k. IfSome input (λ bytes. history_text_by k bytes ≡ Ok text.read)) same
    (subst (λ r. IfSome input (λ bytes. MatchResult r (λ it. history_text_by rules bytes ≡ Ok it.read) (λ refused. history_text_by rules bytes ≡ Err (err refused)))) is by)

-- the text is refused with this fault
abbrev pub IsRefusedAs : Reading → Option (List ℕ) → TextFault → Type 0
IsRefusedAs reading input fault = IfSome input (λ text. history_text_by (rules_of reading) text ≡ Err fault)

pub was_refused : {E : Type 0} (err : E → TextFault) (reading : Reading) (rules : TextRules) (input : Option (List ℕ)) (reported : Result NumberedText E) (refused : E) → rules ≡ rules_of reading
    → reported ≡ Err refused → IfSome input (λ bytes. MatchResult reported (λ it. history_text_by rules bytes ≡ Ok it.read) (λ e. history_text_by rules bytes ≡ Err (err e)))
    → IsRefusedAs reading input (err refused)
was_refused err reading rules input reported refused same is by =
    subst (λ k. IfSome input (λ bytes. history_text_by k bytes ≡ Err (err refused))) same
    (subst (λ r. IfSome input (λ bytes. MatchResult r (λ it. history_text_by rules bytes ≡ Ok it.read) (λ e. history_text_by rules bytes ≡ Err (err e)))) is by)

pub refused_answers : (ruling : RulingOut) (reading : Reading) (input : Option (List ℕ)) (fault : TextFault) (said : Reported) → said ≡ reported.Refused fault
    → IsRefusedAs reading input fault → AnswersInput ruling reading input (status_of said) (line_of said)
refused_answers ruling reading input fault said is refused =
    subst (λ s. AnswersInput ruling reading input (status_of s) (line_of s)) (sym is) (refusal_answers ruling reading input fault refused)

refused_not_yes : Refused ≢ Yes
refused_not_yes = λ is.
    let both : Refused ≡ Yes = is in
    cc

pub refused_witnesses : (ruling : RulingOut) (reading : Reading) (input : Option (List ℕ)) (fault : TextFault) (details : Details) (certificate : Vec ℕ Global) → details.reported ≡ reported.Refused fault → details.proved ≡ None
    → certificate.items ≡ [] → IsRefusedAs reading input fault → WitnessesBy ruling reading input (Answered details certificate)
refused_witnesses ruling reading None fault details certificate said none empty refused = tt
refused_witnesses ruling reading (Some bytes) fault details certificate said none empty refused =
    subst (λ s. (status_of s ≢ Yes) × MayFollow (status_of s) certificate.items × IsAnswer ruling reading bytes (status_of s) (line_of s) × IsProvedOf reading bytes s details.proved) (sym said)
    (refused_not_yes, empty, (fault, refl, refused), none)

-- ---- what was found of a text

its_evidence : (ruling : RulingOut) (reading : Reading) (read : TextRead) (finding : Finding) (get : Option UnexplainedGet) → conflicts_of finding ≡ conflicts_as reading.conflicts
    → IsFoundBy ruling reading read finding get → HasItsEvidence finding
its_evidence ruling reading read (Explained proof) get way is = tt
its_evidence ruling reading read (Unexplained case failing) get way is = subst (λ c. IfSome failing.evidence (Holds c case.events)) (sym way) is.1

-- the evidence that was found holds
pub has_its_evidence : (ruling : RulingOut) (reading : Reading) (read : TextRead) (found : TextFinding) → IsFoundOf ruling reading read found → HasItsEvidence found.finding
has_its_evidence ruling reading read found of = its_evidence ruling reading read found.finding found.get of.conflicts of.outcome
