-- What is reported of a text that was read.
use Rattle.std.specs.Prelude.{◌≡◌, ◌≢◌, ℕ, Bool, true, List, Option, Some, None, MatchOption}
use Rattle.doc_register.specs.declared.op.Op.{Op}
use Rattle.events.specs.declared.event.Event.{Event}
use Rattle.events.specs.Events.{IsCallAt}
use Rattle.evidence.specs.declared.ruling_out.RulingOut.{RulingOut}
use Rattle.compose.specs.Counts.{calls_of}
use Rattle.compose.specs.Verdicts.{Proven}
use Rattle.compose.specs.declared.finding.Finding.{Finding}
use Rattle.compose.specs.declared.finding.Finding.TheVariants.{Explained, Unexplained}
use Rattle.history.specs.declared.text_read.TextRead.{TextRead}
use Rattle.readings.specs.declared.reading.Reading.{Reading}
use Rattle.result_lines.specs.declared.facts.BrokenReply.{BrokenReply}
use Rattle.result_lines.specs.declared.reported.Reported.{Reported}
use Rattle.result_lines.specs.declared.reported.Reported.TheVariants as reported
use Rattle.result_lines.specs.Objects.{line_of}
use Rattle.stream_io.specs.declared.status.Status.{Status}
use Rattle.stream_io.specs.declared.status.Status.TheVariants.{Yes}
use Rattle.readings.specs.declared.unexplained.UnexplainedGet.{UnexplainedGet}
use Rattle.report.specs.Details.{HasNoOrder, IsProvedIfComplete, calls_reported, status_of}
use Rattle.report.specs.Verdict.{IsWitnessed, Says}
use Rattle.report.specs.Witnessed.{MayFollow}
use Rattle.report.specs.declared.witnessed.Witnessed.{Witnessed}
use Rattle.report.specs.declared.witnessed.Witnessed.TheVariants.{Text, Answered}

-- what is said to be proved of a text that was read, of which this is reported
abbrev pub IsProvedFor : Reading → TextRead → Reported → Option Bool → Type 0
IsProvedFor reading read (reported.Yes c) proved = proved ≡ Some true
IsProvedFor reading read (reported.No o) proved = IsProvedIfComplete reading proved read
IsProvedFor reading read (reported.Refuted e o) proved = (proved ≡ Some true) × HasNoOrder reading read
IsProvedFor reading read (reported.Refused f) proved = ⊥
IsProvedFor reading read (reported.Verified c) proved = ⊥
IsProvedFor reading read (reported.RefusedHistory f) proved = ⊥
IsProvedFor reading read (reported.RefusedWitness f) proved = ⊥
IsProvedFor reading read (reported.Broken f) proved = ⊥
IsProvedFor reading read (reported.BrokenGet e) proved = ⊥

-- the number of calls that comes with an answer: that of the history if the answer is yes, and else none
abbrev pub CountsText : TextRead → Status → Option ℕ → Type 0
CountsText read status calls = MatchOption calls (status ≢ Yes) (λ n. (status ≡ Yes) × (calls_of read.history ≡ n))

-- what is reported of a text that was read, and what is said to be proved of it
pub record IsReportOn (ruling : RulingOut) (reading : Reading) (read : TextRead) (said : Reported) (proved : Option Bool) : Type 0 where
  pub says : Says ruling reading read (status_of said) (line_of said)
  pub proof : IsProvedFor reading read said proved
  pub calls : CountsText read (status_of said) (calls_reported said)

-- the status is Yes just if an order explains what was judged, and each get is explained
abbrev pub HasStatus : Finding → Option UnexplainedGet → Status → Type 0
HasStatus (Explained proof) None status = status ≡ Yes
HasStatus (Explained proof) (Some get) status = status ≢ Yes
HasStatus (Unexplained case failing) get status = status ≢ Yes

-- the proof is that of a text that is explained; there is none only if the status of an answer isn't Yes
abbrev pub IsProofOf : Finding → Option UnexplainedGet → Option Proven → Type 0
IsProofOf finding get None = (status : Status) → HasStatus finding get status → status ≢ Yes
IsProofOf finding get (Some proof) = (finding ≡ Explained proof) × (get ≡ None)

-- what is answered, of what was read of a text, if a witness is asked for
abbrev pub IsWitnessedOf : RulingOut → Reading → TextRead → Witnessed → Type 0
IsWitnessedOf ruling reading read (Text text) = IsWitnessed reading read text.items
IsWitnessedOf ruling reading read (Answered details certificate) =
    (status_of details.reported ≢ Yes) × MayFollow (status_of details.reported) certificate.items × IsReportOn ruling reading read details.reported details.proved

-- the call of this number is on the document and the shard of the reply
abbrev pub IsOnDocumentOf : List Event → ℕ → BrokenReply → Type 0
IsOnDocumentOf events n reply = (place : ℕ) × (op : Op) × IsCallAt events place n reply.shard reply.document op
