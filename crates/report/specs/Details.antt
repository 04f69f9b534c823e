-- What is reported of a text, piece by piece.
use Rattle.std.specs.Prelude.{◌≡◌, ◌↔◌, ℕ, Bool, true, IsTrue, List, Option, Some, None}
use Rattle.compose.specs.Laws.{IsComplete}
use Rattle.history.specs.declared.text_read.TextRead.{TextRead}
use Rattle.readings.specs.Gets.{IsExplained}
use Rattle.readings.specs.Reading.{conflicts_as}
use Rattle.readings.specs.declared.reading.Reading.{Reading}
use Rattle.result_lines.specs.declared.reported.Reported.{Reported}
use Rattle.result_lines.specs.declared.reported.Reported.TheVariants as reported
use Rattle.stream_io.specs.declared.status.Status.{Status}
use Rattle.stream_io.specs.declared.status.Status.TheVariants.{Yes, No, Refuted, Refused}
use Rattle.report.specs.Verdict.{OfText, judged}

-- the status of an answer that reports it
-- Source: profile.
abbrev pub status_of : Reported → Status
status_of (reported.Yes c) = Yes
status_of (reported.No o) = No
status_of (reported.Refuted e o) = Refuted
status_of (reported.Refused f) = Refused
status_of (reported.Verified c) = Yes
status_of (reported.RefusedHistory f) = Refused
status_of (reported.RefusedWitness f) = Refused
status_of (reported.Broken f) = No
status_of (reported.BrokenGet e) = No

-- the number of calls, if a check reports yes
-- Source: profile.
abbrev pub calls_reported : Reported → Option ℕ
calls_reported (reported.Yes c) = Some c.calls
calls_reported (reported.No o) = None
calls_reported (reported.Refuted e o) = None
calls_reported (reported.Refused f) = None
calls_reported (reported.Verified c) = None
calls_reported (reported.RefusedHistory f) = None
calls_reported (reported.RefusedWitness f) = None
calls_reported (reported.Broken f) = None
calls_reported (reported.BrokenGet e) = None

-- the input is a text of a history that is not explained under the reading (`IsExplained`)
-- Source: Herlihy and Wing, section 2; profile (the readings).
abbrev pub HasNoOrder : Reading → TextRead → Type 0
HasNoOrder reading read = ¬ IsExplained reading read.voids read.history

-- What is said to be proved if no order was found: that the history is not explained under the reading, just if what is
-- judged is complete (`IsComplete`); and then it isn't.
-- Source: profile.
abbrev pub IsProvedIfComplete : Reading → Option Bool → TextRead → Type 0
IsProvedIfComplete reading proved read =
    (said : Bool) × (proved ≡ Some said) × (IsTrue said ↔ IsComplete (conflicts_as reading.conflicts) (judged reading read))
    × (IsTrue said → HasNoOrder reading read)

-- What is said to be proved of the input. Of a history that is refuted: that it is not explained under the reading. Of
-- another for which no order was found: `IsProvedIfComplete`. Of a yes: what the yes says (`IsAnswer`). Of a refused text
-- and of a broken witness nothing is said.
-- Source: profile.
abbrev pub IsProvedOf : Reading → List ℕ → Reported → Option Bool → Type 0
IsProvedOf reading input (reported.Yes c) proved = proved ≡ Some true
IsProvedOf reading input (reported.No o) proved = OfText reading input (IsProvedIfComplete reading proved)
IsProvedOf reading input (reported.Refuted e o) proved = (proved ≡ Some true) × OfText reading input (HasNoOrder reading)
IsProvedOf reading input (reported.Refused f) proved = proved ≡ None
IsProvedOf reading input (reported.Verified c) proved = proved ≡ Some true
IsProvedOf reading input (reported.RefusedHistory f) proved = proved ≡ None
IsProvedOf reading input (reported.RefusedWitness f) proved = proved ≡ None
IsProvedOf reading input (reported.Broken f) proved = proved ≡ None
IsProvedOf reading input (reported.BrokenGet e) proved = proved ≡ None

-- it is what `verify` reports, and what no check reports
-- Source: profile.
abbrev pub IsOfVerify : Reported → Type 0
IsOfVerify (reported.Yes c) = ⊥
IsOfVerify (reported.No o) = ⊥
IsOfVerify (reported.Refuted e o) = ⊥
IsOfVerify (reported.Refused f) = ⊥
IsOfVerify (reported.Verified c) = Unit {0}
IsOfVerify (reported.RefusedHistory f) = Unit {0}
IsOfVerify (reported.RefusedWitness f) = Unit {0}
IsOfVerify (reported.Broken f) = Unit {0}
IsOfVerify (reported.BrokenGet e) = Unit {0}
