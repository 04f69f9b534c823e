-- What is counted of a text.
use Rattle.std.specs.Prelude.{◌≡◌, ◌-◌, ℕ, List, length, unwrap_or}
use Rattle.compose.specs.Counts.{calls_of}
use Rattle.compose.specs.Verdicts.{LeavesOut, Proven}
use Rattle.events.specs.declared.event.Event.{Event}
use Rattle.events.specs.Events.{documents_of}
use Rattle.history.specs.declared.text_read.TextRead.{TextRead}
use Rattle.readings.specs.declared.reading.Reading.{Reading}
use Rattle.result_lines.specs.declared.text_counts.TextCounts.{TextCounts}
use Rattle.result_lines.specs.declared.reported.Reported.{Reported}
use Rattle.result_lines.specs.declared.reported.Reported.TheVariants as reported
use Rattle.report.specs.Verdict.{HasGetsExplained, IsOfGet, gets_judged, own_numbers}

-- these are the counts of a text, whose events are judged as the proof has them
pub record AreCountsOf (reading : Reading) (proof : Proven) (events : List Event) (counts : TextCounts) : Type 0 where
  pub documents : length (documents_of events) ≡ counts.docs
  pub all_calls : calls_of events ≡ counts.calls
  pub unplaced : ℕ
  pub placed : LeavesOut (own_numbers reading.writes) proof unplaced
  pub gets : counts.gets ≡ gets_judged reading.gets events
  pub left_out : counts.left_out ≡ unplaced - unwrap_or counts.gets 0

-- what is reported of a text that was read, if the proof has entries that cover what was judged
abbrev pub IsOfCovered : Reading → TextRead → Proven → Reported → Type 0
IsOfCovered reading read proof (reported.Yes c) = ⊥
IsOfCovered reading read proof (reported.No o) = ⊥
IsOfCovered reading read proof (reported.Refuted e o) = ⊥
IsOfCovered reading read proof (reported.Refused f) = ⊥
IsOfCovered reading read proof (reported.Verified c) = AreCountsOf reading proof read.history c × HasGetsExplained reading read
IsOfCovered reading read proof (reported.RefusedHistory f) = ⊥
IsOfCovered reading read proof (reported.RefusedWitness f) = ⊥
IsOfCovered reading read proof (reported.Broken f) = ⊥
IsOfCovered reading read proof (reported.BrokenGet e) = IsOfGet reading read e
