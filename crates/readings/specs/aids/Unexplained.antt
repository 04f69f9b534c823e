-- The records of a history whose void calls are read as gets.
use Rattle.std.specs.Prelude.{◌≡◌, ◌<◌, ℕ, List, Option, Some, None, if◌then◌else◌, slice_get}
use Rattle.doc_register.specs.declared.op.Op.TheVariants.{Get}
use Rattle.events.specs.declared.event.Event.{Event}
use Rattle.events.specs.declared.record.Rec.{Rec}
use Rattle.events.specs.Events.{documents_of, records_of}
use Rattle.readings.specs.Gets.{IsUnexplainedGet}
use Rattle.readings.specs.Reading.{heeded_events, is_among}
use Rattle.readings.specs.aids.Records.{AreExplained}
use Rattle.readings.specs.declared.reading.Reading.{Reading}
use Rattle.readings.specs.declared.unexplained.UnexplainedGet.{UnexplainedGet}

-- the record of a call, as a get if the call is void
abbrev pub heeded_record : List ℕ → Rec → Rec
heeded_record voids r = record { no = r.no; op = (if is_among voids r.no then Get else r.op); call_at = r.call_at; heard = r.heard }

-- the gets of the first documents are explained, or one of the history's is not
abbrev pub IsJudgedSoFar : Reading → List ℕ → List Event → ℕ → Option UnexplainedGet → Type 0
IsJudgedSoFar reading voids events doc None = (k : ℕ) (d : List ℕ × ℕ) → k < doc → slice_get (documents_of events) k ≡ Some d
    → AreExplained reading (records_of (heeded_events reading voids events) d.0)
IsJudgedSoFar reading voids events doc (Some get) = IsUnexplainedGet reading (heeded_events reading voids events) get.evidence
