-- Laws of readings.
use Rattle.std.specs.Prelude.{◌≡◌, ◌≤◌, ℕ, List, length, true}
use Rattle.evidence.specs.Evidence.{Holds}
use Rattle.evidence.specs.declared.refuted.Refuted.{Refuted}
use Rattle.events.specs.declared.event.Event.{Event}
use Rattle.events.specs.Events.{IsHistory, documents_of}
use Rattle.readings.specs.Gets.{IsExplained, IsUnexplainedGet}
use Rattle.history.specs.Laws.{AreLost}
use Rattle.history.specs.ByRules.{room_taken}
use Rattle.readings.specs.Reading.{conflicts_as, heeded_events, leaves_events, read_as, strict_reading}
use Rattle.readings.specs.declared.reading.Gets.TheVariants.{Any}
use Rattle.readings.specs.declared.reading.Reading.{Reading}

-- What a reading makes of a history is a history of the same documents, and takes no more room than it is given. So are the events with
-- their void calls read as gets. A reading that leaves events as they are, like the strict one, makes nothing else of
-- it.
-- Source: profile.
pub record ReadingsKeepHistories : Type 0 where
  -- the events as they are read are a history
  pub history : (reading : Reading) (voids : List ℕ) (events : List Event) → IsHistory events → AreLost events voids
      → IsHistory (read_as reading voids events)
  -- so are the events with void calls read as gets
  pub heeded : (reading : Reading) (voids : List ℕ) (events : List Event) → IsHistory events → AreLost events voids
      → IsHistory (heeded_events reading voids events)
  -- it has the same documents
  pub documents : (reading : Reading) (voids : List ℕ) (events : List Event) → documents_of (read_as reading voids events) ≡ documents_of events
  -- there are no more events than the room that they take
  pub room : (reading : Reading) (voids : List ℕ) (events : List Event)
      → length (read_as reading voids events) ≤ room_taken reading.writes events
  -- a reading by which no reply is hidden, and no call is void or made twice, leaves the events as they are
  pub left : (reading : Reading) (voids : List ℕ) (events : List Event) → leaves_events reading ≡ true → read_as reading voids events ≡ events
  -- the strict reading is one of these
  pub strict : leaves_events strict_reading ≡ true

-- Evidence under a reading refutes it: evidence that holds in the events as they are read, and, if any copy may answer
-- a get, a get that nothing explains.
-- Source: profile.
pub record EvidenceRefutesReadings : Type 0 where
  -- evidence in the events as they are read
  pub read : (reading : Reading) (voids : List ℕ) (events : List Event) (e : Refuted) → IsHistory events → AreLost events voids
      → Holds (conflicts_as reading.conflicts) (read_as reading voids events) e → ¬ IsExplained reading voids events
  -- a get that nothing explains, whatever copy answered it
  pub gets : (reading : Reading) (voids : List ℕ) (events : List Event) (e : Refuted) → reading.gets ≡ Any
      → IsUnexplainedGet reading (heeded_events reading voids events) e → ¬ IsExplained reading voids events
