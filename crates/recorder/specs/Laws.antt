-- Laws of recordings of pens.
use Rattle.std.specs.Prelude.{◌≡◌, ℕ, List, Some, Contains, length, slice_get}
use Rattle.events.specs.declared.event.Event.{Event}
use Rattle.recorder.specs.Recordings.{IsRecordingOf, entries_of}

-- each entry (n, e) has the event e at the index n, and each event has one entry
pub record IsByNumber (entries : List (ℕ × Event)) (events : List Event) : Type 0 where
  -- each entry's event is at its number
  pub placed : (n : ℕ) (e : Event) → Contains entries (n, e) → slice_get events n ≡ Some e
  -- each event is in an entry with its index
  pub entered : (n : ℕ) (e : Event) → slice_get events n ≡ Some e → Contains entries (n, e)
  -- there are as many entries as events
  pub count : length entries ≡ length events

-- a recording is by number, and lists have at most one recording
-- Source: profile.
pub record RecordingsAreByNumber : Type 0 where
  -- a recording of lists has the entries of all of them by number
  pub by_number : (lists : List (List (ℕ × Event))) (events : List Event) → IsRecordingOf lists events
      → IsByNumber (entries_of lists) events
  -- lists have at most one recording
  pub only_one : (lists : List (List (ℕ × Event))) (events others : List Event) → IsRecordingOf lists events
      → IsRecordingOf lists others → events ≡ others
