-- The recording of pens: the one history that their lists give together.
use Rattle.std.specs.Prelude.{ℕ, List, map}
use Rattle.std.specs.List.{enumerate_from, flat_map}
use Rattle.std.specs.List.Sorted.{IsPermutation}
use Rattle.events.specs.declared.event.Event.{Event}
use Rattle.recorder.specs.Pens.{PenState}

-- the lists of pens
abbrev pub lists_of : List PenState → List (List (ℕ × Event))
lists_of pens = map (λ pen. pen.list) pens

-- all entries of some lists
abbrev pub entries_of : List (List (ℕ × Event)) → List (ℕ × Event)
entries_of lists = flat_map (λ list. list) lists

-- The events are the recording of the lists: the entries of all lists are, in some order, the events with
-- their indices, counted from 0. So the numbers together are those below the number of events, each once, and
-- the event at an index is the one with that number.
-- Source: profile.
abbrev pub IsRecordingOf : List (List (ℕ × Event)) → List Event → Type 0
IsRecordingOf lists events = IsPermutation (entries_of lists) (enumerate_from 0 events)
