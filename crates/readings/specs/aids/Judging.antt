-- How the events of a text are read one by one.
use Rattle.std.specs.Prelude.{◌≡◌, ◌+◌, ◌*◌, ◌++◌, ℕ, suc, List, [], ◌∷◌, Option, Some, None, if◌then◌else◌, drop}
use Rattle.doc_register.specs.declared.op.Op.{Op}
use Rattle.events.specs.declared.event.Event.{Event}
use Rattle.events.specs.declared.event.Event.TheVariants.{Call, Reply, Lost}
use Rattle.history.specs.ByRules.{is_repeatable}
use Rattle.readings.specs.Reading.{doubled, heeded, read_as, shown_events, with_twins, without_hidden, without_void}
use Rattle.readings.specs.declared.judged.ReadEvent.{ReadEvent}
use Rattle.readings.specs.declared.reading.Reading.{Reading}
use Rattle.history.specs.declared.text_rules.Writes.{Writes}
use Rattle.history.specs.declared.text_rules.Writes.TheVariants as writes

-- an event as it is shown: read as a get if it is a void call, as a loss if its reply shows too little
abbrev pub shown_event : Reading → List ℕ → Event → Event
shown_event reading voids e = without_hidden reading (without_void (heeded reading.failed voids) e)

-- the number of the call at the position i that has the number n in the text
abbrev pub call_number : Writes → ℕ → ℕ → ℕ
call_number writes.Once i n = n
call_number writes.Repeated i n = 2 * i

-- the number of the call numbered n in the text, by which its ending names it
abbrev pub ending_number : Writes → List Event → ℕ → ℕ
ending_number writes.Once events n = n
ending_number writes.Repeated events n = doubled events n

-- the event at the position i as it is read
abbrev pub main_event : Writes → List Event → ℕ → Event → Event
main_event mode events i (Call h n d op) = Call h (call_number mode i n) d op
main_event mode events i (Reply n r) = Reply (ending_number mode events n) r
main_event mode events i (Lost n) = Lost (ending_number mode events n)

-- the twin behind the call of an operation at the position i
abbrev pub twin_event : Writes → ℕ → Event → Option Event
twin_event writes.Once i e = None
twin_event writes.Repeated i (Call h n d op) = if is_repeatable op then Some (Call h (2 * i + 1) d op) else None
twin_event writes.Repeated i (Reply n r) = None
twin_event writes.Repeated i (Lost n) = None

-- the event of the text at the position i is read so
pub record IsReadAs (reading : Reading) (voids : List ℕ) (events : List Event) (i : ℕ) (e : Event) (read : ReadEvent) : Type 0 where
  pub event : read.event ≡ main_event reading.writes (shown_events reading voids events) i (shown_event reading voids e)
  pub twin : read.twin ≡ twin_event reading.writes i (shown_event reading voids e)

-- what these events are read as, which are those from the position i on
abbrev pub left_to_read : Writes → List Event → ℕ → List Event → List Event
left_to_read writes.Once events i es = es
left_to_read writes.Repeated events i es = with_twins events i es

-- the history so far holds what the events before the position are read as
abbrev pub IsReadSoFar : Reading → List ℕ → List Event → ℕ → List Event → Type 0
IsReadSoFar reading voids events i done =
    read_as reading voids events ≡ done ++ left_to_read reading.writes (shown_events reading voids events) i (drop i (shown_events reading voids events))
