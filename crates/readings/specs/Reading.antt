-- Readings of a history. A reading says what a store promises less than that each reply shows the last change of
-- its document, and turns the events of a history into those that the strict check judges.
use Rattle.std.specs.Prelude.{ℕ, suc, ◌+◌, ◌*◌, ◌==◌, ◌&&◌, Bool, true, false, List, [], ◌∷◌, Some, None, if◌then◌else◌, map, unwrap_or}
use Rattle.std.specs.List.{list_any}
use Rattle.doc_register.specs.declared.op.Op.{Op}
use Rattle.doc_register.specs.declared.op.Op.TheVariants.{Get}
use Rattle.doc_register.specs.declared.reply.Reply.{Reply as Answer}
use Rattle.doc_register.specs.declared.reply.Reply.TheVariants.{Indexed, Deleted, Found, Missing, Conflict}
use Rattle.doc_register.specs.declared.state.Conflicts.{Conflicts}
use Rattle.doc_register.specs.declared.state.Conflicts.TheVariants.{Plain, Maybe}
use Rattle.events.specs.declared.event.Event.{Event}
use Rattle.events.specs.declared.event.Event.TheVariants.{Call, Reply, Lost}
use Rattle.events.specs.Events.{is_call, place_of}
use Rattle.history.specs.ByRules.{is_repeatable}
use Rattle.readings.specs.declared.reading.ConflictReading.{ConflictReading}
use Rattle.readings.specs.declared.reading.ConflictReading.TheVariants as conflict
use Rattle.history.specs.declared.text_rules.Failed.{Failed}
use Rattle.history.specs.declared.text_rules.Failed.TheVariants as failed
use Rattle.readings.specs.declared.reading.Gets.{Gets}
use Rattle.readings.specs.declared.reading.Gets.TheVariants as gets
use Rattle.readings.specs.declared.reading.Reading.{Reading}
use Rattle.history.specs.declared.text_rules.TextRules.{TextRules}
use Rattle.history.specs.declared.text_rules.Writes.{Writes}
use Rattle.history.specs.declared.text_rules.Writes.TheVariants as writes

-- ---- calls that are void

-- the calls that are read as void: those whose lost line says so, if that is trusted
-- Source: profile.
abbrev pub heeded : Failed → List ℕ → List ℕ
heeded failed.Lost voids = []
heeded failed.Trusted voids = voids

-- the call numbered n is among these
abbrev pub is_among : List ℕ → ℕ → Bool
is_among voids n = list_any (λ m. n == m) voids

-- A void call is read as a get, whose ending is a loss. So it changes nothing, whether an order has it or not.
-- Source: profile.
abbrev pub without_void : List ℕ → Event → Event
without_void voids (Call h n d op) = Call h n d (if is_among voids n then Get else op)
without_void voids (Reply n r) = Reply n r
without_void voids (Lost n) = Lost n

-- the events, with their void calls read as gets
-- Source: profile.
abbrev pub heeded_events : Reading → List ℕ → List Event → List Event
heeded_events reading voids events = map (without_void (heeded reading.failed voids)) events

-- ---- replies that show too little

-- a reply to a get shows what one copy had, so no order has to have it
-- Source: OpenSearch, get document.
abbrev pub hides_gets : Gets → Bool
hides_gets gets.Last = false
hides_gets gets.Any = true

-- a conflict shows nothing
-- Source: OpenSearch, optimistic concurrency control: a condition is tested on the primary alone.
abbrev pub hides_conflicts : ConflictReading → Bool
hides_conflicts conflict.Plain = false
hides_conflicts conflict.Maybe = false
hides_conflicts conflict.Unknown = true

-- the reply is read as a lost outcome
-- Source: profile.
abbrev pub is_hidden : Reading → Answer → Bool
is_hidden reading (Indexed q created) = false
is_hidden reading (Deleted q found) = false
is_hidden reading (Found p k) = hides_gets reading.gets
is_hidden reading Missing = hides_gets reading.gets
is_hidden reading Conflict = hides_conflicts reading.conflicts

-- the event with such a reply read as a loss
abbrev pub without_hidden : Reading → Event → Event
without_hidden reading (Call h n d op) = Call h n d op
without_hidden reading (Reply n r) = if is_hidden reading r then Lost n else Reply n r
without_hidden reading (Lost n) = Lost n

-- ---- writes that are performed twice

-- the number of a call among twins: twice its position, so that the number after it is free
abbrev pub doubled : List Event → ℕ → ℕ
doubled events n = 2 * unwrap_or (place_of (is_call n) events) 0

-- the call, and its twin behind it if there is one, before other events
abbrev pub twin_before : Bool → Event → List Event → List Event
twin_before true twin rest = twin ∷ rest
twin_before false twin rest = rest

-- The events from the position i on with a twin behind the call of each write that may be performed twice: a
-- second call of the same write, which is never answered. All events are given, since endings name their calls by
-- number.
-- Source: profile.
abbrev pub with_twins : List Event → ℕ → List Event → List Event
with_twins events i [] = []
with_twins events i (Call h n d op ∷ es) =
    Call h (2 * i) d op ∷ twin_before (is_repeatable op) (Call h (2 * i + 1) d op) (with_twins events (suc i) es)
with_twins events i (Reply n r ∷ es) = Reply (doubled events n) r ∷ with_twins events (suc i) es
with_twins events i (Lost n ∷ es) = Lost (doubled events n) ∷ with_twins events (suc i) es

-- the events, with twins if writes may be performed twice
-- Source: profile.
abbrev pub twinned : Writes → List Event → List Event
twinned writes.Once events = events
twinned writes.Repeated events = with_twins events 0 events

-- ---- the history that is judged

-- the events, with void calls read as gets and replies that show too little as lost outcomes
abbrev pub shown_events : Reading → List ℕ → List Event → List Event
shown_events reading voids events = map (without_hidden reading) (heeded_events reading voids events)

-- The events as they are read: those that the strict check judges. Void calls are read as gets, replies that show
-- too little as lost outcomes, and behind writes that may be performed twice there are twins.
-- Source: profile.
abbrev pub read_as : Reading → List ℕ → List Event → List Event
read_as reading voids events = twinned reading.writes (shown_events reading voids events)

-- How the strict check reads conflicts. If they show nothing, none is left; the lost writes in their place may have
-- been performed.
abbrev pub conflicts_as : ConflictReading → Conflicts
conflicts_as conflict.Plain = Plain
conflicts_as conflict.Maybe = Maybe
conflicts_as conflict.Unknown = Maybe

-- ---- the strict reading

-- The reading that leaves each event as it is.
-- Source: profile.
abbrev pub strict_reading : Reading
strict_reading = record { gets = gets.Last; conflicts = conflict.Plain; writes = writes.Once; failed = failed.Lost }

-- The reading of OpenSearch's documentation: any active copy answers a realtime get, a conflict is tested against the
-- state of the primary alone, and the coordinating node may send a write again.
-- Source: OpenSearch, get document and optimistic concurrency control.
abbrev pub opensearch_reading : Reading
opensearch_reading = record { gets = gets.Any; conflicts = conflict.Unknown; writes = writes.Repeated; failed = failed.Trusted }

-- the rules by which its text is read
abbrev pub rules_of : Reading → TextRules
rules_of reading = record { failed = reading.failed; writes = reading.writes }

-- ---- readings that leave each event as it is

-- no reply is read as a lost outcome
abbrev pub is_shown : Gets → ConflictReading → Bool
is_shown gets.Last conflict.Plain = true
is_shown gets.Last conflict.Maybe = true
is_shown gets.Last conflict.Unknown = false
is_shown gets.Any read = false

-- no call is void, and none is made twice
abbrev pub is_alone : Writes → Failed → Bool
is_alone writes.Once failed.Lost = true
is_alone writes.Once failed.Trusted = false
is_alone writes.Repeated said = false

-- the events are read as they are
abbrev pub leaves_events : Reading → Bool
leaves_events reading = is_shown reading.gets reading.conflicts && is_alone reading.writes reading.failed
