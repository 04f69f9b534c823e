-- What the writer of a text has done so far: aids of its contracts.
use Rattle.std.specs.Prelude.{◌≡◌, ◌==◌, ℕ, ◌<◌, ◌^◌, ◌++◌, List, [], ◌∷◌, All, Option, Some, None, codes, if◌then◌else◌, length, map, IsSome}
use Rattle.serde_json.specs.Data.{Data, Members}
use Rattle.serde_json.specs.Written.{compact_text}
use Rattle.version_pair.specs.Id.{IsIdLength}
use Rattle.version_pair.specs.declared.pair.Pair.{Pair}
use Rattle.doc_register.specs.declared.op.Op.{Op}
use Rattle.doc_register.specs.declared.op.Op.TheVariants.{Get, Index, Delete, Create}
use Rattle.doc_register.specs.declared.reply.Reply.{Reply as Answer}
use Rattle.doc_register.specs.declared.reply.Reply.TheVariants.{Indexed, Deleted, Found, Missing, Conflict}
use Rattle.api_lines.specs.Objects.{with_number}
use Rattle.api_lines.specs.aids.JsonLines.{IsJsonLine}
use Rattle.events.specs.declared.event.Event.{Event}
use Rattle.events.specs.declared.event.Event.TheVariants.{Call, Reply, Lost}
use Rattle.history.specs.Written.{event_value, id_of, written_values}

-- the text has the line of this value after what it had, and the line is JSON of the value
pub record IsLineAdded (old new : List ℕ) (v : Data) : Type 0 where
  pub added : new ≡ old ++ written_values (v ∷ [])
  pub json : IsJsonLine (compact_text v) v

-- the members, with the two numbers of a condition, if there is one
abbrev pub with_condition : Option Pair → Members → Members
with_condition None ms = ms
with_condition (Some p) ms = with_number (codes "if_seq_no") p.seq (with_number (codes "if_primary_term") p.term ms)

-- the members, with the number that is written, if there is one
abbrev pub with_value : Option ℕ → Members → Members
with_value None ms = ms
with_value (Some k) ms = with_number (codes "k") k ms

-- the members, with the shard, which isn't named if it is 0
abbrev pub with_shard : ℕ → Members → Members
with_shard h ms = if h == 0 then ms else with_number (codes "shard") h ms

-- the number that an operation writes is below 2^64
abbrev pub OpFits : Op → Type 0
OpFits Get = Unit {0}
OpFits (Index k c) = k < 2 ^ 64
OpFits (Delete c) = Unit {0}
OpFits (Create k) = k < 2 ^ 64

-- the number that a reply found is below 2^64
abbrev pub ReplyFits : Answer → Type 0
ReplyFits (Indexed p created) = Unit {0}
ReplyFits (Deleted p found) = Unit {0}
ReplyFits (Found p k) = k < 2 ^ 64
ReplyFits Missing = Unit {0}
ReplyFits Conflict = Unit {0}

-- the numbers of an event are below 2^64, and the id of a call has the length of one
abbrev pub IsInRange : Event → Type 0
IsInRange (Call h n d op) = (n < 2 ^ 64) × IsIdLength (length d) × OpFits op
IsInRange (Reply n r) = (n < 2 ^ 64) × ReplyFits r
IsInRange (Lost n) = n < 2 ^ 64

-- the event's line is JSON of its value, and its parts are in their ranges
pub record IsReadable (events : List Event) (e : Event) : Type 0 where
  pub json : IsJsonLine (compact_text (event_value events e)) (event_value events e)
  pub in_range : IsInRange e

-- the text has the lines of these events of the history after what it had, and each can be read
pub record AreWritten (events : List Event) (old new : List ℕ) (es : List Event) : Type 0 where
  pub added : new ≡ old ++ written_values (map (event_value events) es)
  pub readable : All (IsReadable events) es

-- a reply's call is one of the events
abbrev pub HasItsCall : List Event → Event → Type 0
HasItsCall events (Call h n d op) = Unit {0}
HasItsCall events (Reply n r) = IsSome (id_of events n)
HasItsCall events (Lost n) = Unit {0}
