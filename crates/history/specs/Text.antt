-- History texts: which bytes are the text of a history. A line spells an event by its fields; other fields
-- than those that are named don't count.
use Rattle.std.specs.Prelude.{◌≡◌, ℕ, ◌<◌, ◌≤◌, ◌⊎◌, List, [], ◌∷◌, Option, Some, None, All, filter, length, ◌^◌, codes, IsUtf8}
use Rattle.version_pair.specs.Id.{IsIdLength}
use Rattle.version_pair.specs.declared.pair.Pair.{Pair}
use Rattle.doc_register.specs.declared.op.Op.{Op}
use Rattle.doc_register.specs.declared.op.Op.TheVariants.{Get, Index, Delete, Create}
use Rattle.serde_json.specs.Data.{Data}
use Rattle.serde_json.specs.Read.{read}
use Rattle.version_pair.specs.Shards.{most_shards}
use Rattle.api_lines.specs.Fields.{body_of}
use Rattle.api_lines.specs.Json.{HasNumber, HasText, Lacks}
use Rattle.api_lines.specs.Lines.{is_written, lines_of, longest_line, most_lines}
use Rattle.api_lines.specs.ReplyTable.{IsStranger, IsUnknown, Reports}
use Rattle.events.specs.declared.event.Event.{Event}
use Rattle.events.specs.declared.event.Event.TheVariants.{Call, Reply, Lost}
use Rattle.events.specs.Events.{IsCallAt, IsHistory}
use Rattle.events.specs.Refusal.{most_events}

-- ---- what a line spells

-- the condition of a write: `if_seq_no` and `if_primary_term` hold the numbers of the pair; or both are
-- absent, and there is no condition
-- Source: OpenSearch (the names); profile.
abbrev pub SpellsCondition : Data → Option Pair → Type 0
SpellsCondition v None = Lacks (codes "if_seq_no") v × Lacks (codes "if_primary_term") v
SpellsCondition v (Some p) = HasNumber (codes "if_seq_no") p.seq v × HasNumber (codes "if_primary_term") p.term v

-- the operation, by its name in `op`, with `k` for an index or a create, and the condition for an index or a
-- delete; of other operations these fields don't count
-- Source: profile.
abbrev pub SpellsOp : Data → Op → Type 0
SpellsOp v Get = HasText (codes "op") (codes "get") v
SpellsOp v (Index k c) = HasText (codes "op") (codes "index") v × HasNumber (codes "k") k v × SpellsCondition v c
SpellsOp v (Delete c) = HasText (codes "op") (codes "delete") v × SpellsCondition v c
SpellsOp v (Create k) = HasText (codes "op") (codes "create") v × HasNumber (codes "k") k v

-- the shard of a call, 0 to 1,023, or 0 if `shard` is absent
-- Source: profile.
abbrev pub SpellsShard : Data → ℕ → Type 0
SpellsShard v h = (Lacks (codes "shard") v × (h ≡ 0)) ⊎ (HasNumber (codes "shard") h v × (h < most_shards))

-- a call line, of the call numbered n on the document d of the shard h
-- Source: profile.
pub record SpellsCall (v : Data) (n h : ℕ) (d : List ℕ) (op : Op) : Type 0 where
  -- `e` is "call"
  pub kind : HasText (codes "e") (codes "call") v
  -- `n` is the number of the call
  pub number : HasNumber (codes "n") n v
  -- `id` is the text d
  pub id : HasText (codes "id") d v
  -- the id has 1 to 512 bytes
  pub id_length : IsIdLength (length d)
  -- the operation is spelled
  pub operation : SpellsOp v op
  -- the shard is spelled
  pub shard : SpellsShard v h

-- A reply line for the call numbered n, which is in the history: its operation and its status. The body names
-- no other document than that of the call.
-- Source: profile.
pub record SpellsReply (events : List Event) (v : Data) (n : ℕ) (op : Op) (status : ℕ) : Type 0 where
  -- `e` is "reply"
  pub kind : HasText (codes "e") (codes "reply") v
  -- `n` is the number of the call
  pub number : HasNumber (codes "n") n v
  -- `status` is the status
  pub has_status : HasNumber (codes "status") status v
  -- the status is 0 to 65,535
  pub status_fits : status < 2 ^ 16
  -- the history has such a call with this operation, and the body names no other document than its own
  pub call : (i h : ℕ) × (d : List ℕ) × IsCallAt events i n h d op × (¬ IsStranger d (body_of v))

-- a lost line for the call numbered n
-- Source: profile.
pub record SpellsLost (v : Data) (n : ℕ) : Type 0 where
  -- `e` is "lost"
  pub kind : HasText (codes "e") (codes "lost") v
  -- `n` is the number of the call
  pub number : HasNumber (codes "n") n v

-- The event that a value spells: a call; a reply, if the reply table gives it for the operation of its call;
-- a loss, by a lost line or by a reply that the table doesn't know.
-- Source: profile.
abbrev pub Spells : List Event → Data → Event → Type 0
Spells events v (Call h n d op) = SpellsCall v n h d op
Spells events v (Reply n r) = (op : Op) × (status : ℕ) × SpellsReply events v n op status
    × Reports op status (body_of v) r
Spells events v (Lost n) = SpellsLost v n
    ⊎ ((op : Op) × (status : ℕ) × SpellsReply events v n op status × IsUnknown op status (body_of v))

-- the line is UTF-8 and JSON, and its value spells the event
-- Source: profile.
abbrev pub IsLineOf : List Event → List ℕ → Event → Type 0
IsLineOf events line e = IsUtf8 line × ((v : Data) × (read line ≡ Some v) × Spells events v e)

-- ---- the whole text

-- the lines spell the events one to one, in order
-- Source: profile.
abbrev pub AreLinesOf : List Event → List (List ℕ) → List Event → Type 0
AreLinesOf events [] [] = Unit {0}
AreLinesOf events [] (e ∷ es) = ⊥
AreLinesOf events (line ∷ lines) [] = ⊥
AreLinesOf events (line ∷ lines) (e ∷ es) = IsLineOf events line e × AreLinesOf events lines es

-- The bytes are a text of the history: within the limits, the lines that aren't blank spell the events of the
-- history one to one, in order.
-- Source: profile.
pub record IsHistoryText (bytes : List ℕ) (events : List Event) : Type 0 where
  -- the events are a history
  pub history : IsHistory events
  -- there are at most 1,048,576 events
  pub events_fit : length events ≤ most_events
  -- the text has at most 4,194,304 lines, blank ones too
  pub lines_fit : length (lines_of bytes) ≤ most_lines
  -- no line has more than 65,536 bytes
  pub bytes_fit : All (λ line. length line ≤ longest_line) (lines_of bytes)
  -- the lines that aren't blank spell the events
  pub spelled : AreLinesOf events (filter is_written (lines_of bytes)) events
