-- How a history is written: the value of each line, and the text.
use Rattle.std.specs.Prelude.{ℕ, ◌==◌, List, [], ◌∷◌, ◌++◌, Option, Some, None, codes, flat_map, if◌then◌else◌, map, option_and_then, unwrap_or}
use Rattle.version_pair.specs.declared.pair.Pair.{Pair}
use Rattle.doc_register.specs.declared.op.Op.{Op}
use Rattle.doc_register.specs.declared.op.Op.TheVariants.{Get, Index, Delete, Create}
use Rattle.doc_register.specs.declared.reply.Reply.{Reply as Answer}
use Rattle.serde_json.specs.Data.{Data, Members, string, object, member, no_members}
use Rattle.serde_json.specs.Written.{compact_text}
use Rattle.api_lines.specs.Written.{number_member, written_body, written_status}
use Rattle.events.specs.declared.event.Event.{Event}
use Rattle.events.specs.declared.event.Event.TheVariants.{Call, Reply, Lost}
use Rattle.events.specs.Events.{is_call}
use Rattle.events.specs.Refusal.{first_event}

-- ---- the value of a line; its keys are in the order of their bytes

-- the name of an operation
-- Source: OpenSearch.
abbrev pub op_name : Op → List ℕ
op_name Get = codes "get"
op_name (Index k c) = codes "index"
op_name (Delete c) = codes "delete"
op_name (Create k) = codes "create"

-- the two numbers of a condition, before other members
-- Source: profile.
abbrev pub condition_members : Option Pair → Members → Members
condition_members None rest = rest
condition_members (Some p) rest = number_member (codes "if_primary_term") p.term (number_member (codes "if_seq_no") p.seq rest)

-- the numbers of an operation, before other members
-- Source: profile.
abbrev pub op_members : Op → Members → Members
op_members Get rest = rest
op_members (Index k c) rest = condition_members c (number_member (codes "k") k rest)
op_members (Delete c) rest = condition_members c rest
op_members (Create k) rest = number_member (codes "k") k rest

-- the shard, which isn't named if it is 0
-- Source: profile.
abbrev pub shard_members : ℕ → Members
shard_members h = if h == 0 then no_members else number_member (codes "shard") h no_members

-- the end of a call's line: its number, the name of its operation, and its shard
-- Source: profile.
abbrev pub call_end : ℕ → List ℕ → ℕ → Members
call_end n name h = number_member (codes "n") n (member (codes "op") (string name) (shard_members h))

-- a call's line: the id of its document, followed by these members
-- Source: profile.
abbrev pub call_with : List ℕ → Members → Data
call_with d rest = object (member (codes "e") (string (codes "call")) (member (codes "id") (string d) rest))

-- the value of a call's line
-- Source: profile.
abbrev pub call_value : ℕ → ℕ → List ℕ → Op → Data
call_value n h d op = call_with d (op_members op (call_end n (op_name op) h))

-- the value of a reply's line, with a status and a body
-- Source: profile.
abbrev pub answer_value : ℕ → ℕ → Data → Data
answer_value n status body =
    object (member (codes "body") body (member (codes "e") (string (codes "reply")) (number_member (codes "n") n (number_member (codes "status") status no_members))))

-- the value of the line of a reply about the document: its status and body are `written_status` and
-- `written_body`
-- Source: profile.
abbrev pub reply_value : ℕ → List ℕ → Answer → Data
reply_value n d r = answer_value n (written_status r) (written_body d r)

-- the value of a lost line
-- Source: profile.
abbrev pub lost_value : ℕ → Data
lost_value n = object (member (codes "e") (string (codes "lost")) (number_member (codes "n") n no_members))

-- ---- the text

-- the id that a call names
abbrev pub id_named : Event → Option (List ℕ)
id_named (Call h n d op) = Some d
id_named (Reply n r) = None
id_named (Lost n) = None

-- the id of the document of the call numbered n
abbrev pub id_of : List Event → ℕ → Option (List ℕ)
id_of events n = option_and_then id_named (first_event (is_call n) events)

-- the value of an event's line; a reply is about the document of its call
-- Source: profile.
abbrev pub event_value : List Event → Event → Data
event_value events (Call h n d op) = call_value n h d op
event_value events (Reply n r) = reply_value n (unwrap_or (id_of events n) []) r
event_value events (Lost n) = lost_value n

-- each value as JSON with no space, ended by a line feed
-- Source: profile.
abbrev pub written_values : List Data → List ℕ
written_values vs = flat_map (λ v. compact_text v ++ 10 ∷ []) vs

-- The text of a history: one line for each event. Keys are in the order of their bytes.
-- Source: profile.
abbrev pub written_text : List Event → List ℕ
written_text events = written_values (map (event_value events) events)
