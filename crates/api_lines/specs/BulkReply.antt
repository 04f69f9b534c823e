-- The reply to a bulk request: what is heard of each item, or the first fault.
use Rattle.std.specs.Prelude.{ℕ, suc, ◌==◌, ◌^◌, Bool, true, false, List, [], ◌∷◌, ◌++◌, length, map, nat_lt, is_some, Option, Some, None, option_and_then, option_map, Result, Ok, Err, codes, if◌then◌else◌}
use Rattle.doc_register.specs.declared.op.Op.{Op}
use Rattle.doc_register.specs.declared.op.Op.TheVariants.{Get, Index, Delete, Create}
use Rattle.serde_json.specs.Data.{Data, Items, no_items, item}
use Rattle.serde_json.specs.Find.{as_array, as_object, get}
use Rattle.api_lines.specs.Bulk.{only_member}
use Rattle.api_lines.specs.Faults.{◌>>=◌}
use Rattle.api_lines.specs.Fields.{BodyValues, body_values}
use Rattle.api_lines.specs.Json.{FieldValue, absent, whole, not_whole, text, truth, other, field, json_value}
use Rattle.api_lines.specs.Kinds.{is_other_text}
use Rattle.api_lines.specs.ReplyTable.{heard}
use Rattle.api_lines.specs.declared.bulk_fault.BulkFault.{BulkFault}
use Rattle.api_lines.specs.declared.bulk_fault.BulkFault.TheVariants.{Syntax, Count, Kind}
use Rattle.api_lines.specs.declared.reply_table.Heard.{Heard}
use Rattle.api_lines.specs.declared.reply_table.Heard.TheVariants.{Unknown, Stranger}

-- ---- an item

-- the operation is not a get
abbrev pub is_write : Op → Bool
is_write Get = false
is_write (Index k c) = true
is_write (Delete c) = true
is_write (Create k) = true

-- the name of a write's action
abbrev pub action_name : Op → List ℕ
action_name Get = []
action_name (Index k c) = codes "index"
action_name (Delete c) = codes "delete"
action_name (Create k) = codes "create"

-- What is heard by a body for which the reply table isn't asked: Stranger if it names another document,
-- otherwise Unknown.
-- Source: profile.
abbrev pub heard_unread : List ℕ → BodyValues → Heard
heard_unread d body = if is_other_text d body.id then Stranger else Unknown

-- What is heard by an item's status and its body: as the reply table has it, if the status is whole and below
-- 65,536; otherwise it isn't asked.
-- Source: profile.
abbrev pub heard_by : List ℕ → Op → FieldValue → BodyValues → Heard
heard_by d op absent body = heard_unread d body
heard_by d op (whole s) body = if nat_lt s (2 ^ 16) then heard op d s body else heard_unread d body
heard_by d op not_whole body = heard_unread d body
heard_by d op (text t) body = heard_unread d body
heard_by d op (truth b) body = heard_unread d body
heard_by d op other body = heard_unread d body

-- what is heard by the object that an item holds: by its own `status` and its fields
-- Source: profile.
abbrev pub heard_of_held : List ℕ → Op → Data → Heard
heard_of_held d op held = heard_by d op (field (codes "status") held) (body_values held)

-- what is heard by what an item's one key holds, if that is an object; otherwise Kind
-- Source: OpenSearch, bulk.
abbrev pub heard_of_object : ℕ → List ℕ → Op → Option Data → Result Heard BulkFault
heard_of_object i d op None = Err (Kind i)
heard_of_object i d op (Some held) = if is_some (as_object held) then Ok (heard_of_held d op held) else Err (Kind i)

-- What is heard by the item at index i; Kind if it isn't an object with the action's name as its one key,
-- holding an object.
-- Source: OpenSearch, bulk.
abbrev pub heard_item : ℕ → List ℕ × Op → Data → Result Heard BulkFault
heard_item i call v = heard_of_object i call.0 call.1 (only_member (action_name call.1) v)

-- ---- the reply

-- the items of an array as a list
abbrev pub items_list : Items → List Data
items_list no_items = []
items_list (item d ds) = d ∷ items_list ds

-- What is heard by the items from index i on, after what is heard so far, for as many items as calls.
-- Source: profile.
abbrev pub heard_items : ℕ → List Heard → List (List ℕ × Op) → List Data → Result (List Heard) BulkFault
heard_items i so_far [] vs = Ok so_far
heard_items i so_far (call ∷ calls) [] = Err Count
heard_items i so_far (call ∷ calls) (v ∷ vs) = heard_item i call v >>= (λ h. heard_items (suc i) (so_far ++ h ∷ []) calls vs)

-- what is heard by as many items as there are calls; Count if there are more or fewer
-- Source: profile.
abbrev pub heard_counted : List (List ℕ × Op) → List Data → Result (List Heard) BulkFault
heard_counted calls vs = if length vs == length calls then heard_items 0 [] calls vs else Err Count

-- the array `items` of a reply, if it has one
abbrev pub items_in : Data → Option (List Data)
items_in v = option_map items_list (option_and_then as_array (get (codes "items") v))

-- what is heard by the array of items; Count if there is none
-- Source: profile.
abbrev pub heard_array : List (List ℕ × Op) → Option (List Data) → Result (List Heard) BulkFault
heard_array calls None = Err Count
heard_array calls (Some vs) = heard_counted calls vs

-- what is heard by the value of a body; Syntax of line 1 if it has none
-- Source: profile.
abbrev pub heard_json : List (List ℕ × Op) → Option Data → Result (List Heard) BulkFault
heard_json calls None = Err (Syntax 1)
heard_json calls (Some v) = heard_array calls (items_in v)

-- What the reply to a bulk request says of each of its calls, or the first fault. With a status other than
-- 200 it isn't read, and the outcome of each is unknown.
-- Source: profile.
abbrev pub bulk_reply : List (List ℕ × Op) → ℕ → List ℕ → Result (List Heard) BulkFault
bulk_reply calls status body = if status == 200 then heard_json calls (json_value body) else Ok (map (λ call. Unknown) calls)
