-- The body of a bulk request: its items, or the first fault. An item is the id of a document with an
-- operation.
use Rattle.std.specs.Prelude.{ℕ, suc, Bool, true, false, List, [], ◌∷◌, ◌++◌, length, nat_lt, Option, Some, None, Result, Ok, Err, codes, if◌then◌else◌}
use Rattle.version_pair.specs.declared.pair.Pair.{Pair}
use Rattle.doc_register.specs.declared.op.Op.{Op}
use Rattle.doc_register.specs.declared.op.Op.TheVariants.{Index, Delete, Create}
use Rattle.serde_json.specs.Data.{Data, null, boolean, number, string, array, object, Members, no_members, member}
use Rattle.serde_json.specs.Find.{get}
use Rattle.api_lines.specs.Faults.{◌>>=◌}
use Rattle.api_lines.specs.Ids.{id_parsed}
use Rattle.api_lines.specs.Json.{FieldValue, absent, whole, not_whole, text, truth, other, field, json_value}
use Rattle.api_lines.specs.Kinds.{optional_number, required_text}
use Rattle.api_lines.specs.Lines.{is_blank, lines_of, longest_line}
use Rattle.api_lines.specs.Pairs.{pair_parsed}
use Rattle.api_lines.specs.declared.action.ActionName.{ActionName}
use Rattle.api_lines.specs.declared.action.ActionName.TheVariants as name
use Rattle.api_lines.specs.declared.action.ActionSaid.{ActionSaid}
use Rattle.api_lines.specs.declared.action.ActionSaid.TheVariants as said
use Rattle.api_lines.specs.declared.action.Awaited.{Awaited}
use Rattle.api_lines.specs.declared.action.Awaited.TheVariants as awaited
use Rattle.api_lines.specs.declared.bulk_fault.BulkFault.{BulkFault}
use Rattle.api_lines.specs.declared.bulk_fault.BulkFault.TheVariants as fault
use Rattle.api_lines.specs.declared.text_fault.TextCause.{TextCause}
use Rattle.api_lines.specs.declared.text_fault.TextCause.TheVariants.{Half, Range, Shape}

-- ---- an action

-- the object has one key
abbrev pub are_one : Members → Bool
are_one no_members = false
are_one (member k d no_members) = true
are_one (member k d (member l e ms)) = false

-- the value is an object with one key
abbrev pub has_one_key : Data → Bool
has_one_key null = false
has_one_key (boolean b) = false
has_one_key (number n) = false
has_one_key (string s) = false
has_one_key (array ds) = false
has_one_key (object ms) = are_one ms

-- the value under the key, if it is the object's only key
abbrev pub only_member : List ℕ → Data → Option Data
only_member key v = if has_one_key v then get key v else None

-- an action by its name and the fields of the object that it holds
-- Source: OpenSearch, bulk.
pub record ActionValues : Type 0 where
  -- the name of the action
  pub action : ActionName
  -- the field `_id`
  pub id : FieldValue
  -- the field `if_seq_no`
  pub seq : FieldValue
  -- the field `if_primary_term`
  pub term : FieldValue

-- the action of this name with the fields of the object that it holds
-- Source: OpenSearch, bulk.
abbrev pub values_of : ActionName → Data → ActionValues
values_of action v =
    record { action = action; id = field (codes "_id") v; seq = field (codes "if_seq_no") v; term = field (codes "if_primary_term") v }

-- the action of that of three values that is there: of an index, of a delete, of a create
-- Source: OpenSearch, bulk.
abbrev pub values_by_name : Option Data → Option Data → Option Data → Option ActionValues
values_by_name (Some v) delete create = Some (values_of name.Index v)
values_by_name None (Some v) create = Some (values_of name.Delete v)
values_by_name None None (Some v) = Some (values_of name.Create v)
values_by_name None None None = None

-- the action of an object whose one key is `index`, `delete` or `create`
-- Source: OpenSearch, bulk.
abbrev pub action_values : Data → Option ActionValues
action_values v = values_by_name (only_member (codes "index") v) (only_member (codes "delete") v) (only_member (codes "create") v)

-- the id and the condition: checked first are the kinds, then the id, then the pair
-- Source: profile.
abbrev pub conditioned : ActionValues → Result (List ℕ × Option Pair) TextCause
conditioned a = do
  name ← required_text a.id
  seq ← optional_number a.seq
  term ← optional_number a.term
  id ← id_parsed name
  cond ← pair_parsed seq term
  Ok (id, cond)

-- what the action of this name says; a create has no condition
-- Source: OpenSearch, bulk.
abbrev pub action_by : ActionName → ActionValues → Result ActionSaid TextCause
action_by name.Index a = conditioned a >>= (λ got. Ok (said.Awaits (awaited.Index got.0 got.1)))
action_by name.Delete a = conditioned a >>= (λ got. Ok (said.Deletes got.0 got.1))
action_by name.Create a = required_text a.id >>= (λ name. id_parsed name >>= (λ id. Ok (said.Awaits (awaited.Create id))))

-- what an action says, by its fields: a delete, or an action whose source line is to come; Shape if there is
-- none
-- Source: OpenSearch, bulk.
abbrev pub action_parsed : Option ActionValues → Result ActionSaid TextCause
action_parsed None = Err Shape
action_parsed (Some a) = action_by a.action a

-- ---- a line

-- the items so far, and the action whose source line is to come
pub record SoFar : Type 0 where
  -- the items so far
  pub items : List (List ℕ × Op)
  -- the action whose source line is to come, if one is
  pub awaited : Option Awaited

-- The fault of an action line, by the cause: Half and Range with its number, and Action for any other cause.
-- Source: profile.
abbrev pub action_fault : ℕ → TextCause → BulkFault
action_fault n Half = fault.Half n
action_fault n Range = fault.Range n
action_fault n _ = fault.Action n

-- the items after an action: a delete is one more item, and the source of any other is to come
abbrev pub with_action : List (List ℕ × Op) → ActionSaid → SoFar
with_action items (said.Deletes id cond) = record { items = items ++ (id, Delete cond) ∷ []; awaited = None }
with_action items (said.Awaits a) = record { items = items; awaited = Some a }

-- the items after an action line
abbrev pub begun : ℕ → List (List ℕ × Op) → Result ActionSaid TextCause → Result SoFar BulkFault
begun n items (Err cause) = Err (action_fault n cause)
begun n items (Ok reported) = Ok (with_action items reported)

-- the item of an action with the number of its source
-- Source: profile.
abbrev pub item_of : Awaited → ℕ → List ℕ × Op
item_of (awaited.Index id cond) k = (id, Index k cond)
item_of (awaited.Create id) k = (id, Create k)

-- the items after a source line, which has a whole number `k`; otherwise Source with the number of the line
-- Source: profile.
abbrev pub sourced : ℕ → List (List ℕ × Op) → Awaited → FieldValue → Result SoFar BulkFault
sourced n items a absent = Err (fault.Source n)
sourced n items a (whole k) = Ok (record { items = items ++ item_of a k ∷ []; awaited = None })
sourced n items a not_whole = Err (fault.Source n)
sourced n items a (text t) = Err (fault.Source n)
sourced n items a (truth b) = Err (fault.Source n)
sourced n items a other = Err (fault.Source n)

-- the items after the value of a line: of an action line, or of a source line if one is to come
-- Source: profile.
abbrev pub taken_value : ℕ → List (List ℕ × Op) → Option Awaited → Data → Result SoFar BulkFault
taken_value n items None v = begun n items (action_parsed (action_values v))
taken_value n items (Some a) v = sourced n items a (field (codes "k") v)

-- the same of a line that may have no value: then Syntax with its number
-- Source: profile.
abbrev pub taken_json : ℕ → SoFar → Option Data → Result SoFar BulkFault
taken_json n so_far None = Err (fault.Syntax n)
taken_json n so_far (Some v) = taken_value n so_far.items so_far.awaited v

-- The items after the line with this number, counted from 1, or its fault. A line of more than 65,536 bytes
-- is refused (Syntax), even if it is blank; a shorter blank line is passed over.
-- Source: profile.
abbrev pub taken_line : ℕ → SoFar → List ℕ → Result SoFar BulkFault
taken_line n so_far line =
    if nat_lt longest_line (length line) then Err (fault.Syntax n)
    else (if is_blank line then Ok so_far else taken_json n so_far (json_value line))

-- ---- the body

-- the items at the end, if no source line is to come; otherwise Source with the number after the last line
-- Source: profile.
abbrev pub ended : ℕ → List (List ℕ × Op) → Option Awaited → Result (List (List ℕ × Op)) BulkFault
ended n items None = Ok items
ended n items (Some a) = Err (fault.Source n)

-- the items after these lines, if the first of them has this number
-- Source: profile.
abbrev pub taken_lines : ℕ → SoFar → List (List ℕ) → Result (List (List ℕ × Op)) BulkFault
taken_lines n so_far [] = ended n so_far.items so_far.awaited
taken_lines n so_far (line ∷ lines) = taken_line n so_far line >>= (λ next. taken_lines (suc n) next lines)

-- The items of the body of a bulk request, each the id of a document and an operation, or the first fault.
-- Lines are numbered from 1.
-- Source: profile.
abbrev pub bulk_body : List ℕ → Result (List (List ℕ × Op)) BulkFault
bulk_body bytes = taken_lines 1 (record { items = []; awaited = None }) (lines_of bytes)

-- P, unless the fault is being out of memory
abbrev pub UnlessMemory : BulkFault → Type 0 → Type 0
UnlessMemory (fault.Syntax n) P = P
UnlessMemory (fault.Action n) P = P
UnlessMemory (fault.Source n) P = P
UnlessMemory (fault.Half n) P = P
UnlessMemory (fault.Range n) P = P
UnlessMemory fault.Count P = P
UnlessMemory (fault.Kind i) P = P
UnlessMemory fault.NoMemory P = Unit {0}
