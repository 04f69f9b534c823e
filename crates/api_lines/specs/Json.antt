-- JSON: the value of a line, and the fields of an object. Values and look-ups are those of the crate
-- `serde_json`: `Data`, `read` and `get` of its own specs.
use Rattle.std.specs.Prelude.{◌≡◌, ℕ, List, Bool, Option, Some, None, if◌then◌else◌}
use Rattle.std.specs.Str.{is_utf8}
use Rattle.serde_json.specs.Data.{Num, unsigned, negative, float, Data, null, boolean, number, string, array, object}
use Rattle.serde_json.specs.Find.{get}
use Rattle.serde_json.specs.Read.{read}

-- ---- the value of a line

-- the value that a line, or any bytes, spell, if they are UTF-8 and JSON; otherwise nothing
abbrev pub json_value : List ℕ → Option Data
json_value line = if is_utf8 line then read line else None

-- ---- fields

-- The value of a field, by its kind.
-- Source: profile.
pub data FieldValue : Type 0 where
  -- there is no such field
  absent : FieldValue
  -- a number below 2^64 that is spelled by digits alone
  whole : ℕ → FieldValue
  -- another number, such as -1, 1.0, 1e3 and -0
  not_whole : FieldValue
  -- a text, by its unescaped bytes
  text : List ℕ → FieldValue
  -- true or false
  truth : Bool → FieldValue
  -- another kind: null, an array or an object
  other : FieldValue

-- a number as the value of a field
abbrev pub number_value : Num → FieldValue
number_value (unsigned n) = whole n
number_value (negative z) = not_whole
number_value (float x) = not_whole

-- what a look-up found as the value of a field
abbrev pub field_value : Option Data → FieldValue
field_value None = absent
field_value (Some null) = other
field_value (Some (boolean b)) = truth b
field_value (Some (number n)) = number_value n
field_value (Some (string s)) = text s
field_value (Some (array ds)) = other
field_value (Some (object ms)) = other

-- the field of a value with this key; a value that is not an object has none
abbrev pub field : List ℕ → Data → FieldValue
field key v = field_value (get key v)

-- the field is absent; a field that holds null is not
abbrev pub Lacks : List ℕ → Data → Type 0
Lacks key v = field key v ≡ absent

-- the field holds this whole number
abbrev pub HasNumber : List ℕ → ℕ → Data → Type 0
HasNumber key n v = field key v ≡ whole n

-- the field holds this text
abbrev pub HasText : List ℕ → List ℕ → Data → Type 0
HasText key t v = field key v ≡ text t

-- the field holds this truth value
abbrev pub HasBool : List ℕ → Bool → Data → Type 0
HasBool key b v = field key v ≡ truth b
