-- The fields that a line names, taken out of its value.
use Rattle.std.specs.Prelude.{ℕ, List, false, option_and_then, true, unwrap_or, codes}
use Rattle.serde_json.specs.Data.{Data, null}
use Rattle.serde_json.specs.Find.{get}
use Rattle.api_lines.specs.Json.{FieldValue, absent, whole, not_whole, text, truth, other, field, field_value}
use Rattle.api_lines.specs.declared.field.Field.{Field}
use Rattle.api_lines.specs.declared.field.Field.TheVariants as field
use Rattle.api_lines.specs.declared.fields.BodyFields.{BodyFields}
use Rattle.api_lines.specs.declared.fields.LineFields.{LineFields}

-- the fields of a reply's body that the reply table reads
pub record BodyValues : Type 0 where
  -- the field `_id`
  pub id : FieldValue
  -- the field `result`
  pub outcome : FieldValue
  -- the field `_seq_no`
  pub seq_no : FieldValue
  -- the field `_primary_term`
  pub primary_term : FieldValue
  pub found : FieldValue
  -- the field `k` of `_source`
  pub source_k : FieldValue
  -- the field `type` of `error`
  pub error_type : FieldValue

-- the field of a field
abbrev pub inner_field : List ℕ → List ℕ → Data → FieldValue
inner_field outer key v = field_value (option_and_then (get key) (get outer v))

-- these fields of a body
abbrev pub body_values : Data → BodyValues
body_values body = record {
  id = field (codes "_id") body;
  outcome = field (codes "result") body;
  seq_no = field (codes "_seq_no") body;
  primary_term = field (codes "_primary_term") body;
  found = field (codes "found") body;
  source_k = inner_field (codes "_source") (codes "k") body;
  error_type = inner_field (codes "error") (codes "type") body;
}

-- the fields that any line of a history text names, each under its own name
pub record LineValues : Type 0 where
  pub e : FieldValue
  pub n : FieldValue
  pub id : FieldValue
  pub op : FieldValue
  pub k : FieldValue
  pub if_seq_no : FieldValue
  pub if_primary_term : FieldValue
  pub shard : FieldValue
  pub status : FieldValue
  pub void : FieldValue
  -- the fields of its body
  pub body : BodyValues

-- the body of a reply line, null if it is absent
-- Source: profile.
abbrev pub body_of : Data → Data
body_of v = unwrap_or (get (codes "body") v) null

-- these fields of a line, and those of its body
abbrev pub line_values : Data → LineValues
line_values v = record {
  e = field (codes "e") v;
  n = field (codes "n") v;
  id = field (codes "id") v;
  op = field (codes "op") v;
  k = field (codes "k") v;
  if_seq_no = field (codes "if_seq_no") v;
  if_primary_term = field (codes "if_primary_term") v;
  shard = field (codes "shard") v;
  status = field (codes "status") v;
  void = field (codes "void") v;
  body = body_values (body_of v);
}

-- ---- the code's fields as the definitions see them

-- a field of the code as the value of a field
abbrev pub value_of : Field → FieldValue
value_of field.Absent = absent
value_of (field.Whole n) = whole n
value_of field.NotWhole = not_whole
value_of (field.Text t) = text t.now
value_of field.True = truth true
value_of field.False = truth false
value_of field.Other = other

-- the code's fields of a body as such values
abbrev pub body_seen : BodyFields → BodyValues
body_seen b = record {
  id = value_of b.id;
  outcome = value_of b.outcome;
  seq_no = value_of b.seq_no;
  primary_term = value_of b.primary_term;
  found = value_of b.found;
  source_k = value_of b.source_k;
  error_type = value_of b.error_type;
}

-- the code's fields of a line as such values
abbrev pub line_seen : LineFields → LineValues
line_seen l = record {
  e = value_of l.e;
  n = value_of l.n;
  id = value_of l.id;
  op = value_of l.op;
  k = value_of l.k;
  if_seq_no = value_of l.if_seq_no;
  if_primary_term = value_of l.if_primary_term;
  shard = value_of l.shard;
  status = value_of l.status;
  void = value_of l.void;
  body = body_seen l.body;
}
