-- The fields of an object after one more member.
use Rattle.std.proofs.Common.{◌≡◌, ℕ, List, Bool, true, false, Some, codes, option_and_then, unwrap_or, refl, sym, ap, subst, ◌∙◌}
use Rattle.std.specs.Prelude.{if◌then◌else◌}
use Rattle.std.specs.Str.{bytes_eq}
use Rattle.std.proofs.lemmas.Slice.Eq.{bytes_eq-Decides}
use Rattle.serde_json.specs.Data.{Data, Members, null, object, put}
use Rattle.serde_json.specs.Find.{get, get_member}
use Rattle.serde_json.proofs.Views.{get_member-put, get_member-put_other}
use Rattle.api_lines.specs.Fields.{BodyValues, LineValues, body_of, body_values, inner_field, line_values}
use Rattle.api_lines.specs.Json.{field, field_value}
use Rattle.api_lines.specs.aids.MoreFields.{body_with, field_with, line_with}

-- the key has this name, or it keeps what it had
module _ (name : List ℕ) (d : Data) (ms : Members) where
  member_at : (key : List ℕ) → get_member key (put name d ms) ≡ (if bytes_eq name key then Some d else get_member key ms)
  member_at key = by_test (bytes_eq name key) refl where
    by_test : (b : Bool) → bytes_eq name key ≡ b → get_member key (put name d ms) ≡ (if b then Some d else get_member key ms)
    by_test true is = ap (λ k. get_member k (put name d ms)) (sym ((bytes_eq-Decides name key).0 is)) ∙ get_member-put name d ms
    by_test false is = get_member-put_other key name d ms (λ same. let yes : bytes_eq name key ≡ true = (bytes_eq-Decides name key).1 (sym same) in cc)

  pub field-put : (key : List ℕ) → field key (object (put name d ms)) ≡ field_with key name d (field key (object ms))
  field-put key = ap field_value (member_at key) ∙ by_test (bytes_eq name key) where
    by_test : (b : Bool) → field_value (if b then Some d else get_member key ms) ≡ (if b then field_value (Some d) else field_value (get_member key ms))
    by_test true = refl
    by_test false = refl

  inner_field-put : (outer key : List ℕ) → inner_field outer key (object (put name d ms)) ≡ (if bytes_eq name outer then field key d else inner_field outer key (object ms))
  inner_field-put outer key = ap (λ o. field_value (option_and_then (get key) o)) (member_at outer) ∙ by_test (bytes_eq name outer) where
    by_test : (b : Bool) → field_value (option_and_then (get key) (if b then Some d else get_member outer ms)) ≡ (if b then field key d else inner_field outer key (object ms))
    by_test true = refl
    by_test false = refl

  body_of-put : body_values (body_of (object (put name d ms))) ≡ (if bytes_eq name (codes "body") then body_values d else body_values (body_of (object ms)))
  body_of-put = ap (λ o. body_values (unwrap_or o null)) (member_at (codes "body")) ∙ by_test (bytes_eq name (codes "body")) where
    by_test : (b : Bool) → body_values (unwrap_or (if b then Some d else get_member (codes "body") ms) null) ≡ (if b then body_values d else body_values (body_of (object ms)))
    by_test true = refl
    by_test false = refl

-- ---- by the name

-- what holds of a key, and of a name that is not that key, holds of the name
by_key : (P : List ℕ → Type 0) (name key : List ℕ) → P key → (bytes_eq name key ≡ false → P name) → P name
by_key P name key here other = by_test (bytes_eq name key) refl where
  by_test : (b : Bool) → bytes_eq name key ≡ b → P name
  by_test true is = subst P (sym ((bytes_eq-Decides name key).0 is)) here
  by_test false is = other is

-- a body's fields after a member, each by itself
abbrev body_each : List ℕ → Data → BodyValues → BodyValues
body_each name d body = record {
  id = field_with (codes "_id") name d body.id;
  outcome = field_with (codes "result") name d body.outcome;
  seq_no = field_with (codes "_seq_no") name d body.seq_no;
  primary_term = field_with (codes "_primary_term") name d body.primary_term;
  found = field_with (codes "found") name d body.found;
  source_k = if bytes_eq name (codes "_source") then field (codes "k") d else body.source_k;
  error_type = if bytes_eq name (codes "error") then field (codes "type") d else body.error_type;
}

body_each-put : (name : List ℕ) (d : Data) (ms : Members) → body_values (object (put name d ms)) ≡ body_each name d (body_values (object ms))
body_each-put name d ms =
    rw (
      field-put name d ms (codes "_id"),
      field-put name d ms (codes "result"),
      field-put name d ms (codes "_seq_no"),
      field-put name d ms (codes "_primary_term"),
      field-put name d ms (codes "found"),
      inner_field-put name d ms (codes "_source") (codes "k"),
      inner_field-put name d ms (codes "error") (codes "type"),
    ) refl

body_each-body_with : (name : List ℕ) (d : Data) (body : BodyValues) → body_each name d body ≡ body_with name d body
body_each-body_with name d body =
    by_key (λ w. body_each w d body ≡ body_with w d body) name (codes "_source") refl (λ no_source.
    by_key (λ w. body_each w d body ≡ body_with w d body) name (codes "error") refl (λ no_error.
    by_key (λ w. body_each w d body ≡ body_with w d body) name (codes "_id") refl (λ no_id.
    by_key (λ w. body_each w d body ≡ body_with w d body) name (codes "result") refl (λ no_result.
    by_key (λ w. body_each w d body ≡ body_with w d body) name (codes "_seq_no") refl (λ no_seq.
    by_key (λ w. body_each w d body ≡ body_with w d body) name (codes "_primary_term") refl (λ no_term.
    by_key (λ w. body_each w d body ≡ body_with w d body) name (codes "found") refl (λ no_found.
    rw (no_source, no_error, no_id, no_result, no_seq, no_term, no_found) refl)))))))

-- the last of a repeated key counts
pub body_values-put : (name : List ℕ) (d : Data) (ms : Members) → body_values (object (put name d ms)) ≡ body_with name d (body_values (object ms))
body_values-put name d ms = body_each-put name d ms ∙ body_each-body_with name d (body_values (object ms))

-- a line's fields after a member, each by itself
abbrev line_each : List ℕ → Data → LineValues → LineValues
line_each name d line = record {
  e = field_with (codes "e") name d line.e;
  n = field_with (codes "n") name d line.n;
  id = field_with (codes "id") name d line.id;
  op = field_with (codes "op") name d line.op;
  k = field_with (codes "k") name d line.k;
  if_seq_no = field_with (codes "if_seq_no") name d line.if_seq_no;
  if_primary_term = field_with (codes "if_primary_term") name d line.if_primary_term;
  shard = field_with (codes "shard") name d line.shard;
  status = field_with (codes "status") name d line.status;
  void = field_with (codes "void") name d line.void;
  body = if bytes_eq name (codes "body") then body_values d else line.body;
}

line_each-put : (name : List ℕ) (d : Data) (ms : Members) → line_values (object (put name d ms)) ≡ line_each name d (line_values (object ms))
line_each-put name d ms =
    rw (
      field-put name d ms (codes "e"),
      field-put name d ms (codes "n"),
      field-put name d ms (codes "id"),
      field-put name d ms (codes "op"),
      field-put name d ms (codes "k"),
      field-put name d ms (codes "if_seq_no"),
      field-put name d ms (codes "if_primary_term"),
      field-put name d ms (codes "shard"),
      field-put name d ms (codes "status"),
      field-put name d ms (codes "void"),
      body_of-put name d ms,
    ) refl

line_each-line_with : (name : List ℕ) (d : Data) (line : LineValues) → line_each name d line ≡ line_with name d line
line_each-line_with name d line =
    by_key (λ w. line_each w d line ≡ line_with w d line) name (codes "body") refl (λ no_body.
    by_key (λ w. line_each w d line ≡ line_with w d line) name (codes "e") refl (λ no_e.
    by_key (λ w. line_each w d line ≡ line_with w d line) name (codes "n") refl (λ no_n.
    by_key (λ w. line_each w d line ≡ line_with w d line) name (codes "id") refl (λ no_id.
    by_key (λ w. line_each w d line ≡ line_with w d line) name (codes "op") refl (λ no_op.
    by_key (λ w. line_each w d line ≡ line_with w d line) name (codes "k") refl (λ no_k.
    by_key (λ w. line_each w d line ≡ line_with w d line) name (codes "if_seq_no") refl (λ no_seq.
    by_key (λ w. line_each w d line ≡ line_with w d line) name (codes "if_primary_term") refl (λ no_term.
    by_key (λ w. line_each w d line ≡ line_with w d line) name (codes "shard") refl (λ no_shard.
    by_key (λ w. line_each w d line ≡ line_with w d line) name (codes "status") refl (λ no_status.
    by_key (λ w. line_each w d line ≡ line_with w d line) name (codes "void") refl (λ no_void.
    rw (no_body, no_e, no_n, no_id, no_op, no_k, no_seq, no_term, no_shard, no_status, no_void) refl)))))))))))

-- the last of a repeated key counts
pub line_values-put : (name : List ℕ) (d : Data) (ms : Members) → line_values (object (put name d ms)) ≡ line_with name d (line_values (object ms))
line_values-put name d ms = line_each-put name d ms ∙ line_each-line_with name d (line_values (object ms))
