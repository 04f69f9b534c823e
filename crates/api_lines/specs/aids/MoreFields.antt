-- The fields after one more member of an object: aids of contracts and lemmas.
use Rattle.std.specs.Prelude.{ℕ, List, codes, Some, if◌then◌else◌}
use Rattle.std.specs.Str.{bytes_eq}
use Rattle.serde_json.specs.Data.{Data}
use Rattle.api_lines.specs.Fields.{BodyValues, LineValues, body_values}
use Rattle.api_lines.specs.Json.{FieldValue, field, field_value}

-- the field of this key after a member
abbrev pub field_with : List ℕ → List ℕ → Data → FieldValue → FieldValue
field_with key name d f = if bytes_eq name key then field_value (Some d) else f

-- a body's fields with this one at the key of this name; those of `_source` and `error` are not included
abbrev pub body_field_put : List ℕ → FieldValue → BodyValues → BodyValues
body_field_put name f body =
    if bytes_eq name (codes "_id") then record body { id = f }
    else (if bytes_eq name (codes "result") then record body { outcome = f }
    else (if bytes_eq name (codes "_seq_no") then record body { seq_no = f }
    else (if bytes_eq name (codes "_primary_term") then record body { primary_term = f }
    else (if bytes_eq name (codes "found") then record body { found = f }
    else body))))

-- a body's fields after a member
abbrev pub body_with : List ℕ → Data → BodyValues → BodyValues
body_with name d body =
    if bytes_eq name (codes "_source") then record body { source_k = field (codes "k") d }
    else (if bytes_eq name (codes "error") then record body { error_type = field (codes "type") d }
    else body_field_put name (field_value (Some d)) body)

-- a line's fields with this one at the key of this name, which is that of a condition, a shard, a status or what
-- a lost line says of being void
abbrev pub rare_field_put : List ℕ → FieldValue → LineValues → LineValues
rare_field_put name f line =
    if bytes_eq name (codes "if_seq_no") then record line { if_seq_no = f }
    else (if bytes_eq name (codes "if_primary_term") then record line { if_primary_term = f }
    else (if bytes_eq name (codes "shard") then record line { shard = f }
    else (if bytes_eq name (codes "status") then record line { status = f }
    else (if bytes_eq name (codes "void") then record line { void = f }
    else line))))

-- a line's fields with this one at the key of this name; those of `body` are not included
abbrev pub line_field_put : List ℕ → FieldValue → LineValues → LineValues
line_field_put name f line =
    if bytes_eq name (codes "e") then record line { e = f }
    else (if bytes_eq name (codes "n") then record line { n = f }
    else (if bytes_eq name (codes "id") then record line { id = f }
    else (if bytes_eq name (codes "op") then record line { op = f }
    else (if bytes_eq name (codes "k") then record line { k = f }
    else rare_field_put name f line))))

-- a line's fields after a member
abbrev pub line_with : List ℕ → Data → LineValues → LineValues
line_with name d line =
    if bytes_eq name (codes "body") then record line { body = body_values d }
    else line_field_put name (field_value (Some d)) line
