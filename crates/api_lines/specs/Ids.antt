-- The id of a document that a text names.
use Rattle.std.specs.Prelude.{ℕ, ◌&&◌, Bool, List, length, nat_le, nat_lt, Result, Ok, Err, if◌then◌else◌}
use Rattle.version_pair.specs.Id.{longest_id}
use Rattle.api_lines.specs.declared.text_fault.TextCause.{TextCause}
use Rattle.api_lines.specs.declared.text_fault.TextCause.TheVariants.{Id}

-- a document id has one byte to 512 bytes
-- Source: OpenSearch (the bound on `_id`); profile: that an empty id is none.
abbrev pub is_id : List ℕ → Bool
is_id d = nat_lt 0 (length d) && nat_le (length d) longest_id

-- the id, if it has as many bytes as an id may have; otherwise Id
-- Source: OpenSearch (the bound on `_id`); profile: that an empty id is none.
abbrev pub id_parsed : List ℕ → Result (List ℕ) TextCause
id_parsed d = if is_id d then Ok d else Err Id
