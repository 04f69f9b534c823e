-- What a line of a history text says by itself, or the first cause to refuse it. Kinds are checked before
-- values.
use Rattle.std.specs.Prelude.{ℕ, ◌^◌, Bool, List, Option, Some, None, nat_lt, codes, Result, Ok, Err, if◌then◌else◌}
use Rattle.std.specs.Str.{bytes_eq}
use Rattle.doc_register.specs.declared.op.Op.{Op}
use Rattle.doc_register.specs.declared.op.Op.TheVariants.{Get, Index, Delete, Create}
use Rattle.version_pair.specs.Shards.{most_shards}
use Rattle.api_lines.specs.Faults.{◌>>=◌}
use Rattle.api_lines.specs.Fields.{LineValues}
use Rattle.api_lines.specs.Ids.{id_parsed}
use Rattle.api_lines.specs.Kinds.{is_text, optional_number, optional_truth, required_number, required_text}
use Rattle.api_lines.specs.Pairs.{pair_parsed, whole_parsed}
use Rattle.api_lines.specs.declared.history_line.OpNumbers.{OpNumbers}
use Rattle.api_lines.specs.declared.history_line.OpNumbers.TheVariants as numbers
use Rattle.api_lines.specs.declared.history_line.LineSaid.{LineSaid}
use Rattle.api_lines.specs.declared.history_line.LineSaid.TheVariants.{Call, Reply, Lost}
use Rattle.api_lines.specs.declared.number.Number.{Number}
use Rattle.api_lines.specs.declared.text_fault.TextCause.{TextCause}
use Rattle.api_lines.specs.declared.text_fault.TextCause.TheVariants.{Range, Shape}

-- ---- kinds

-- The numbers of an index, each of the kind that it must be, otherwise Shape. Fields that the operation
-- doesn't take aren't read.
-- Source: profile.
abbrev pub index_numbers : LineValues → Result OpNumbers TextCause
index_numbers line = do
  k ← required_number line.k
  seq ← optional_number line.if_seq_no
  term ← optional_number line.if_primary_term
  Ok (numbers.Index k seq term)

-- the numbers of a delete, in the same way
-- Source: profile.
abbrev pub delete_numbers : LineValues → Result OpNumbers TextCause
delete_numbers line = do
  seq ← optional_number line.if_seq_no
  term ← optional_number line.if_primary_term
  Ok (numbers.Delete seq term)

-- the numbers of a create, in the same way
-- Source: profile.
abbrev pub create_numbers : LineValues → Result OpNumbers TextCause
create_numbers line = do
  k ← required_number line.k
  Ok (numbers.Create k)

-- the numbers of the operation with this name; an unknown name is Shape
-- Source: profile.
abbrev pub numbers_named : LineValues → List ℕ → Result OpNumbers TextCause
numbers_named line name =
    if bytes_eq name (codes "get") then Ok numbers.Get
    else (if bytes_eq name (codes "index") then index_numbers line
    else (if bytes_eq name (codes "delete") then delete_numbers line
    else (if bytes_eq name (codes "create") then create_numbers line
    else Err Shape)))

-- the numbers of the operation that a line names
-- Source: profile.
abbrev pub op_numbers : LineValues → Result OpNumbers TextCause
op_numbers line = required_text line.op >>= numbers_named line

-- ---- values

-- the operation with these numbers: checked first are the halves and the ranges of its condition, then the
-- range of the number that it writes
-- Source: profile.
abbrev pub op_parsed : OpNumbers → Result Op TextCause
op_parsed numbers.Get = Ok Get
op_parsed (numbers.Index k seq term) = do
  cond ← pair_parsed seq term
  n ← whole_parsed k
  Ok (Index n cond)
op_parsed (numbers.Delete seq term) = do
  cond ← pair_parsed seq term
  Ok (Delete cond)
op_parsed (numbers.Create k) = do
  n ← whole_parsed k
  Ok (Create n)

-- the number, if it is below the limit; otherwise Range
abbrev pub below_limit : ℕ → ℕ → Result ℕ TextCause
below_limit limit n = if nat_lt n limit then Ok n else Err Range

-- the shard: 0 if it isn't named, otherwise below 1,024
-- Source: profile.
abbrev pub shard_parsed : Option Number → Result ℕ TextCause
shard_parsed None = Ok 0
shard_parsed (Some number) = whole_parsed number >>= below_limit most_shards

-- the status, below 65,536
-- Source: profile.
abbrev pub status_parsed : Number → Result ℕ TextCause
status_parsed number = whole_parsed number >>= below_limit (2 ^ 16)

-- ---- lines

-- what a call line says: checked first are all kinds, then the id, then the halves of the condition, then the
-- ranges
-- Source: profile.
abbrev pub call_parsed : LineValues → Result LineSaid TextCause
call_parsed line = do
  number ← required_number line.n
  name ← required_text line.id
  numbers ← op_numbers line
  shard ← optional_number line.shard
  id ← id_parsed name
  op ← op_parsed numbers
  n ← whole_parsed number
  h ← shard_parsed shard
  Ok (Call n h id op)

-- what a reply line says: the number of its call and its status; its body is read when the call is known
-- Source: profile.
abbrev pub reply_parsed : LineValues → Result LineSaid TextCause
reply_parsed line = do
  number ← required_number line.n
  status ← required_number line.status
  n ← whole_parsed number
  s ← status_parsed status
  Ok (Reply n s)

-- what a lost line says: the number of its call, which ends without a reply
-- Source: profile.
abbrev pub lost_parsed : LineValues → Result LineSaid TextCause
lost_parsed line = do
  number ← required_number line.n
  n ← whole_parsed number
  Ok (Lost n)

-- What a lost line says by its field `void`: true if nothing was performed, and nothing if the field is absent;
-- Shape if it is neither true nor false. It is a kind, so it is checked before the values of the line. On other
-- lines the field doesn't count.
-- Source: profile.
abbrev pub void_parsed : LineValues → Result (Option Bool) TextCause
void_parsed line = if is_text (codes "lost") line.e then optional_truth line.void else Ok None

-- the line of this name: "call", "reply" or "lost"; another name is Shape
-- Source: profile.
abbrev pub line_named : LineValues → List ℕ → Result LineSaid TextCause
line_named line name =
    if bytes_eq name (codes "call") then call_parsed line
    else (if bytes_eq name (codes "reply") then reply_parsed line
    else (if bytes_eq name (codes "lost") then lost_parsed line
    else Err Shape))

-- what a line says, by the text of its field `e`; or the first cause to refuse it
-- Source: profile.
abbrev pub line_parsed : LineValues → Result LineSaid TextCause
line_parsed line = required_text line.e >>= line_named line
