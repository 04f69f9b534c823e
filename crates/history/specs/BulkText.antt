-- The history text of a bulk request and its reply.
use Rattle.std.specs.Prelude.{ℕ, suc, ◌+◌, ◌^◌, Bool, true, false, List, [], ◌∷◌, ◌++◌, Option, Some, None, Result, Ok, Err, length, nat_le, position, if◌then◌else◌}
use Rattle.doc_register.specs.declared.op.Op.{Op}
use Rattle.serde_json.specs.Data.{Data}
use Rattle.api_lines.specs.Bulk.{bulk_body}
use Rattle.api_lines.specs.BulkReply.{bulk_reply}
use Rattle.api_lines.specs.Faults.{◌>>=◌}
use Rattle.api_lines.specs.declared.bulk_fault.BulkFault.{BulkFault}
use Rattle.api_lines.specs.declared.bulk_fault.BulkFault.TheVariants.{Count, Kind}
use Rattle.api_lines.specs.declared.reply_table.Heard.{Heard}
use Rattle.api_lines.specs.declared.reply_table.Heard.TheVariants.{Reply, Unknown, Stranger}
use Rattle.history.specs.Written.{call_value, lost_value, reply_value, written_values}

-- the values of the lines of the items' calls, on shard 0, numbered from n on
-- Source: profile.
abbrev pub call_values : ℕ → List (List ℕ × Op) → List Data
call_values n [] = []
call_values n (item ∷ items) = call_value n 0 item.0 item.1 ∷ call_values (suc n) items

-- The value of the line of the ending of the call numbered n: its reply, or a lost line if the outcome is
-- Unknown. A stranger's reply was refused before.
-- Source: profile.
abbrev pub ending_value : ℕ → List ℕ → Heard → Data
ending_value n d (Reply r) = reply_value n d r
ending_value n d Unknown = lost_value n
ending_value n d Stranger = lost_value n

-- the values of the lines of the endings of the items' calls, which are numbered from n on
-- Source: profile.
abbrev pub ending_values : ℕ → List (List ℕ × Op) → List Heard → List Data
ending_values n [] hs = []
ending_values n (item ∷ items) [] = []
ending_values n (item ∷ items) (h ∷ hs) = ending_value n item.0 h ∷ ending_values (suc n) items hs

-- a reply about another document was heard
abbrev pub is_stranger : Heard → Bool
is_stranger (Reply r) = false
is_stranger Unknown = false
is_stranger Stranger = true

-- the lines, if the call numbers are below 2^64; otherwise Count
-- Source: profile.
abbrev pub numbered : ℕ → List (List ℕ × Op) → List Heard → Result (List ℕ) BulkFault
numbered first items hs =
    if nat_le (first + length items) (2 ^ 64) then Ok (written_values (call_values first items ++ ending_values first items hs)) else Err Count

-- the lines, unless the reply to the item at an index is a stranger's; otherwise Kind with this index
-- Source: profile.
abbrev pub unless_stranger : ℕ → List (List ℕ × Op) → List Heard → Option ℕ → Result (List ℕ) BulkFault
unless_stranger first items hs None = numbered first items hs
unless_stranger first items hs (Some i) = Err (Kind i)

-- The text of the calls of a bulk request, numbered from first on, followed by their endings; or the first
-- fault: of the body, of the reply, of the first item whose reply is a stranger's, or of a call number above
-- 2^64-1.
-- Source: profile.
abbrev pub bulk_history : ℕ → List ℕ → ℕ → List ℕ → Result (List ℕ) BulkFault
bulk_history first body status reply = do
  items ← bulk_body body
  hs ← bulk_reply items status reply
  unless_stranger first items hs (position is_stranger hs)
