-- Laws of the reply table and of the replies that are written.
use Rattle.std.specs.Prelude.{◌≡◌, ℕ, List, true}
use Rattle.doc_register.specs.declared.op.Op.{Op}
use Rattle.doc_register.specs.declared.reply.Reply.{Reply}
use Rattle.doc_register.specs.Register.{fits}
use Rattle.serde_json.specs.Data.{Data}
use Rattle.api_lines.specs.Fields.{body_values}
use Rattle.api_lines.specs.ReplyTable.{IsHeard, Reports, heard}
use Rattle.api_lines.specs.Written.{written_body, written_status}
use Rattle.api_lines.specs.declared.reply_table.Heard.{Heard}
use Rattle.api_lines.specs.declared.reply_table.Heard.TheVariants.{Reply as Replied}

-- the reply table gives at most one reply for an operation, a status and a body
-- Source: profile.
abbrev pub TableReportsOne : Type 0
TableReportsOne = (op : Op) (status : ℕ) (body : Data) (r s : Reply) → Reports op status body r → Reports op status body s → r ≡ s

-- the two definitions of what is heard agree
-- Source: profile.
pub record FieldsAreHeard : Type 0 where
  -- what is heard by the fields of a body (`heard`) is what is heard (`IsHeard`)
  pub heard_so : (d : List ℕ) (op : Op) (status : ℕ) (body : Data) → IsHeard d op status body (heard op d status (body_values body))
  -- nothing else is heard
  pub alone : (d : List ℕ) (op : Op) (status : ℕ) (body : Data) (h g : Heard) → IsHeard d op status body h → IsHeard d op status body g → h ≡ g

-- what is written of a reply about a document is heard as that reply, for each operation that the reply fits
-- Source: profile.
abbrev pub WrittenIsHeard : Type 0
WrittenIsHeard = (d : List ℕ) (op : Op) (r : Reply) → fits op r ≡ true → IsHeard d op (written_status r) (written_body d r) (Replied r)
