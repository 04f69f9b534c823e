-- What the reader has done after some lines of a text, and with one line more.
use Rattle.std.proofs.Common.{ℕ, List, ◌++◌, inl, inr}
use Rattle.serde_json.specs.Data.{Data}
use Rattle.doc_register.specs.declared.op.Op.{Op}
use Rattle.events.specs.declared.event.Event.{Event}
use Rattle.events.specs.declared.event.Event.TheVariants.{Call, Reply, Lost}
use Rattle.history.specs.Text.{IsLineOf, Spells, SpellsReply}
use Rattle.version_pair.proofs.ListLemmas.{get_front}

reply_front : (H G : List Event) (v : Data) (n : ℕ) (op : Op) (status : ℕ) → SpellsReply H v n op status → SpellsReply (H ++ G) v n op status
reply_front H G v n op status s = record {
  kind = s.kind;
  number = s.number;
  has_status = s.has_status;
  status_fits = s.status_fits;
  call = (s.call.0, s.call.1, s.call.2, get_front H G s.call.0 (Call s.call.1 n s.call.2 op) s.call.3, s.call.4);
}

-- what a line spells after some events it spells when more have come
pub spells_front : (H G : List Event) (v : Data) (e : Event) → Spells H v e → Spells (H ++ G) v e
spells_front H G v (Call h n d op) s = s
spells_front H G v (Reply n r) s = (s.0, s.1, reply_front H G v n s.0 s.1 s.2, s.3)
spells_front H G v (Lost n) (inl s) = inl s
spells_front H G v (Lost n) (inr s) = inr (s.0, s.1, reply_front H G v n s.0 s.1 s.2, s.3)

pub line_front : (H G : List Event) (line : List ℕ) (e : Event) → IsLineOf H line e → IsLineOf (H ++ G) line e
line_front H G line e s = (s.0, (s.1.0, s.1.1, spells_front H G s.1.0 e s.1.2))
