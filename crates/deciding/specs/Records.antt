-- The records of a document.
use Rattle.std.specs.Prelude.{◌≡◌, ◌≢◌, ◌<◌, ℕ, List, Some, slice_get}
use Rattle.doc_register.specs.declared.reply.Reply.{Reply}
use Rattle.events.specs.declared.record.Rec.{Rec}

-- The records are in order, as those of a document of a history are.
pub record AreInOrder (records : List Rec) : Type 0 where
  -- by the positions of their calls
  pub calls : (i j : ℕ) (r s : Rec) → slice_get records i ≡ Some r → slice_get records j ≡ Some s → i < j → r.call_at < s.call_at
  -- each reply comes after its call
  pub replies : (i : ℕ) (r : Rec) (y : ℕ) (reply : Reply) → slice_get records i ≡ Some r → r.heard ≡ Some (y, reply) → r.call_at < y
  -- no call has the position of a reply
  pub apart : (i j : ℕ) (r s : Rec) (y : ℕ) (reply : Reply) → slice_get records i ≡ Some r → slice_get records j ≡ Some s
      → r.heard ≡ Some (y, reply) → s.call_at ≢ y
  -- no two replies have the same position
  pub once : (i j : ℕ) (r s : Rec) (y : ℕ) (a b : Reply) → slice_get records i ≡ Some r → slice_get records j ≡ Some s
      → r.heard ≡ Some (y, a) → s.heard ≡ Some (y, b) → i ≡ j
