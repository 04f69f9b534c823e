-- What is kept beside the writes of a copy and beside the requests, and what it says of them.
use Rattle.std.specs.Prelude.{◌≡◌, ℕ, ◌≤◌, ◌==◌, ◌^◌, Bool, true, List, [], ◌∷◌, Some, if◌then◌else◌, nat_lt, slice_get, unwrap_or}
use Rattle.std.specs.List.{list_any}
use Rattle.std.specs.Map.{lookup}
use Rattle.doc_register.specs.declared.state.DocState.{DocState}
use Rattle.doc_register.specs.declared.state.DocState.TheVariants.{Never}
use Rattle.repl_group.specs.declared.held_write.HeldWrite.{HeldWrite}
use Rattle.doc_register.specs.declared.op.Op.{Op}
use Rattle.repl_group.specs.declared.request.Request.{Request}
use Rattle.repl_group.specs.declared.request.Stage.TheVariants.{Queued}
use Rattle.repl_group.specs.Copies.{document_in, next_seq}
use Rattle.repl_group.specs.Requests.{in_flight_from, is_busy, is_in_flight}

-- each document is kept in the state that the writes give it, and so is the next sequence number
pub record AreNoted (writes : List (ℕ × HeldWrite)) (documents : List (ℕ × DocState)) (next : ℕ) : Type 0 where
  pub noted : (d : ℕ) → unwrap_or (lookup (◌==◌ d) documents) Never ≡ document_in writes d
  pub next_is : next ≡ next_seq writes
  pub next_fits : next ≤ 2 ^ 63

-- the state of requests: the list, and whether there is room for one more flight
pub record RequestsState : Type 0 where
  pub list : List Request
  pub has_room : Bool

-- at most one write is in flight on a document
abbrev pub AreApart : List Request → Type 0
AreApart list = (t u : ℕ) (x y : Request) → slice_get list t ≡ Some x → slice_get list u ≡ Some y
    → is_in_flight x.stage ≡ true → is_in_flight y.stage ≡ true → x.doc ≡ y.doc → t ≡ u

-- the tickets in flight are listed in rising order, and the busy documents are those that they are on
pub record AreListed (list : List Request) (in_flight : List ℕ) (busy : List ℕ) : Type 0 where
  pub listed : in_flight ≡ in_flight_from 0 list
  pub busy_is : (d : ℕ) → list_any (◌==◌ d) busy ≡ is_busy list d
  pub apart : AreApart list

abbrev pub queued_request : ℕ → Op → Request
queued_request doc op = record { doc = doc; op = op; stage = Queued }

-- the number inserted before the first one that is greater
abbrev pub put_in_order : ℕ → List ℕ → List ℕ
put_in_order t [] = t ∷ []
put_in_order t (u ∷ us) = if nat_lt t u then t ∷ u ∷ us else u ∷ put_in_order t us
