-- Laws of covers: what they say of one order of all calls, and what such an order says of covers.
use Rattle.std.specs.Prelude.{◌≡◌, ◌≢◌, ◌+◌, ℕ, List, [], ◌∷◌, Bool, true, false, Option, Some, None, length, filter, option_map, slice_get, unwrap_or}
use Rattle.version_pair.specs.declared.pair.Pair.{Pair}
use Rattle.doc_register.specs.declared.op.Op.{Op}
use Rattle.doc_register.specs.declared.op.Op.TheVariants.{Get}
use Rattle.doc_register.specs.declared.reply.Reply.{Reply as Answer}
use Rattle.doc_register.specs.declared.reply.Reply.TheVariants.{Conflict}
use Rattle.doc_register.specs.declared.state.Conflicts.{Conflicts}
use Rattle.doc_register.specs.declared.state.Conflicts.TheVariants.{Maybe}
use Rattle.doc_register.specs.Run.{pair_taken}
use Rattle.events.specs.declared.event.Event.{Event}
use Rattle.events.specs.Events.{IsCallAt, IsHistory, IsReplyAt, heard_of, is_same, records_of}
use Rattle.events.specs.Order.{Explains, IsLinearizable, IsLegalInResponseOrder, Placed}
use Rattle.events.specs.declared.record.Rec.{Rec}
use Rattle.places.specs.Laws.{ArePlacedBy}
use Rattle.places.specs.declared.place.Place.{Place}
use Rattle.places.specs.Documents.{DocPlaces}
use Rattle.covers.specs.Covers.{AreAllUnpaired, AreCover, HasNoUnpairedCover, IsEntered}
use Rattle.compose.specs.VerifyFaults.{IsFirstVerifyFault}
use Rattle.compose.specs.declared.verify_fault.VerifyFault.{VerifyFault}

-- ---- a cover is an order

-- the calls of a document in an order
abbrev pub part_of_order : List ℕ → List Placed → List Placed
part_of_order d order = filter (λ p. is_same p.entry.doc d) order

-- the number of places of the entries
abbrev pub places_in : List DocPlaces → ℕ
places_in [] = 0
places_in (e ∷ es) = length e.places + places_in es

-- whether the place names a call with a number that passes the test
abbrev pub names_number : (ℕ → Bool) → List Rec → Place → Bool
names_number test records p = unwrap_or (option_map (λ r. test r.no) (slice_get records p.rec)) false

-- the number of places of the entries that name such calls
abbrev pub places_numbered : (ℕ → Bool) → List Event → List DocPlaces → ℕ
places_numbered test events [] = 0
places_numbered test events (e ∷ es) = length (filter (names_number test (records_of events e.doc)) e.places) + places_numbered test events es

-- The order has exactly the places of the entries.
pub record IsOrderOf (events : List Event) (entries : List DocPlaces) (order : List Placed) : Type 0 where
  -- the calls of each entry's document are in it as the entry's places say
  pub placed : (i : ℕ) (e : DocPlaces) → slice_get entries i ≡ Some e
      → ArePlacedBy (records_of events e.doc) e.places (part_of_order e.doc order)
  -- it has calls of entered documents alone
  pub entered : (i : ℕ) (p : Placed) → slice_get order i ≡ Some p → IsEntered entries p.entry.doc
  -- it has as many calls as there are places
  pub count : length order ≡ places_in entries
  -- as many of its calls have a number that passes a test as places name such calls
  pub numbered : (test : ℕ → Bool) → length (filter (λ p. test p.no) order) ≡ places_numbered test events entries

-- entries that cover a history make it linearizable, by an order of exactly their places
-- Source: Herlihy and Wing, section 3.1, Theorem 1: a history is linearizable if each object's part is. Here
-- the pairs of a shard join its documents.
abbrev pub CoversExplain : Type 0
CoversExplain = (conflicts : Conflicts) (events : List Event) (entries : List DocPlaces) → IsHistory events → AreCover conflicts events entries
    → (order : List Placed) × Explains conflicts events order × IsOrderOf events entries order

-- ---- an order gives a cover

-- whether a call is answered, or takes a pair
abbrev pub is_kept : Option (ℕ × Answer) → Option Pair → Bool
is_kept (Some heard) taken = true
is_kept None (Some q) = true
is_kept None None = false

-- the calls of the document in an order, without unanswered ones that change nothing
abbrev pub restricted : List Event → List ℕ → List Placed → List Placed
restricted events d order =
    filter (λ p. is_kept (heard_of events p.no) (pair_taken p.entry.reply p.entry.hidden)) (part_of_order d order)

-- An order that explains a history, restricted to each document without its unanswered calls that change
-- nothing, gives valid places of the document; and all of them together are a cover.
-- Source: Herlihy and Wing, section 3.1, Theorem 1, the other direction.
abbrev pub OrdersAreCovers : Type 0
OrdersAreCovers = (conflicts : Conflicts) (events : List Event) (order : List Placed) → IsHistory events → Explains conflicts events order
    → (entries : List DocPlaces) × AreCover conflicts events entries
    × ((i : ℕ) (e : DocPlaces) → slice_get entries i ≡ Some e → ArePlacedBy (records_of events e.doc) e.places (restricted events e.doc order))

-- ---- histories without a cover

-- the history is complete: each write has a reply, under Maybe one other than a conflict
-- Source: profile.
abbrev pub IsComplete : Conflicts → List Event → Type 0
IsComplete conflicts events = (i n h : ℕ) (d : List ℕ) (op : Op) → IsCallAt events i n h d op → op ≢ Get
    → (k : ℕ) × (r : Answer) × IsReplyAt events k n r × (conflicts ≡ Maybe → r ≢ Conflict)

-- a complete history that no entries without a given pair cover is not linearizable
-- Source: profile.
abbrev pub CompleteHaveNoOrder : Type 0
CompleteHaveNoOrder = (conflicts : Conflicts) (events : List Event) → IsHistory events → IsComplete conflicts events → HasNoUnpairedCover conflicts events
    → ¬ IsLinearizable conflicts events

-- a history that is legal in response order is covered by entries without a given pair
-- Source: profile.
abbrev pub LegalInResponseOrderAreCovered : Type 0
LegalInResponseOrderAreCovered = (conflicts : Conflicts) (events : List Event) → IsHistory events → IsLegalInResponseOrder events
    → (entries : List DocPlaces) × AreAllUnpaired entries × AreCover conflicts events entries

-- ---- faults

-- entries that have a first fault are no cover
-- Source: profile.
abbrev pub FaultyAreNoCover : Type 0
FaultyAreNoCover = (conflicts : Conflicts) (events : List Event) (entries : List DocPlaces) (fault : VerifyFault)
    → IsFirstVerifyFault conflicts events entries fault → ¬ AreCover conflicts events entries
