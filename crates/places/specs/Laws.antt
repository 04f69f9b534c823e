-- Orders of one document's calls, what places say of them, and the law that valid places are such orders.
use Rattle.std.specs.Prelude.{◌≡◌, ℕ, List, [], ◌∷◌, Option, Some, None, IsSome, slice_get}
use Rattle.version_pair.specs.declared.pair.Pair.{Pair}
use Rattle.doc_register.specs.declared.op.Op.{Op}
use Rattle.doc_register.specs.declared.reply.Reply.{Reply as Answer}
use Rattle.doc_register.specs.declared.state.Conflicts.{Conflicts}
use Rattle.doc_register.specs.declared.state.Conflicts.TheVariants.{Plain}
use Rattle.doc_register.specs.Run.{Entry, IsLegalRun, pair_taken}
use Rattle.doc_register.specs.Laws.{ChangesNothing}
use Rattle.events.specs.declared.event.Event.{Event}
use Rattle.events.specs.declared.record.Rec.{Rec}
use Rattle.events.specs.Events.{IsCallAt, IsHistory, IsPending, IsReplyAt, records_of}
use Rattle.events.specs.Order.{IsOfCall, Placed, Respects, run_of}
use Rattle.places.specs.declared.place.Place.{Place}
use Rattle.places.specs.Places.{AreValid, IsPlaceOf}

-- The order explains the document of the history. It is an order of the document's calls, as one of the whole
-- history would be (`Explains`), but has no calls of other documents; it respects the history; and it is a
-- legal run.
-- Source: Herlihy and Wing, section 2, the subhistory of an object.
pub record ExplainsDocument (conflicts : Conflicts) (events : List Event) (d : List ℕ) (order : List Placed) : Type 0 where
  -- each entry is of a call of the document
  pub calls : (i : ℕ) (p : Placed) → slice_get order i ≡ Some p → IsOfCall events p × (p.entry.doc ≡ d)
  -- no call is in the order twice
  pub once : (i j : ℕ) (p q : Placed) → slice_get order i ≡ Some p → slice_get order j ≡ Some q → p.no ≡ q.no → i ≡ j
  -- each answered call of the document is in it, with its reply
  pub answered : (k j n h : ℕ) (op : Op) (r : Answer) → IsReplyAt events k n r → IsCallAt events j n h d op
      → (i : ℕ) × (p : Placed) × (slice_get order i ≡ Some p) × (p.no ≡ n) × (p.entry.reply ≡ r)
  -- under plain conflicts no entry hides a pair
  pub plain : conflicts ≡ Plain → (i : ℕ) (p : Placed) → slice_get order i ≡ Some p → p.entry.hidden ≡ None
  -- it respects the whole history
  pub respects : Respects events order
  -- it is a legal run
  pub legal : IsLegalRun (run_of order)

-- what a record and its place say of the call in the run: the reply that was heard, with the pair given to
-- the place as the one that it hides; or, if none was heard, the pair that the call takes, and one is given
abbrev pub SaysOfEntry : Option (ℕ × Answer) → Option Pair → Entry → Type 0
SaysOfEntry None pair e = IsSome pair × (pair_taken e.reply e.hidden ≡ pair)
SaysOfEntry (Some (at, reply)) pair e = (e.reply ≡ reply) × (e.hidden ≡ pair)

-- the place says this of the call in the order
pub record IsPlacedBy (records : List Rec) (p : Place) (q : Placed) : Type 0 where
  -- a record
  pub named : Rec
  -- the place names it
  pub names : IsPlaceOf records p named
  -- the call has the number of that record
  pub number : q.no ≡ named.no
  -- the call has its operation
  pub operation : q.entry.op ≡ named.op
  -- the record and the place say this of the call's entry (`SaysOfEntry`)
  pub reports : SaysOfEntry named.heard p.pair q.entry

-- the places say so of the calls of the order, place by place, and there are as many of both
abbrev pub ArePlacedBy : List Rec → List Place → List Placed → Type 0
ArePlacedBy records [] [] = Unit {0}
ArePlacedBy records [] (q ∷ qs) = ⊥
ArePlacedBy records (p ∷ ps) [] = ⊥
ArePlacedBy records (p ∷ ps) (q ∷ qs) = IsPlacedBy records p q × ArePlacedBy records ps qs

-- no pending call of the order changes nothing there
abbrev pub AllChange : List Event → List Placed → Type 0
AllChange events order = (i : ℕ) (p : Placed) → slice_get order i ≡ Some p → IsPending events p.no
    → ¬ ChangesNothing p.entry

-- Valid places of a document's records are an order that explains the document; and an order that explains
-- it, without pending calls that change nothing, is one of valid places.
-- Source: Herlihy and Wing, section 2, the subhistory of an object.
pub record PlacesAreOrders : Type 0 where
  -- for valid places there is an order that explains the document, and of which they say so
  pub explains : (conflicts : Conflicts) (events : List Event) (d : List ℕ) (places : List Place) → IsHistory events
      → AreValid conflicts (records_of events d) places
      → (order : List Placed) × ExplainsDocument conflicts events d order × ArePlacedBy (records_of events d) places order
  -- for an order that explains the document, in which each pending call changes something (`AllChange`),
  -- there are valid places that say so of it
  pub valid : (conflicts : Conflicts) (events : List Event) (d : List ℕ) (order : List Placed) → IsHistory events
      → ExplainsDocument conflicts events d order → AllChange events order
      → (places : List Place) × AreValid conflicts (records_of events d) places
      × ArePlacedBy (records_of events d) places order
