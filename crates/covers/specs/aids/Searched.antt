-- What the search has found of the documents of a history.
use Rattle.std.specs.Prelude.{◌≡◌, ℕ, Bool, true, List, [], ◌∷◌, Some, slice_get}
use Rattle.doc_register.specs.declared.state.Conflicts.{Conflicts}
use Rattle.events.specs.declared.event.Event.{Event}
use Rattle.events.specs.declared.record.Rec.{Rec}
use Rattle.events.specs.Events.{records_of}
use Rattle.places.specs.declared.place.Place.{Place}
use Rattle.places.specs.Places.{AreValid}
use Rattle.places.specs.Witness.{Witness}
use Rattle.doc_check.specs.NoOrders.{AreUnpaired, Unordered}
use Rattle.doc_check.specs.Search.{IsAbout}
use Rattle.doc_check.specs.declared.search.DocAnswer.{DocAnswer}
use Rattle.doc_check.specs.declared.search.DocAnswer.TheVariants.{NotFound}

-- The witness is of the document: it has the document's records. If it is the first that the search gave, it
-- gives no pair if any places without a given pair are valid for them.
pub record IsSearched (conflicts : Conflicts) (events : List Event) (first : Bool) (d : List ℕ) (w : Witness) : Type 0 where
  pub doc : w.doc ≡ d
  pub own : w.records ≡ records_of events d
  pub read : w.conflicts ≡ conflicts
  pub valid : AreValid conflicts (records_of events d) w.places
  pub unpaired : first ≡ true → (places : List Place) → AreUnpaired places → AreValid conflicts (records_of events d) places → AreUnpaired w.places

-- the witnesses are of these documents, one by one
abbrev pub AreSearched : Conflicts → List Event → Bool → List (List ℕ × ℕ) → List Witness → Type 0
AreSearched conflicts events first [] [] = Unit {0}
AreSearched conflicts events first [] (w ∷ ws) = ⊥
AreSearched conflicts events first (d ∷ ds) [] = ⊥
AreSearched conflicts events first (d ∷ ds) (w ∷ ws) = IsSearched conflicts events first d.0 w × AreSearched conflicts events first ds ws

-- one of the answers has no order
abbrev pub HasLost : List DocAnswer → Type 0
HasLost answers = (k : ℕ) × (n : Unordered) × (slice_get answers k ≡ Some (NotFound n))

-- the new answer is about what the old one is about
abbrev pub Keeps : DocAnswer → DocAnswer → Type 0
Keeps old new = (d : List ℕ) (records : List Rec) (conflicts : Conflicts) → IsAbout d records conflicts old → IsAbout d records conflicts new

-- one by one
abbrev pub AreKept : List DocAnswer → List DocAnswer → Type 0
AreKept [] [] = Unit {0}
AreKept [] (x ∷ xs) = ⊥
AreKept (y ∷ ys) [] = ⊥
AreKept (y ∷ ys) (x ∷ xs) = Keeps y x × AreKept ys xs

-- ---- other places for the same records

-- the witness has the id and the records of the other, and places that are valid for them
pub record IsAlike (old new : Witness) : Type 0 where
  pub doc : new.doc ≡ old.doc
  pub own : new.records ≡ old.records
  pub read : new.conflicts ≡ old.conflicts
  pub valid : AreValid old.conflicts old.records new.places

-- one by one
abbrev pub AreAlike : List Witness → List Witness → Type 0
AreAlike [] [] = Unit {0}
AreAlike [] (w ∷ ws) = ⊥
AreAlike (v ∷ vs) [] = ⊥
AreAlike (v ∷ vs) (w ∷ ws) = IsAlike v w × AreAlike vs ws
