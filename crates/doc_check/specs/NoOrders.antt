-- Records without an order of the answered calls alone. Places that give no pair complete no write of unknown
-- outcome: they are an order of the answered calls alone. Records are complete if each write has a
-- reply that says whether it was performed; then there are no other valid places.
use Rattle.std.specs.Prelude.{◌≡◌, ℕ, List, None, Some, slice_get}
use Rattle.doc_register.specs.declared.state.Conflicts.{Conflicts}
use Rattle.events.specs.declared.record.Rec.{Rec}
use Rattle.events.specs.Heard.{IsComplete}
use Rattle.places.specs.declared.place.Place.{Place}
use Rattle.places.specs.Places.{AreValid}

-- no place gives a pair
abbrev pub AreUnpaired : List Place → Type 0
AreUnpaired places = (i : ℕ) (p : Place) → slice_get places i ≡ Some p → p.pair ≡ None

-- in this reading of conflicts no places that give no pair are valid for the records
-- Source: profile.
abbrev pub HasNoOrder : Conflicts → List Rec → Type 0
HasNoOrder conflicts records = (places : List Place) → AreUnpaired places → ¬ AreValid conflicts records places

-- How contracts see a `NoOrder`: a document whose records have no such order, in this reading of conflicts.
pub record Unordered : Type 0 where
  pub doc : List ℕ
  pub records : List Rec
  pub conflicts : Conflicts

-- ---- complete records

-- the records are complete: each write has a reply that says whether it was performed
-- Source: profile.
abbrev pub AreAllComplete : Conflicts → List Rec → Type 0
AreAllComplete conflicts records = (k : ℕ) (r : Rec) → slice_get records k ≡ Some r → IsComplete conflicts r

-- complete records for which no places without a given pair are valid (`HasNoOrder`) have no valid places at
-- all
-- Source: profile.
abbrev pub CompleteHaveNone : Type 0
CompleteHaveNone = (conflicts : Conflicts) (records : List Rec) → AreAllComplete conflicts records → HasNoOrder conflicts records
    → (places : List Place) → ¬ AreValid conflicts records places
