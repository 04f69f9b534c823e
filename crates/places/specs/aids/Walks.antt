-- What the check has done after some places: aids of its contracts.
use Rattle.std.specs.Prelude.{◌≡◌, ℕ, ◌<◌, ◌≤◌, ◌⊎◌, ◌↔◌, List, Bool, true, Some, IsSome, length, slice_get}
use Rattle.doc_register.specs.declared.state.Conflicts.{Conflicts}
use Rattle.doc_register.specs.declared.state.DocState.{DocState}
use Rattle.doc_register.specs.declared.state.DocState.TheVariants.{Never}
use Rattle.events.specs.declared.record.Rec.{Rec}
use Rattle.places.specs.declared.place.Place.{Place}
use Rattle.places.specs.Places.{AreValidSoFar, GivesAsMay, IsNamed, IsPlaceOf, IsPlaceRun, StepsAt}
use Rattle.places.specs.Faults.{IsFresh, IsLate}

-- The first places are right and end in the state; the marks say which records they name; and no call among
-- theirs comes after the latest position.
pub record IsWalked (conflicts : Conflicts) (records : List Rec) (front : List Place) (marks : List Bool) (latest : ℕ) (state : DocState) : Type 0 where
  pub right : AreValidSoFar conflicts records front
  pub run : IsPlaceRun records Never front state
  pub size : length marks ≡ length records
  pub marked : (k : ℕ) → (slice_get marks k ≡ Some true) ↔ IsNamed front k
  pub greatest : (i : ℕ) (p : Place) (r : Rec) → slice_get front i ≡ Some p → IsPlaceOf records p r
      → r.call_at ≤ latest
  pub reached : (latest ≡ 0)
      ⊎ ((i : ℕ) × (p : Place) × (r : Rec) × (slice_get front i ≡ Some p) × IsPlaceOf records p r
      × (r.call_at ≡ latest))

-- the walk can take the place at i: its record, and the state after it
pub record IsNextStep (conflicts : Conflicts) (records : List Rec) (places : List Place) (i : ℕ) (r : Rec) (s t : DocState) : Type 0 where
  pub place : Place
  pub fresh : IsFresh conflicts records places i place r
  pub gives : GivesAsMay conflicts r.heard place.pair
  pub in_time : ¬ IsLate records places i r
  pub steps : StepsAt s r.op r.heard place.pair t

-- the record is answered, and no mark says that it is named
abbrev pub IsAbsent : List Rec → List Bool → ℕ → Type 0
IsAbsent records marks k = (r : Rec) × (slice_get records k ≡ Some r) × IsSome r.heard
    × (slice_get marks k ≡ Some true → ⊥)

-- all answered records below k are marked
abbrev pub AllNamedBelow : List Rec → List Bool → ℕ → Type 0
AllNamedBelow records marks k = (j : ℕ) (r : Rec) → j < k → slice_get records j ≡ Some r → IsSome r.heard
    → slice_get marks j ≡ Some true
