-- The first fault of places that are not valid.
use Rattle.std.specs.Prelude.{◌≡◌, ℕ, ◌<◌, ◌⊎◌, List, Some, None, IsSome, slice_get, take}
use Rattle.doc_register.specs.declared.state.Conflicts.{Conflicts}
use Rattle.doc_register.specs.declared.state.DocState.{DocState}
use Rattle.doc_register.specs.declared.state.DocState.TheVariants.{Never}
use Rattle.events.specs.declared.record.Rec.{Rec}
use Rattle.places.specs.declared.broken.Broken.{Broken}
use Rattle.places.specs.declared.broken.Broken.TheVariants.{Stranger, Twice, Absent, Late, PairMissing, PairGiven, Illegal, NoMemory}
use Rattle.places.specs.declared.place.Place.{Place}
use Rattle.places.specs.Places.{AreValidSoFar, GivesAsMay, IsHeardBefore, IsNamed, IsPlaceOf, IsPlaceRun, IsUnansweredGet, StepsAt}

-- the place is a stranger: it names no record, or an unanswered get
abbrev pub IsStranger : List Rec → Place → Type 0
IsStranger records p = (r : Rec) → IsPlaceOf records p r → IsUnansweredGet r

-- the place p has the index i, and all places before it are right
pub record IsReached (conflicts : Conflicts) (records : List Rec) (places : List Place) (i : ℕ) (p : Place) : Type 0 where
  -- p has the index i among the places
  pub here : slice_get places i ≡ Some p
  -- all places before it are right
  pub right : AreValidSoFar conflicts records (take i places)

-- the place is reached, and it names a record that may be named and that no earlier place names
pub record IsFresh (conflicts : Conflicts) (records : List Rec) (places : List Place) (i : ℕ) (p : Place) (r : Rec) : Type 0 where
  -- the place is reached
  pub reached : IsReached conflicts records places i p
  -- it names r
  pub names : IsPlaceOf records p r
  -- the record is no unanswered get
  pub known : ¬ IsUnansweredGet r
  -- no place before it names the same
  pub fresh : ¬ IsNamed (take i places) p.rec

-- the record's reply was heard before its own call, or before that of a place before i
abbrev pub IsLate : List Rec → List Place → ℕ → Rec → Type 0
IsLate records places i r =
    IsHeardBefore r.heard r.call_at
    ⊎ ((j : ℕ) × (q : Place) × (s : Rec) × (slice_get (take i places) j ≡ Some q) × IsPlaceOf records q s
    × IsHeardBefore r.heard s.call_at)

-- The fault holds, and no fault that is reported before it: place by place Stranger, Twice, PairMissing,
-- PairGiven, Late, Illegal, so all places before that of the fault are right; last Absent, if all places are
-- right, of the least answered record that is not named. NoMemory never is.
-- Source: profile.
abbrev pub IsFirstFault : Conflicts → List Rec → List Place → Broken → Type 0
IsFirstFault conflicts records places (Stranger i) = (p : Place) × IsReached conflicts records places i p × IsStranger records p
IsFirstFault conflicts records places (Twice i) =
    (p : Place) × (r : Rec) × IsReached conflicts records places i p × IsPlaceOf records p r × (¬ IsUnansweredGet r)
    × IsNamed (take i places) p.rec
IsFirstFault conflicts records places (PairMissing i) =
    (p : Place) × (r : Rec) × IsFresh conflicts records places i p r × (r.heard ≡ None) × (p.pair ≡ None)
IsFirstFault conflicts records places (PairGiven i) =
    (p : Place) × (r : Rec) × IsFresh conflicts records places i p r × IsSome r.heard × (¬ GivesAsMay conflicts r.heard p.pair)
IsFirstFault conflicts records places (Late i) =
    (p : Place) × (r : Rec) × IsFresh conflicts records places i p r × GivesAsMay conflicts r.heard p.pair
    × IsLate records places i r
IsFirstFault conflicts records places (Illegal i) =
    (p : Place) × (r : Rec) × IsFresh conflicts records places i p r × GivesAsMay conflicts r.heard p.pair
    × (¬ IsLate records places i r)
    × ((s t : DocState) → IsPlaceRun records Never (take i places) s → ¬ StepsAt s r.op r.heard p.pair t)
IsFirstFault conflicts records places (Absent k) =
    (r : Rec) × AreValidSoFar conflicts records places × (slice_get records k ≡ Some r) × IsSome r.heard × (¬ IsNamed places k)
    × ((j : ℕ) (s : Rec) → j < k → slice_get records j ≡ Some s → IsSome s.heard → IsNamed places j)
IsFirstFault conflicts records places NoMemory = ⊥
