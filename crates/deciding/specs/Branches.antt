-- Branches: what a document may be between two events of its history. Between its known pairs a document may have
-- been changed by calls whose replies show no pair: those without a reply, and under Maybe those that were answered
-- with a conflict. A branch stands for all ways in which they may have brought it where it is.
use Rattle.std.specs.Prelude.{◌≡◌, ◌≤◌, ◌==◌, ◌&&◌, ◌||◌, ◌⊎◌, ⊤, ℕ, Bool, true, false, cond, List, [], ◌∷◌, Option, None, Some, slice_get}
use Rattle.version_pair.specs.declared.pair.Pair.{Pair}
use Rattle.version_pair.specs.PairOrder.{IsBelow}
use Rattle.events.specs.declared.record.Rec.{Rec}
use Rattle.deciding.specs.Reported.{known_pairs}
use Rattle.deciding.specs.Positions.{taking_position, version_of}

-- ---- positions

-- the two pairs are the same
abbrev pub is_same_pair : Pair → Pair → Bool
is_same_pair p q = p.term == q.term && p.seq == q.seq

-- the pair is one of the list
abbrev pub is_among : List Pair → Pair → Bool
is_among [] p = false
is_among (v ∷ vs) p = is_same_pair v p || is_among vs p

-- the position of a document whose last change has the pair; 0 if it was never changed
-- Source: profile.
abbrev pub position : List Rec → Option Pair → ℕ
position records None = 0
position records (Some p) = cond (is_among (known_pairs records) p) (version_of records p) (taking_position records p)

-- the first pair is the second or below it; none is below all
abbrev pub IsAtMost : Option Pair → Option Pair → Type 0
IsAtMost None q = ⊤
IsAtMost (Some p) None = ⊥
IsAtMost (Some p) (Some q) = (p ≡ q) ⊎ IsBelow p q

-- the pair is above the lower one, if there is one
abbrev pub IsAbove : Option Pair → Pair → Type 0
IsAbove None q = ⊤
IsAbove (Some p) q = IsBelow p q

-- ---- branches

-- the number is one of the list
abbrev pub is_in : ℕ → List ℕ → Bool
is_in i [] = false
is_in i (j ∷ js) = j == i || is_in i js

-- What a document may be between two events.
-- Source: profile.
pub record Branch : Type 0 where
  -- its last change has this pair or a greater one with the same position; none if it was never changed
  pub least : Option Pair
  -- it exists
  pub exists : Bool
  -- a call that was made before this event may have met it in the other state, existing or missing
  pub flipped_at : ℕ
  -- a call that was made before this event may have met it at another position
  pub arrived_at : ℕ
  -- the indexes of conflicts that have to be performed yet
  pub owed : List ℕ
  -- the indexes of conflicts that were performed
  pub spent : List ℕ
  -- how many deletes without a reply and without a condition were performed
  pub deletes : ℕ
  -- how many indexes and creates without a reply and without a condition were performed
  pub makes : ℕ

-- The first branch is no worse than the second: what it stands for has the same position and existence, and the
-- second forbids all that the first forbids.
-- Source: profile.
pub record Covers (records : List Rec) (a b : Branch) : Type 0 where
  -- both are at one position
  pub place : position records a.least ≡ position records b.least
  -- both exist, or neither
  pub exists : a.exists ≡ b.exists
  -- the pair is no greater
  pub least : IsAtMost a.least b.least
  -- no call that met the other state in the second didn't in the first
  pub flipped : b.flipped_at ≤ a.flipped_at
  -- no call that met another position in the second didn't in the first
  pub arrived : b.arrived_at ≤ a.arrived_at
  -- no other conflict has to be performed
  pub owed : (i : ℕ) → is_in i a.owed ≡ true → is_in i b.owed ≡ true
  -- no other conflict was performed
  pub spent : (i : ℕ) → is_in i a.spent ≡ true → is_in i b.spent ≡ true
  -- no more writes without a reply and without a condition were performed
  pub deletes : a.deletes ≤ b.deletes
  pub makes : a.makes ≤ b.makes

-- the branch is one of the table
abbrev pub IsBranchOf : List Branch → Branch → Type 0
IsBranchOf table b = (i : ℕ) × (slice_get table i ≡ Some b)

-- a branch of the table covers it
abbrev pub IsCovered : List Rec → List Branch → Branch → Type 0
IsCovered records table b = (a : Branch) × IsBranchOf table a × Covers records a b

-- the document before its history: it was never changed
abbrev pub never_changed : Branch
never_changed = record { least = None; exists = false; flipped_at = 0; arrived_at = 0; owed = []; spent = []; deletes = 0; makes = 0 }
