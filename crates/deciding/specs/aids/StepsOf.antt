-- All steps of a row.
use Rattle.std.specs.Prelude.{◌≡◌, ⊤, ℕ, List, Option, None, Some, slice_get}
use Rattle.version_pair.specs.declared.pair.Pair.{Pair}
use Rattle.deciding.specs.Facts.{Facts}
use Rattle.events.specs.declared.record.Rec.{Rec}
use Rattle.deciding.specs.declared.row.Row.{Row}
use Rattle.deciding.specs.Branches.{Branch, Covers}
use Rattle.deciding.specs.Steps.{MayPerform, performed}
use Rattle.deciding.specs.aids.Rows.{IsPositioned, branch_of}

-- the row is one of the list
abbrev pub IsRowOf : List Row → Row → Type 0
IsRowOf rows row = (i : ℕ) × (slice_get rows i ≡ Some row)

-- each row has the position of its branch
abbrev pub ArePositioned : List Rec → List Row → Type 0
ArePositioned records rows = (row : Row) → IsRowOf rows row → IsPositioned records row

-- a row of the list covers the branch
abbrev pub HasRowFor : List Rec → List Row → Branch → Type 0
HasRowFor records rows b = (row : Row) × IsRowOf rows row × Covers records (branch_of row) b

-- the new list has the rows of the old one, and its rows are positioned if those are
pub record KeepsRows (records : List Rec) (old new : List Row) : Type 0 where
  pub rows : (row : Row) → IsRowOf old row → IsRowOf new row
  pub positioned : ArePositioned records old → ArePositioned records new

-- if the call may be performed with the pair, a row of the list covers the branch after that
abbrev pub IsTried : Facts → List Rec → ℕ → Branch → ℕ → Pair → List Row → Type 0
IsTried facts records event b number q rows = (r : Rec) → MayPerform facts records event b number r q → HasRowFor records rows (performed records event b number r q)

-- the branch after each call that may be performed with the pair is covered in the list
abbrev pub HasStepsWith : Facts → List Rec → ℕ → Branch → Pair → List Row → Type 0
HasStepsWith facts records event b q rows = (j : ℕ) → IsTried facts records event b j q rows

-- if there is a pair, each call that may be performed with it has
abbrev pub HasStepsWithSome : Facts → List Rec → ℕ → Branch → Option Pair → List Row → Type 0
HasStepsWithSome facts records event b None rows = ⊤
HasStepsWithSome facts records event b (Some q) rows = HasStepsWith facts records event b q rows

-- each step of the branch is covered by one of the list
abbrev pub AreSteps : Facts → List Rec → ℕ → Branch → List Row → Type 0
AreSteps facts records event b rows = (j : ℕ) (s : Rec) (q : Pair) → MayPerform facts records event b j s q
    → HasRowFor records rows (performed records event b j s q)
