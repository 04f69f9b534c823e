-- Tables of rows, as the code keeps them.
use Rattle.std.specs.Prelude.{◌≡◌, ℕ, List, Some, map, slice_get}
use Rattle.version_pair.specs.declared.pair.Pair.{Pair}
use Rattle.doc_register.specs.declared.state.Conflicts.{Conflicts}
use Rattle.deciding.specs.Facts.{Facts}
use Rattle.events.specs.declared.record.Rec.{Rec}
use Rattle.deciding.specs.declared.row.Row.{Row}
use Rattle.deciding.specs.declared.tables.ReplyTables.{ReplyTables}
use Rattle.deciding.specs.Branches.{Branch, IsCovered}
use Rattle.deciding.specs.Steps.{MayPerform, performed}
use Rattle.deciding.specs.Tables.{IsMet, IsPlaced}
use Rattle.deciding.specs.aids.Rows.{branch_of}
use Rattle.deciding.specs.aids.StepsOf.{ArePositioned}

-- the branches of rows
abbrev pub table_of : List Row → List Branch
table_of rows = map branch_of rows

-- the new table covers what the old one covers, and its rows are positioned
pub record KeepsTable (records : List Rec) (old new : List Row) : Type 0 where
  pub covered : (b : Branch) → IsCovered records (table_of old) b → IsCovered records (table_of new) b
  pub positioned : ArePositioned records new

-- and one more row
pub record AddsRow (records : List Rec) (row : Row) (old new : List Row) : Type 0 where
  pub keeps : KeepsTable records old new
  pub covers : IsCovered records (table_of new) (branch_of row)

-- the new table has the rows of the old one at their indexes, and its rows are positioned
pub record GrowsTable (records : List Rec) (old new : List Row) : Type 0 where
  pub rows : (i : ℕ) (row : Row) → slice_get old i ≡ Some row → slice_get new i ≡ Some row
  pub positioned : ArePositioned records new

-- and covers one more row
pub record PushesRow (records : List Rec) (row : Row) (old new : List Row) : Type 0 where
  pub grows : GrowsTable records old new
  pub covers : IsCovered records (table_of new) (branch_of row)

-- both tables are kept, and what waits at its indexes
pub record KeepsTables (records : List Rec) (old new : ReplyTables) : Type 0 where
  pub served : KeepsTable records old.served.items new.served.items
  pub waiting : GrowsTable records old.waiting.items new.waiting.items

-- the row is placed in the tables at the reply to the call
abbrev pub IsPlacedIn : Conflicts → List Rec → ℕ → Rec → ReplyTables → Row → Type 0
IsPlacedIn conflicts records i r tables row = IsPlaced conflicts records i r (table_of tables.served.items) (table_of tables.waiting.items) (branch_of row)

-- the rows of both tables are positioned
pub record HasPositions (records : List Rec) (tables : ReplyTables) : Type 0 where
  pub served : ArePositioned records tables.served.items
  pub waiting : ArePositioned records tables.waiting.items

-- each of these rows is placed in the tables
abbrev pub ArePlacedIn : Conflicts → List Rec → ℕ → Rec → ReplyTables → List Row → Type 0
ArePlacedIn conflicts records i r tables rows = (k : ℕ) (row : Row) → slice_get rows k ≡ Some row → IsPlacedIn conflicts records i r tables row

-- the branch behind each step of the row is met in the tables
abbrev pub AreStepsMet : Facts → List Rec → ℕ → ℕ → Rec → ReplyTables → Row → Type 0
AreStepsMet facts records event i r tables row = (j : ℕ) (s : Rec) (q : Pair) → MayPerform facts records event (branch_of row) j s q
    → IsMet facts.conflicts records i r (table_of tables.served.items) (table_of tables.waiting.items) (performed records event (branch_of row) j s q)

-- it is of each row that waits
abbrev pub IsClosed : Facts → List Rec → ℕ → ℕ → Rec → ReplyTables → Type 0
IsClosed facts records event i r tables = (k : ℕ) (row : Row) → slice_get tables.waiting.items k ≡ Some row → AreStepsMet facts records event i r tables row
