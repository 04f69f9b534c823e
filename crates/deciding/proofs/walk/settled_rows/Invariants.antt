use Rattle.std.proofs.Common.{ℕ, List, ◌≡◌, ◌<◌, Some, slice_get}
use Rattle.events.specs.declared.record.Rec.{Rec}
use Rattle.deciding.specs.declared.row.Row.{Row}
use Rattle.deciding.specs.Branches.{IsCovered}
use Rattle.deciding.specs.Tables.{settled}
use Rattle.deciding.specs.aids.Rows.{branch_of}
use Rattle.deciding.specs.aids.StepsOf.{ArePositioned}
use Rattle.deciding.specs.aids.TablesOf.{table_of}
use Rattle.deciding.proofs.walk.settled_rows.Given as goal

abbrev pub invariant-loop-i : goal.invariant-loop-i
invariant-loop-i l = (records : List Rec) → ArePositioned records l.served → ArePositioned records l.rows.items
    × ((k : ℕ) (row : Row) → k < l.i → slice_get l.served k ≡ Some row → IsCovered records (table_of l.rows.items) (settled l.number (branch_of row)))
