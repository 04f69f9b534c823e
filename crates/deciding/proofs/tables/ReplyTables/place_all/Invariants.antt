use Rattle.std.proofs.Common.{ℕ, ◌≡◌, ◌<◌, Some, slice_get}
use Rattle.deciding.specs.declared.row.Row.{Row}
use Rattle.deciding.specs.aids.Candidates.{IsDocument}
use Rattle.deciding.specs.aids.StepsOf.{ArePositioned}
use Rattle.deciding.specs.aids.TablesOf.{HasPositions, IsPlacedIn, KeepsTables}
use Rattle.deciding.proofs.tables.ReplyTables.place_all.Given as goal

abbrev pub invariant-loop-i : goal.invariant-loop-i
invariant-loop-i l = IsDocument l.document → HasPositions l.document.records.now l.initial.self → ArePositioned l.document.records.now l.rows
    → KeepsTables l.document.records.now l.initial.self l.self
    × ((k : ℕ) (row : Row) → k < l.i → slice_get l.rows k ≡ Some row → IsPlacedIn l.document.conflicts l.document.records.now l.number l.call l.self row)
