use Rattle.std.proofs.Common.{ℕ, List, ◌≡◌, ◌<◌, Some, slice_get}
use Rattle.events.specs.declared.record.Rec.{Rec}
use Rattle.deciding.specs.declared.row.Row.{Row}
use Rattle.deciding.specs.aids.KnownPairs.{AreKnown}
use Rattle.deciding.specs.aids.StepsOf.{ArePositioned}
use Rattle.deciding.specs.aids.Walks.{IsOwingIn}
use Rattle.deciding.proofs.walk.rows_owing.Given as goal

abbrev pub invariant-loop-i : goal.invariant-loop-i
invariant-loop-i l = (records : List Rec) → AreKnown records l.known.pairs.items → ArePositioned records l.front → ArePositioned records l.rows.items
    × ((k : ℕ) (row : Row) → k < l.i → slice_get l.front k ≡ Some row → IsOwingIn records l.number l.call l.rows.items row)
