use Rattle.std.proofs.Common.{ℕ, ◌≡◌, ◌<◌, Some, slice_get}
use Rattle.deciding.specs.declared.row.Row.{Row}
use Rattle.deciding.specs.aids.Candidates.{facts_of, IsDocument}
use Rattle.deciding.specs.aids.Moments.{IsMoment}
use Rattle.deciding.specs.aids.TablesOf.{AreStepsMet, HasPositions, KeepsTables}
use Rattle.deciding.proofs.tables.ReplyTables.close.Given as goal

abbrev pub invariant-loop-next : goal.invariant-loop-next
invariant-loop-next l = IsDocument l.document → HasPositions l.document.records.now l.initial.self → IsMoment l.document.conflicts l.document.records.now l.moment
    → KeepsTables l.document.records.now l.initial.self l.self
    × ((k : ℕ) (row : Row) → k < l.next → slice_get l.self.waiting.items k ≡ Some row → AreStepsMet (facts_of l.document) l.document.records.now l.moment.event l.number l.call l.self row)
