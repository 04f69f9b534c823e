use Rattle.std.proofs.Common.{ℕ, ◌≡◌, ◌<◌, Some, slice_get}
use Rattle.deciding.specs.aids.Candidates.{facts_of, IsDocument}
use Rattle.deciding.specs.aids.Moments.{IsMoment}
use Rattle.deciding.specs.aids.Rows.{IsPositioned, branch_of}
use Rattle.deciding.specs.aids.StepsOf.{IsTried, KeepsRows}
use Rattle.deciding.proofs.document.Document.push_steps.Given as goal

abbrev pub invariant-loop-i : goal.invariant-loop-i
invariant-loop-i l = IsDocument l.self → IsPositioned l.self.records.now l.row → IsMoment l.self.conflicts l.self.records.now l.moment → KeepsRows l.self.records.now l.initial.rows.items l.rows.items
    × ((k n : ℕ) → k < l.i → slice_get l.numbers.items k ≡ Some n → IsTried (facts_of l.self) l.self.records.now l.moment.event (branch_of l.row) n l.pair l.rows.items)
