use Rattle.std.proofs.Common.{ℕ, ◌≡◌, ◌<◌, Some, slice_get}
use Rattle.std.specs.Prelude.{◌≢◌}
use Rattle.events.specs.declared.record.Rec.{Rec}
use Rattle.deciding.specs.aids.Writes.{kind_of}
use Rattle.deciding.proofs.writes.first_of.Given as goal

abbrev pub invariant-loop-i : goal.invariant-loop-i
invariant-loop-i l = (j : ℕ) (r : Rec) → j < l.i → slice_get l.records j ≡ Some r → kind_of r ≢ Some l.kind
