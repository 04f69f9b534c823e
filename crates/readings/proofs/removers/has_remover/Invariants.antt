use Rattle.std.proofs.Common.{◌≡◌, ◌<◌, Some, ℕ, slice_get}
use Rattle.events.specs.declared.record.Rec.{Rec}
use Rattle.readings.specs.aids.Records.{IsRemover}
use Rattle.readings.proofs.removers.has_remover.Given as goal

abbrev pub invariant-loop-j : goal.invariant-loop-j
invariant-loop-j l = (i : ℕ) (r : Rec) → i < l.j → slice_get l.records i ≡ Some r → ¬ IsRemover l.reading r l.replied l.pair
