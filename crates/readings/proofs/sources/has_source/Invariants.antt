use Rattle.std.proofs.Common.{◌≡◌, ◌<◌, Some, ℕ, slice_get}
use Rattle.events.specs.declared.record.Rec.{Rec}
use Rattle.readings.specs.aids.Records.{IsSource}
use Rattle.readings.proofs.sources.has_source.Given as goal

abbrev pub invariant-loop-j : goal.invariant-loop-j
invariant-loop-j l = (i : ℕ) (r : Rec) → i < l.j → slice_get l.records i ≡ Some r → ¬ IsSource l.reading r l.found.replied l.found.pair l.found.k
