use Rattle.std.proofs.Common.{ℕ, ◌≡◌, ◌<◌, Some, slice_get}
use Rattle.events.specs.declared.record.Rec.{Rec}
use Rattle.deciding.specs.aids.Groups.{Has}
use Rattle.deciding.specs.aids.KnownPairs.{AreKnown}
use Rattle.deciding.specs.aids.Writes.{key_by}
use Rattle.deciding.proofs.writes.grouped.Given as goal

abbrev pub invariant-loop-i : goal.invariant-loop-i
invariant-loop-i l = AreKnown l.records l.known.pairs.items → (j : ℕ) (r : Rec) (key : ℕ) → j < l.i → slice_get l.records j ≡ Some r → key_by l.records l.by r ≡ Some key
    → Has l.entries.items (record { key = key; number = j })
