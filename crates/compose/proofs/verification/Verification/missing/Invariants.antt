use Rattle.std.proofs.Common.{◌≡◌, ◌<◌, ℕ, Some, slice_get, true}
use Rattle.compose.proofs.verification.Verification.missing.Given as goal

abbrev pub invariant-loop-doc : goal.invariant-loop-doc
invariant-loop-doc l = (k : ℕ) → k < l.doc → slice_get l.self.entered.items k ≡ Some true
