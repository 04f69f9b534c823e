use Rattle.std.proofs.Common.{◌≡◌, ◌≢◌, ◌<◌, ℕ, Some, slice_get}
use Rattle.doc_register.specs.declared.op.Op.TheVariants.{Get}
use Rattle.events.specs.declared.record.Rec.{Rec}
use Rattle.events.specs.Heard.{ShowsOutcome}
use Rattle.doc_check.proofs.complete.is_complete.Given as goal

abbrev pub invariant-loop-found : goal.invariant-loop-found
invariant-loop-found l = (k : ℕ) (r : Rec) → slice_get l.records k ≡ Some r → k < l.found-index → r.op ≢ Get → ShowsOutcome l.conflicts r.heard
