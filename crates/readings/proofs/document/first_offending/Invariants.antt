use Rattle.std.proofs.Common.{◌≡◌, ◌<◌, None, Some, ℕ, slice_get}
use Rattle.events.specs.declared.record.Rec.{Rec}
use Rattle.write_chain.specs.declared.answers.AnsweredRec.{AnsweredRec}
use Rattle.readings.specs.aids.Records.{IsJudged}
use Rattle.readings.proofs.document.first_offending.Given as goal

abbrev pub invariant-loop-k : goal.invariant-loop-k
invariant-loop-k l = (m : ℕ) (a : AnsweredRec) (r : Rec) → m < l.k → slice_get l.calls.answers.items m ≡ Some a → slice_get l.records a.rec ≡ Some r
    → IsJudged l.fn.reading l.records r.call_at r.heard None
