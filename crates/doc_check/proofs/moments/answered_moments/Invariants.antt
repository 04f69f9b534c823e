use Rattle.std.proofs.Common.{◌≡◌, ◌++◌, drop}
use Rattle.doc_check.specs.aids.Sweep.{moments_from}
use Rattle.doc_check.proofs.moments.answered_moments.Given as goal

abbrev pub invariant-loop-k : goal.invariant-loop-k
invariant-loop-k l = l.moments.items ++ moments_from l.k (drop l.k l.records) ≡ moments_from 0 l.records
