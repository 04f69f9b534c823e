use Rattle.doc_check.proofs.SweepLemmas.{IsSwept}
use Rattle.doc_check.proofs.sweep.sweep.Given as goal

abbrev pub invariant-loop-i : goal.invariant-loop-i
invariant-loop-i l = IsSwept l.records l.stretches.chain.items l.moments.items l.i l.given.items l.bound
