use Rattle.std.proofs.Common.{◌≡◌, ◌++◌, drop}
use Rattle.deciding.specs.Reported.{known_pairs}
use Rattle.deciding.proofs.known.shown_pairs.Given as goal

abbrev pub invariant-loop-call : goal.invariant-loop-call
invariant-loop-call l = l.pairs.items ++ known_pairs (drop l.call-index l.records) ≡ known_pairs l.records
