use Rattle.std.proofs.Common.{◌≤◌, ◌-◌, length}
use Rattle.evidence.proofs.search.pairs_taken_twice.least_pair_twice.Given as goal

abbrev pub invariant-loop-again : goal.invariant-loop-again
invariant-loop-again l = 1 ≤ l.from

abbrev pub decreases-loop-again : goal.decreases-loop-again
decreases-loop-again l = length l.taken.items - l.from
