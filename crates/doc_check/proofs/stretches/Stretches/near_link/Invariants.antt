use Rattle.std.proofs.Common.{◌-◌, ◌≤◌, length}
use Rattle.doc_check.proofs.stretches.Stretches.near_link.Given as goal

abbrev pub invariant-loop-link : goal.invariant-loop-link
invariant-loop-link l = l.link ≤ length l.self.pairs.items

abbrev pub decreases-loop-link : goal.decreases-loop-link
decreases-loop-link l = l.link - l.least
