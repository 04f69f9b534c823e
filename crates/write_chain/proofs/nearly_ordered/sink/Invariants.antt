use Rattle.std.proofs.Common.{IsPermutation, ◌<◌, length}
use Rattle.write_chain.proofs.nearly_ordered.sink.Given as goal

abbrev pub invariant-loop-at : goal.invariant-loop-at
invariant-loop-at g l = (l.at < length l.items.items) × IsPermutation l.fn.items.items l.items.items

abbrev pub decreases-loop-at : goal.decreases-loop-at
decreases-loop-at g l = l.at
