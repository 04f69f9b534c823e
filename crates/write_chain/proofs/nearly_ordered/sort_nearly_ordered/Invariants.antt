use Rattle.std.proofs.Common.{IsPermutation, ◌≡◌, length}
use Rattle.write_chain.proofs.nearly_ordered.sort_nearly_ordered.Given as goal

abbrev pub invariant-loop-place : goal.invariant-loop-place
invariant-loop-place g l = (length l.items.items ≡ length l.fn.items.items) × IsPermutation l.fn.items.items l.items.items
