use Rattle.std.proofs.Common.{arith, ◌<◌, ◌-◌, length}
use Rattle.std.proofs.lemmas.List.Sorted.{IsPermutation-swap, IsPermutation-trans, length_permutation}
use Rattle.write_chain.proofs.nearly_ordered.sink.Goals as goal

pub loop-at-preserved : goal.loop-at-preserved
loop-at-preserved g c =
    let old = c.loop-at.items.items in
    let new = c.swap.new.self.items in
    let below : c.loop-at.at < length old = c.loop-at.invariant.0 in
    let before : c.loop-at.at - 1 < length old = omega (arith, below) in
    let swapped = IsPermutation-swap old new (c.loop-at.at - 1) c.loop-at.at before below c.swap.ensures.items in
    let size = length_permutation old new swapped in
    (omega (arith, before, size), IsPermutation-trans c.args.items.now.items old new c.loop-at.invariant.1 swapped)
