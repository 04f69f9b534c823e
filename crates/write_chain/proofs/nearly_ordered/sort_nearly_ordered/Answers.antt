use Rattle.std.proofs.Common.{◌∙◌}
use Rattle.std.proofs.lemmas.List.Sorted.{IsPermutation-trans, length_permutation}
use Rattle.write_chain.proofs.nearly_ordered.sort_nearly_ordered.Goals as goal

pub loop-place-preserved : goal.loop-place-preserved
loop-place-preserved g c =
    let old = c.loop-place.items.items in
    let new = c.sink-left.new.items.items in
    (length_permutation old new c.sink-left.ensures ∙ c.loop-place.invariant.0, IsPermutation-trans c.args.items.now.items old new c.loop-place.invariant.1 c.sink-left.ensures)

pub returns-clause-permutation : goal.returns-clause-permutation
returns-clause-permutation g c =
    IsPermutation-trans c.args.items.now.items c.loop-place.items.items c.sort_unstable.new.self.items c.loop-place.invariant.1 c.sort_unstable.ensures.permutation
