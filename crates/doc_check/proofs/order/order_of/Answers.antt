use Rattle.std.proofs.Common.{arith, map, ap, subst, ◌∙◌}
use Rattle.std.specs.Prelude.{IsPermutation}
use Rattle.std.proofs.lemmas.List.{take_all}
use Rattle.doc_check.specs.aids.Order.{place_of}
use Rattle.doc_check.proofs.order.order_of.Goals as goal

pub returns : goal.returns
returns c = (
  c.sort_nearly_ordered.new.items.items,
  subst (λ xs. IsPermutation xs c.sort_nearly_ordered.new.items.items) c.in_ok-standings.ensures c.sort_nearly_ordered.ensures.permutation,
  c.sort_nearly_ordered.ensures.sorted,
  c.loop-i.invariant ∙ ap (map place_of) (take_all c.loop-i.i c.sort_nearly_ordered.new.items.items (omega arith)),
)
