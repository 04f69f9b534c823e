use Rattle.doc_check.proofs.MomentLemmas.{moments_are}
use Rattle.doc_check.proofs.moments.moments_of.Goals as goal

pub returns : goal.returns
returns c =
    moments_are c.args.records.now c.in_ok-moments.moments.items c.sort_nearly_ordered.new.items.items c.reverse.new.self.items c.in_ok-moments.ensures
    c.sort_nearly_ordered.ensures.permutation c.sort_nearly_ordered.ensures.sorted c.reverse.ensures.items
