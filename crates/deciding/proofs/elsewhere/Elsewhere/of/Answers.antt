use Rattle.std.proofs.Common.{subst, sym}
use Rattle.version_pair.proofs.SortedLists.{has_back, has_moved}
use Rattle.deciding.specs.Elsewhere.{IsIn}
use Rattle.deciding.proofs.elsewhere.Elsewhere.of.Goals as goal

pub returns : goal.returns
returns c q = (
  λ kept. has_back c.args.pairs.items c.sort_unstable.new.self.items q c.sort_unstable.ensures.permutation (subst (λ ps. IsIn ps q) c.deref.ensures.value (c.in_ok-ends.ensures.listed q kept)),
  λ is. c.in_ok-ends.ensures.kept q (subst (λ ps. IsIn ps q) (sym c.deref.ensures.value) (has_moved c.args.pairs.items c.sort_unstable.new.self.items q c.sort_unstable.ensures.permutation is)),
)
