use Rattle.repl_group.proofs.KeepLemmas.{kept_new, seen_new}
use Rattle.repl_group.proofs.copies.Copies.new.Goals as goal

pub invariant_of-result : goal.invariant_of-result
invariant_of-result c = rw (c.new.ensures, c.in_ok-list.ensures) (kept_new c.args.count)

pub returns : goal.returns
returns c = seen_new _ _ c.args.count c.new.ensures c.in_ok-list.ensures
