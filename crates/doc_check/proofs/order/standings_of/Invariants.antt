use Rattle.std.proofs.Common.{◌≡◌, ◌++◌, drop}
use Rattle.doc_check.specs.aids.Order.{standings_from}
use Rattle.doc_check.proofs.order.standings_of.Given as goal

abbrev pub invariant-loop-k : goal.invariant-loop-k
invariant-loop-k l = l.standings.items ++ standings_from l.k (drop l.k l.records) (drop l.k l.given) ≡ standings_from 0 l.records l.given
