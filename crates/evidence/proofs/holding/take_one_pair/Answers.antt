use Rattle.std.proofs.Common.{◌≡◌, ◌∙◌, rules, subst, sym, nat_eq, true}
use Rattle.std.specs.Prelude.{◌&&◌}
use Rattle.version_pair.specs.declared.pair.Pair.{Pair}
use Rattle.version_pair.proofs.PairLemmas.{same_by_test}
use Rattle.evidence.proofs.holding.take_one_pair.Goals as goal

same_itself : (p : Pair) → (nat_eq p.term p.term && nat_eq p.seq p.seq) ≡ true
same_itself p = search rules

pub returns-then-first-second : goal.returns-then-first-second
returns-then-first-second c = (
  λ same. (c.if-first-second.true, same_by_test c.args.first.pair c.args.second.pair (sym c.eq.ensures ∙ same)),
  λ same. c.eq.ensures ∙ subst (λ (q : Pair). (nat_eq c.args.first.pair.term q.term && nat_eq c.args.first.pair.seq q.seq) ≡ true) same.1 (same_itself c.args.first.pair),
)
