use Rattle.std.proofs.Common.{rules, ◌≡◌, ◌∙◌, ap, sym, true}
use Rattle.version_pair.specs.declared.pair.Pair.{Pair}
use Rattle.version_pair.proofs.PairLemmas.{same_by_test}
use Rattle.recorder.proofs.same_event.is_same_pair.Goals as goal

pub returns : goal.returns
returns c = (
  λ h. let is : c.eq.result ≡ true = search rules in same_by_test _ _ (sym c.eq.ensures ∙ is),
  λ same.
      let term : c.args.left.term ≡ c.args.right.term = ap (λ (p : Pair). p.term) same in
      let seq : c.args.left.seq ≡ c.args.right.seq = ap (λ (p : Pair). p.seq) same in
      search rules,
)
