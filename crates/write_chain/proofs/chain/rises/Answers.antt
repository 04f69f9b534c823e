use Rattle.std.proofs.Common.{arith, ◌<◌, ◌≤◌, suc, sym, refl, ◌∙◌, length}
use Rattle.std.proofs.lemmas.Bool.{false≢true}
use Rattle.std.proofs.lemmas.Option.{slice_get_within}
use Rattle.write_chain.proofs.RisesLemmas.{not_rising, rising_more}
use Rattle.write_chain.proofs.chain.rises.Goals as goal

pub returns-then-not-is_below : goal.returns-then-not-is_below
returns-then-not-is_below c = (
  λ yes. absurd (false≢true yes),
  λ rises. absurd (not_rising c.args.chain.now c.loop-k.k c.index-chain-k.result c.index-chain-k-in-loop-k.result c.loop-k.invariant.0 c.loop-k-test.true
      c.index-chain-k.is c.index-chain-k-in-loop-k.is (λ below. false≢true (sym c.if-not-is_below.true ∙ c.is_below.ensures.1 below)) rises),
)

pub loop-k-preserved : goal.loop-k-preserved
loop-k-preserved c = (
  omega arith,
  rising_more c.args.chain.now c.loop-k.k c.index-chain-k.result c.index-chain-k-in-loop-k.result c.loop-k.invariant.0 c.loop-k-test.true
      c.index-chain-k.is c.index-chain-k-in-loop-k.is (c.is_below.ensures.0 c.if-not-is_below.false) c.loop-k.invariant.1,
)

pub returns : goal.returns
returns c = (
  λ yes k a b at bt. c.loop-k.invariant.1 k a b
      (let within : suc k < length c.args.chain.now = slice_get_within c.args.chain.now (suc k) b bt in let end : length c.args.chain.now ≤ c.loop-k.k = c.loop-k-test.false in omega arith) at bt,
  λ rises. refl,
)
