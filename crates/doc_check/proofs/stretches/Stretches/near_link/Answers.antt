use Rattle.std.proofs.Common.{arith, refl, ◌≡◌, ◌<◌, ◌-◌, ◌∙◌, Some, ap, length, sym}
use Rattle.std.proofs.lemmas.Option.{slice_get_read}
use Rattle.version_pair.proofs.PairLemmas.{same_by_test}
use Rattle.doc_check.proofs.stretches.Stretches.near_link.Goals as goal

pub returns-then-eq : goal.returns-then-eq
returns-then-eq c =
    let pairs = c.args.self.now.pairs.items in
    let below : c.loop-link.link - 1 < length pairs = omega (arith, c.loop-link-test.true, c.loop-link.invariant) in
    let same : c.index.result.now ≡ c.args.pair = same_by_test _ _ (sym c.eq.ensures ∙ c.if-eq.true) in
    slice_get_read pairs _ (c.loop-link.link - 1) c.index.result.now refl below c.index.ensures ∙ ap (λ p. Some p) same
