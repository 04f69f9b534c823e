use Rattle.std.proofs.Common.{arith, refl, sym, subst, ◌∙◌, ◌≡◌, ◌-◌, false}
use Rattle.std.proofs.lemmas.Option.{slice_get_read}
use Rattle.events.proofs.TakenPairLemmas.{apart_more, same_from_test, same_test}
use Rattle.events.proofs.taken_pair.next_taken_again.Goals as goal

pub loop-k-init : goal.loop-k-init
loop-k-init g c i x y up less = absurd (omega (arith, up, less))

pub returns-then-eq-clause-again : goal.returns-then-eq-clause-again
returns-then-eq-clause-again g c =
    let xs = c.args.taken.now in
    let before = slice_get_read xs _ (c.loop-k.k - 1) c.index-taken-k.result refl (omega (arith, c.loop-k-test.true)) c.index-taken-k.is in
    let here = slice_get_read xs _ c.loop-k.k c.index-taken-k-in-loop-k.result refl c.loop-k-test.true c.index-taken-k-in-loop-k.is in
    let same = same_from_test c.taken.result c.taken-in-loop-k.result (sym c.eq.ensures ∙ c.if-eq.true) in
    (c.loop-k.auto.k, c.loop-k-test.true, (c.index-taken-k.result, c.index-taken-k-in-loop-k.result, before, here, sym c.taken.ensures ∙ (same ∙ c.taken-in-loop-k.ensures)))

pub returns-then-eq-clause-first : goal.returns-then-eq-clause-first
returns-then-eq-clause-first g c = c.loop-k.invariant

pub loop-k-preserved : goal.loop-k-preserved
loop-k-preserved g c =
    let xs = c.args.taken.now in
    let before = slice_get_read xs _ (c.loop-k.k - 1) c.index-taken-k.result refl (omega (arith, c.loop-k-test.true)) c.index-taken-k.is in
    let here = slice_get_read xs _ c.loop-k.k c.index-taken-k-in-loop-k.result refl c.loop-k-test.true c.index-taken-k-in-loop-k.is in
    let other = subst (λ z. same_test c.taken.result z ≡ false) c.taken-in-loop-k.ensures (sym c.eq.ensures ∙ c.if-eq.false) in
    apart_more g.T.TakesPair.takes xs c.args.from c.loop-k.k c.index-taken-k.result c.index-taken-k-in-loop-k.result (omega (arith, c.requires, c.loop-k.auto.k)) c.loop-k.invariant before here
    (subst (λ z. same_test z (g.T.TakesPair.takes c.index-taken-k-in-loop-k.result) ≡ false) c.taken.ensures other)

pub returns-clause-first : goal.returns-clause-first
returns-clause-first g c i x y up less = c.loop-k.invariant i x y up (omega (arith, less, c.loop-k-test.false))
