use Rattle.std.proofs.Common.{rules, ◌≡◌, ◌<◌, ◌-◌, ◌⊎◌, inl, inr, arith, refl, sym, subst, ◌∙◌, length, true, true≢false, Some, slice_get}
use Rattle.std.proofs.lemmas.Option.{slice_get_read}
use Rattle.version_pair.specs.declared.pair.Pair.{Pair}
use Rattle.version_pair.specs.PairOrder.{IsBelow}
use Rattle.version_pair.proofs.ListLemmas.{same_some}
use Rattle.deciding.specs.Elsewhere.{is_kept}
use Rattle.deciding.proofs.EndLemmas.{IsInFrom, above_lower, from_earlier, from_itself, here_or_later, last_itself}
use Rattle.deciding.proofs.elsewhere.ends_of.Goals as goal

pub loop-i-preserved-then-is_below : goal.loop-i-preserved-then-is_below
loop-i-preserved-then-is_below c = (
  λ q kept. listed q (c.in_ok-keep.ensures.kept q kept),
  λ q is. c.in_ok-keep.ensures.stays q (kept_there q (here_or_later c.args.pairs.now (c.loop-i.i - 1) c.loop-i.i c.index-pairs-i.result q (omega arith) at is)),
  λ l same. c.in_ok-keep.ensures.stays l (inl (sym (same_some c.index-pairs-i.result l same))),
  c.in_ok-keep.ensures.ends c.loop-i.invariant.3 below,
  λ p kept. from_itself c.index-pairs-i.result p (above p (c.in_ok-keep.ensures.kept p kept)),
) where
  inside : c.loop-i.i - 1 < length c.args.pairs.now
  inside = search rules

  at : slice_get c.args.pairs.now (c.loop-i.i - 1) ≡ Some c.index-pairs-i.result
  at = slice_get_read c.args.pairs.now _ (c.loop-i.i - 1) c.index-pairs-i.result refl inside c.index-pairs-i.is

  below : (p : Pair) → is_kept c.loop-i.ends p ≡ true → IsBelow c.index-pairs-i.result p
  below p kept = above_lower c.loop-i.ends c.loop-i.last c.index-pairs-i.result p c.loop-i.invariant.4 (c.is_below.ensures.0 c.if-is_below.true) kept

  above : (p : Pair) → (p ≡ c.index-pairs-i.result) ⊎ (is_kept c.loop-i.ends p ≡ true) → (p ≡ c.index-pairs-i.result) ⊎ IsBelow c.index-pairs-i.result p
  above p (inl same) = inl same
  above p (inr kept) = inr (below p kept)

  listed : (q : Pair) → (q ≡ c.index-pairs-i.result) ⊎ (is_kept c.loop-i.ends q ≡ true) → IsInFrom c.args.pairs.now (c.loop-i.i - 1) q
  listed q (inl same) = record { index = c.loop-i.i - 1; after = omega arith; at = subst (λ p. slice_get c.args.pairs.now (c.loop-i.i - 1) ≡ Some p) (sym same) at }
  listed q (inr kept) = from_earlier c.args.pairs.now (c.loop-i.i - 1) c.loop-i.i q (omega arith) (c.loop-i.invariant.0 q kept)

  kept_there : (q : Pair) → (q ≡ c.index-pairs-i.result) ⊎ IsInFrom c.args.pairs.now c.loop-i.i q → (q ≡ c.index-pairs-i.result) ⊎ (is_kept c.loop-i.ends q ≡ true)
  kept_there q (inl same) = inl same
  kept_there q (inr is) = inr (c.loop-i.invariant.1 q is)

pub loop-i-preserved : goal.loop-i-preserved
loop-i-preserved c = (
  λ q kept. from_earlier c.args.pairs.now (c.loop-i.i - 1) c.loop-i.i q (omega arith) (c.loop-i.invariant.0 q kept),
  λ q is. kept_there q (here_or_later c.args.pairs.now (c.loop-i.i - 1) c.loop-i.i c.index-pairs-i.result q (omega arith) at is),
  c.loop-i.invariant.2,
  c.loop-i.invariant.3,
  c.loop-i.invariant.4,
) where
  inside : c.loop-i.i - 1 < length c.args.pairs.now
  inside = search rules

  at : slice_get c.args.pairs.now (c.loop-i.i - 1) ≡ Some c.index-pairs-i.result
  at = slice_get_read c.args.pairs.now _ (c.loop-i.i - 1) c.index-pairs-i.result refl inside c.index-pairs-i.is

  itself : is_kept c.loop-i.ends c.index-pairs-i.result ≡ true
  itself = last_itself c.args.pairs.now (c.loop-i.i - 1) c.index-pairs-i.result c.loop-i.ends c.loop-i.last c.requires at
      (λ low. true≢false (sym (c.is_below.ensures.1 low) ∙ c.if-is_below.false)) c.loop-i.invariant.2
      (λ q kept. from_earlier c.args.pairs.now (c.loop-i.i - 1) c.loop-i.i q (omega arith) (c.loop-i.invariant.0 q kept))

  kept_there : (q : Pair) → (q ≡ c.index-pairs-i.result) ⊎ IsInFrom c.args.pairs.now c.loop-i.i q → is_kept c.loop-i.ends q ≡ true
  kept_there q (inl same) = subst (λ p. is_kept c.loop-i.ends p ≡ true) (sym same) itself
  kept_there q (inr is) = c.loop-i.invariant.1 q is
