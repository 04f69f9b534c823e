-- The test whether a chain rises, step by step.
use Rattle.std.proofs.Common.{ℕ, suc, ◌≡◌, ◌<◌, ◌≤◌, ◌+◌, ◌-◌, inl, inr, List, length, refl, sym, ap, subst, ◌∙◌, arith, Some, slice_get, get_or}
use Rattle.std.proofs.lemmas.Bool.{cases_lt}
use Rattle.std.proofs.lemmas.Option.{slice_get_read}
use Rattle.version_pair.specs.declared.pair.Pair.{Pair}
use Rattle.version_pair.specs.PairOrder.{IsBelow}
use Rattle.version_pair.proofs.ListLemmas.{same_some}
use Rattle.write_chain.specs.Chain.{Rises}

two_read : (chain : List (Pair × ℕ)) (k : ℕ) (a b : Pair × ℕ) → 1 ≤ k → k < length chain → a ≡ get_or chain (k - 1) a → b ≡ get_or chain k b
    → (slice_get chain (k - 1) ≡ Some a) × (slice_get chain k ≡ Some b)
two_read chain k a b some within first second = (
  slice_get_read chain (length chain) (k - 1) a refl (omega arith) first,
  slice_get_read chain (length chain) k b refl within second,
)

pub not_rising : (chain : List (Pair × ℕ)) (k : ℕ) (a b : Pair × ℕ) → 1 ≤ k → k < length chain → a ≡ get_or chain (k - 1) a → b ≡ get_or chain k b
    → (IsBelow (get_or chain (k - 1) a).0 (get_or chain k b).0 → ⊥) → Rises chain → ⊥
not_rising chain k a b some within first second not rises =
    let at = two_read chain k a b some within first second in
    let below : IsBelow a.0 b.0 = rises (k - 1) a b at.0 (subst (λ j. slice_get chain j ≡ Some b) (let e : k ≡ suc (k - 1) = omega arith in e) at.1) in
    not (subst (λ x. IsBelow x.0 (get_or chain k b).0) first (subst (λ y. IsBelow a.0 y.0) second below))

pub rising_more : (chain : List (Pair × ℕ)) (k : ℕ) (a b : Pair × ℕ) → 1 ≤ k → k < length chain → a ≡ get_or chain (k - 1) a → b ≡ get_or chain k b
    → IsBelow (get_or chain (k - 1) a).0 (get_or chain k b).0
    → ((j : ℕ) (x y : Pair × ℕ) → suc j < k → slice_get chain j ≡ Some x → slice_get chain (suc j) ≡ Some y → IsBelow x.0 y.0)
    → (j : ℕ) (x y : Pair × ℕ) → suc j < k + 1 → slice_get chain j ≡ Some x → slice_get chain (suc j) ≡ Some y → IsBelow x.0 y.0
rising_more chain k a b some within first second below before j x y less at bt = elim (cases_lt (suc j) k) as (λ _. IsBelow x.0 y.0) [
  | inl early ↦ before j x y early at bt
  | inr late ↦
      let here = two_read chain k a b some within first second in
      let is_x : a ≡ x = same_some a x (sym here.0 ∙ (ap (slice_get chain) (let e : k - 1 ≡ j = omega arith in e) ∙ at)) in
      let is_y : b ≡ y = same_some b y (sym here.1 ∙ (ap (slice_get chain) (let e : k ≡ suc j = omega arith in e) ∙ bt)) in
      subst (λ z. IsBelow z.0 y.0) (sym first ∙ is_x) (subst (λ z. IsBelow (get_or chain (k - 1) a).0 z.0) (sym second ∙ is_y) below)
]
