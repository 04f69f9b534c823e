-- In a sorted list what stands twice stands beside itself, and the first that does is the least.
use Rattle.std.proofs.Common.{ℕ, suc, ◌-◌, ◌≡◌, ◌<◌, ◌≤◌, ◌⊎◌, inl, inr, List, refl, sym, ap, ◌∙◌, arith, false, Some, None, slice_get, length}
use Rattle.std.specs.Prelude.{IsSorted}
use Rattle.std.specs.Cmp.{IsTotalOrder}
use Rattle.std.specs.Ordering.{is_lt, nat_cmp, ordering_then}
use Rattle.std.proofs.lemmas.Bool.{cases_lt}
use Rattle.std.proofs.lemmas.Cmp.{nat_cmp_total, on_total, then_total}
use Rattle.std.proofs.lemmas.Option.{slice_get_within}
use Rattle.version_pair.specs.declared.pair.Pair.{Pair}
use Rattle.version_pair.specs.PairOrder.{IsBelow}
use Rattle.version_pair.proofs.PairLemmas.{same_pair}
use Rattle.version_pair.proofs.ListLemmas.{get_within}
use Rattle.version_pair.proofs.SortedLists.{not_below, not_below_then, sorted_at}
use Rattle.doc_register.proofs.RunLemmas.{not_both_below}
use Rattle.shard_numbers.specs.Taken.{IsAtMost, IsLeastTwice, IsTwice, by_shard}
use Rattle.events.proofs.TakenPairLemmas.{same_parts}
use Rattle.events.specs.TakenPairs.{AreApart}

-- ---- the order

by_shard_total : IsTotalOrder by_shard
by_shard_total =
    then_total (on_total (λ (x : ℕ × Pair). x.0) nat_cmp_total)
    (then_total (on_total (λ (x : ℕ × Pair). x.1.term) nat_cmp_total) (on_total (λ (x : ℕ × Pair). x.1.seq) nat_cmp_total))

-- a pair that is not above another is the same or below it
pair_at_most : (p q : Pair) → is_lt (ordering_then (nat_cmp q.term p.term) (nat_cmp q.seq p.seq)) ≡ false → (p ≡ q) ⊎ IsBelow p q
pair_at_most p q unless = elim (not_below_then q.term p.term (nat_cmp q.seq p.seq) unless) as (λ _. (p ≡ q) ⊎ IsBelow p q) [
  | inl less ↦ inr (inl less)
  | inr same ↦ by_seq same.0 (not_below q.seq p.seq same.1) (cases_lt p.seq q.seq)
] where
  by_seq : p.term ≡ q.term → p.seq ≤ q.seq → (p.seq < q.seq) ⊎ (q.seq ≤ p.seq) → (p ≡ q) ⊎ IsBelow p q
  by_seq term up (inl less) = inr (inr (term, less))
  by_seq term up (inr not) = inl (same_pair p q term (omega arith))

at_most_from_order : (x y : ℕ × Pair) → is_lt (by_shard y x) ≡ false → IsAtMost x.0 x.1 y.0 y.1
at_most_from_order x y unless =
    elim (not_below_then y.0 x.0 (ordering_then (nat_cmp y.1.term x.1.term) (nat_cmp y.1.seq x.1.seq)) unless) as (λ _. IsAtMost x.0 x.1 y.0 y.1) [
      | inl less ↦ inl less
      | inr same ↦ inr (same.0, pair_at_most x.1 y.1 same.1)
    ]

-- two neither of which is above the other are the same
at_most_both : (x y : ℕ × Pair) → IsAtMost x.0 x.1 y.0 y.1 → IsAtMost y.0 y.1 x.0 x.1 → x ≡ y
at_most_both x y (inl a) (inl b) = absurd (omega arith)
at_most_both x y (inl a) (inr b) = let same : y.0 ≡ x.0 = b.0 in absurd (omega arith)
at_most_both x y (inr a) (inl b) = let same : x.0 ≡ y.0 = a.0 in absurd (omega arith)
at_most_both x y (inr a) (inr b) = same_parts x y a.0 (by_pairs a.1 b.1) where
  by_pairs : (x.1 ≡ y.1) ⊎ IsBelow x.1 y.1 → (y.1 ≡ x.1) ⊎ IsBelow y.1 x.1 → x.1 ≡ y.1
  by_pairs (inl p) q = p
  by_pairs (inr p) (inl q) = sym q
  by_pairs (inr p) (inr q) = absurd (not_both_below x.1 y.1 p q)

-- ---- a sorted list

-- an element is not above a later one
up_at : (xs : List (ℕ × Pair)) (i j : ℕ) (x y : ℕ × Pair) → IsSorted by_shard xs → i ≤ j → slice_get xs i ≡ Some x → slice_get xs j ≡ Some y → IsAtMost x.0 x.1 y.0 y.1
up_at xs i j x y sorted up at bt = at_most_from_order x y (sorted_at by_shard by_shard_total xs sorted i j x y up at bt)

-- what stands here and later stands next
next_same : (xs : List (ℕ × Pair)) (i j : ℕ) (x : ℕ × Pair) → IsSorted by_shard xs → i < j → slice_get xs i ≡ Some x → slice_get xs j ≡ Some x → slice_get xs (suc i) ≡ Some x
next_same xs i j x sorted less at bt =
    let within : j < length xs = slice_get_within xs j x bt in
    let next = get_within xs (suc i) (omega arith) in
    next.1 ∙ ap (λ z. Some z) (at_most_both next.0 x (up_at xs (suc i) j next.0 x sorted (omega arith) next.1 bt) (up_at xs i (suc i) x next.0 sorted (omega arith) at next.1))

-- ---- the first that stands beside itself

-- the first that does is the least that stands twice
pub first_is_least : (xs : List (ℕ × Pair)) (k : ℕ) (x : ℕ × Pair) → IsSorted by_shard xs → 1 ≤ k → AreApart (λ x. x) xs 1 k → slice_get xs (k - 1) ≡ Some x → slice_get xs k ≡ Some x
    → IsLeastTwice xs (Some x)
first_is_least xs k x sorted low apart at next = (
  (k - 1, k, omega (arith, low), at, next),
  λ y t. not_below_first y t,
) where
  not_below_first : (y : ℕ × Pair) → IsTwice xs y → IsAtMost x.0 x.1 y.0 y.1
  not_below_first y t = elim (cases_lt (suc t.0) k) as (λ _. IsAtMost x.0 x.1 y.0 y.1) [
    | inl before ↦ absurd (apart t.0 y y (omega arith) before t.3 (next_same xs t.0 t.1 y sorted t.2 t.3 t.4) refl)
    | inr not ↦ up_at xs (k - 1) t.0 x y sorted (omega (arith, not)) at t.3
  ]

-- where none does, none stands twice
pub none_twice : (xs : List (ℕ × Pair)) (k : ℕ) → IsSorted by_shard xs → AreApart (λ x. x) xs 1 k → length xs ≤ k → IsLeastTwice xs None
none_twice xs k sorted apart end = λ x t.
    let next = next_same xs t.0 t.1 x sorted t.2 t.3 t.4 in
    let within : suc t.0 < length xs = slice_get_within xs (suc t.0) x next in
    apart t.0 x x (omega arith) (omega arith) t.3 next refl
