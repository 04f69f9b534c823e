-- What stands twice in a list stands twice in it in any other order: the number of its places stays.
use Rattle.std.proofs.Common.{ℕ, zero, suc, ◌+◌, ◌≡◌, ◌≤◌, ◌⊎◌, inl, inr, List, [], ◌∷◌, refl, sym, ap, subst, ◌∙◌, arith, Bool, true, false, cond, Option, Some, None}
use Rattle.std.specs.Prelude.{IsPermutation}
use Rattle.std.specs.List.{sum_by}
use Rattle.std.proofs.lemmas.List.Sorted.{IsPermutation-sym, sum_by-IsPermutation}
use Rattle.std.proofs.lemmas.List.Sums.{sum_by-cons}
use Rattle.version_pair.specs.declared.pair.Pair.{Pair}
use Rattle.version_pair.proofs.ListLemmas.{none_is_not_some, same_some}
use Rattle.version_pair.proofs.SortedLists.{Has}
use Rattle.events.proofs.TakenPairLemmas.{same_from_test, same_test, test_itself}
use Rattle.shard_numbers.specs.Taken.{IsLeastTwice, IsTwice}

-- ---- the number of places

-- one where the elements are the same
one_if : ℕ × Pair → ℕ × Pair → ℕ
one_if x y = cond (same_test x y) 1 0

one_same : (x y : ℕ × Pair) → y ≡ x → one_if x y ≡ 1
unfolding one_if
one_same x y same = ap (λ b. cond b 1 0) (ap (same_test x) same ∙ test_itself x)

one_or_none : (x y : ℕ × Pair) → ((y ≡ x) × (one_if x y ≡ 1)) ⊎ (one_if x y ≡ 0)
unfolding one_if
one_or_none x y = by_test (same_test x y) refl where
  by_test : (b : Bool) → same_test x y ≡ b → ((y ≡ x) × (one_if x y ≡ 1)) ⊎ (one_if x y ≡ 0)
  by_test true is = inl (sym (same_from_test x y is), ap (λ b. cond b 1 0) is)
  by_test false is = inr (ap (λ b. cond b 1 0) is)

-- the number of places at which the element stands
places_of : ℕ × Pair → List (ℕ × Pair) → ℕ
places_of x xs = sum_by (one_if x) xs

none_of : (x : ℕ × Pair) → places_of x [] ≡ 0
unfolding places_of
none_of x = refl

more_of : (x y : ℕ × Pair) (ys : List (ℕ × Pair)) → places_of x (y ∷ ys) ≡ one_if x y + places_of x ys
unfolding places_of
more_of x y ys = sum_by-cons (one_if x) y ys

-- an element that stands has a place
has_one : (x : ℕ × Pair) (xs : List (ℕ × Pair)) → Has xs x → 1 ≤ places_of x xs
has_one x [] (i, at) = absurd (none_is_not_some x at)
has_one x (y ∷ ys) (zero, at) = omega (arith, more_of x y ys, one_same x y (same_some y x at))
has_one x (y ∷ ys) (suc i, at) = omega (arith, more_of x y ys, has_one x ys (i, at))

-- one that stands twice has two
twice_two : (x : ℕ × Pair) (xs : List (ℕ × Pair)) → IsTwice xs x → 2 ≤ places_of x xs
twice_two x [] (i, j, less, at, bt) = absurd (none_is_not_some x at)
twice_two x (y ∷ ys) (i, zero, less, at, bt) = absurd (omega arith)
twice_two x (y ∷ ys) (zero, suc j, less, at, bt) = omega (arith, more_of x y ys, one_same x y (same_some y x at), has_one x ys (j, bt))
twice_two x (y ∷ ys) (suc i, suc j, less, at, bt) = omega (arith, more_of x y ys, twice_two x ys (i, j, omega arith, at, bt))

-- one with a place stands there
one_has : (x : ℕ × Pair) (xs : List (ℕ × Pair)) → 1 ≤ places_of x xs → Has xs x
one_has x [] some = absurd (omega (arith, none_of x))
one_has x (y ∷ ys) some = by_first (one_or_none x y) (one_has x ys) where
  by_first : ((y ≡ x) × (one_if x y ≡ 1)) ⊎ (one_if x y ≡ 0) → (1 ≤ places_of x ys → Has ys x) → Has (y ∷ ys) x
  by_first (inl same) later = (0, ap (λ z. Some z) same.0)
  by_first (inr other) later = let rest = later (omega (arith, more_of x y ys)) in (suc rest.0, rest.1)

-- and one with two stands twice
two_twice : (x : ℕ × Pair) (xs : List (ℕ × Pair)) → 2 ≤ places_of x xs → IsTwice xs x
two_twice x [] some = absurd (omega (arith, none_of x))
two_twice x (y ∷ ys) some = by_first (one_or_none x y) (two_twice x ys) where
  by_first : ((y ≡ x) × (one_if x y ≡ 1)) ⊎ (one_if x y ≡ 0) → (2 ≤ places_of x ys → IsTwice ys x) → IsTwice (y ∷ ys) x
  by_first (inl same) later =
      let rest = one_has x ys (omega (arith, more_of x y ys, same.1)) in
      (0, suc rest.0, omega arith, ap (λ z. Some z) same.0, rest.1)
  by_first (inr other) later =
      let rest = later (omega (arith, more_of x y ys)) in
      (suc rest.0, suc rest.1, omega (arith, rest.2), rest.3, rest.4)

-- ---- another order

twice_moved : (xs ys : List (ℕ × Pair)) (x : ℕ × Pair) → IsPermutation xs ys → IsTwice xs x → IsTwice ys x
unfolding places_of
twice_moved xs ys x moved twice = two_twice x ys (subst (λ n. 2 ≤ n) (sym (sum_by-IsPermutation (one_if x) xs ys moved)) (twice_two x xs twice))

-- so the least that stands twice stays
pub least_back : (xs ys : List (ℕ × Pair)) (o : Option (ℕ × Pair)) → IsPermutation xs ys → IsLeastTwice ys o → IsLeastTwice xs o
least_back xs ys None moved none = λ x twice. none x (twice_moved xs ys x moved twice)
least_back xs ys (Some x) moved some = (
  twice_moved ys xs x (IsPermutation-sym xs ys moved) some.0,
  λ y twice. some.1 y (twice_moved xs ys y moved twice),
)
