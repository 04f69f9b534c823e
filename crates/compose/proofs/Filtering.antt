-- The part of a list that passes a test, and the places of its elements.
use Rattle.std.proofs.Common.{ℕ, zero, suc, ◌≡◌, ◌<◌, ◌⊎◌, inl, inr, List, [], ◌∷◌, ◌++◌, map, refl, sym, ap, subst, ◌∙◌, arith, Bool, true, false, cond, Some, slice_get}
use Rattle.std.specs.Prelude.{filter}
use Rattle.version_pair.proofs.SortedLists.{Has}
use Rattle.evidence.proofs.FilterLemmas.{kept_from}
use Rattle.version_pair.proofs.ListLemmas.{compare, none_is_not_some, same_some}

-- ---- all or none

-- where all elements pass, the part is the list
pub filter_all : {X : Type 0} (test : X → Bool) (xs : List X) → ((i : ℕ) (x : X) → slice_get xs i ≡ Some x → test x ≡ true) → filter test xs ≡ xs
filter_all test [] all = refl
filter_all test (x ∷ xs) all = ap (λ b. cond b (x ∷ filter test xs) (filter test xs)) (all 0 x refl) ∙ ap (λ ys. x ∷ ys) (filter_all test xs (λ i y at. all (suc i) y at))

-- where none passes, it is empty
pub filter_none : {X : Type 0} (test : X → Bool) (xs : List X) → ((i : ℕ) (x : X) → slice_get xs i ≡ Some x → test x ≡ false) → filter test xs ≡ []
filter_none test [] none = refl
filter_none test (x ∷ xs) none = ap (λ b. cond b (x ∷ filter test xs) (filter test xs)) (none 0 x refl) ∙ filter_none test xs (λ i y at. none (suc i) y at)

-- the part of what is made of the elements is made of a part
pub filter_made : {X Y : Type 0} (f : X → Y) (test : Y → Bool) (xs : List X) → filter test (map f xs) ≡ map f (filter (λ x. test (f x)) xs)
filter_made f test [] = refl
filter_made {X} {Y} f test (x ∷ xs) = by_test (test (f x)) (filter_made f test xs) where
  by_test : (b : Bool) → filter test (map f xs) ≡ map f (filter (λ x. test (f x)) xs)
      → cond b (f x ∷ filter test (map f xs)) (filter test (map f xs)) ≡ map f (cond b (x ∷ filter (λ x. test (f x)) xs) (filter (λ x. test (f x)) xs))
  by_test true later = ap (λ ys. f x ∷ ys) later
  by_test false later = later

-- what stands in a list after another stands in one of them
pub in_either : {X : Type 0} (xs ys : List X) (i : ℕ) (x : X) → slice_get (xs ++ ys) i ≡ Some x → Has xs x ⊎ Has ys x
in_either [] ys i x at = inr (i, at)
in_either (z ∷ xs) ys zero x at = inl (0, at)
in_either (z ∷ xs) ys (suc i) x at = further (in_either xs ys i x at) where
  further : Has xs x ⊎ Has ys x → Has (z ∷ xs) x ⊎ Has ys x
  further (inl has) = inl (suc has.0, has.1)
  further (inr has) = inr has

-- ---- places

-- how many elements before the place pass the test
abbrev pub rank : {X : Type 0} → (X → Bool) → List X → ℕ → ℕ
rank test [] i = 0
rank test (x ∷ xs) zero = 0
rank test (x ∷ xs) (suc i) = cond (test x) (suc (rank test xs i)) (rank test xs i)

-- an element that passes stands at that place of the part
pub rank_at : {X : Type 0} (test : X → Bool) (xs : List X) (i : ℕ) (x : X) → slice_get xs i ≡ Some x → test x ≡ true → slice_get (filter test xs) (rank test xs i) ≡ Some x
rank_at test [] i x at passes = absurd (none_is_not_some x at)
rank_at test (y ∷ xs) zero x at passes = ap (λ b. slice_get (cond b (y ∷ filter test xs) (filter test xs)) 0) (ap test (same_some y x at) ∙ passes) ∙ at
rank_at {X} test (y ∷ xs) (suc i) x at passes = by_test (test y) (rank_at test xs i x at passes) where
  by_test : (b : Bool) → slice_get (filter test xs) (rank test xs i) ≡ Some x
      → slice_get (cond b (y ∷ filter test xs) (filter test xs)) (cond b (suc (rank test xs i)) (rank test xs i)) ≡ Some x
  by_test true later = later
  by_test false later = later

-- a later place is at a later place of the part
pub rank_rises : {X : Type 0} (test : X → Bool) (xs : List X) (i j : ℕ) (x : X) → i < j → slice_get xs i ≡ Some x → test x ≡ true → rank test xs i < rank test xs j
rank_rises test [] i j x less at passes = absurd (none_is_not_some x at)
rank_rises test (y ∷ xs) i zero x less at passes = absurd (omega (arith, less))
rank_rises test (y ∷ xs) zero (suc j) x less at passes =
    let counted : cond (test y) (suc (rank test xs j)) (rank test xs j) ≡ suc (rank test xs j) =
    ap (λ b. cond b (suc (rank test xs j)) (rank test xs j)) (ap test (same_some y x at) ∙ passes) in
    subst (λ n. 0 < n) (sym counted) (omega arith)
rank_rises {X} test (y ∷ xs) (suc i) (suc j) x less at passes = by_test (test y) (rank_rises test xs i j x (omega (arith, less)) at passes) where
  by_test : (b : Bool) → rank test xs i < rank test xs j → cond b (suc (rank test xs i)) (rank test xs i) < cond b (suc (rank test xs j)) (rank test xs j)
  by_test true later = omega (arith, later)
  by_test false later = later

-- the place in the part determines the place in the list
pub rank_once : {X : Type 0} (test : X → Bool) (xs : List X) (i j : ℕ) (x y : X) → slice_get xs i ≡ Some x → slice_get xs j ≡ Some y → test x ≡ true → test y ≡ true
    → rank test xs i ≡ rank test xs j → i ≡ j
rank_once {X} test xs i j x y at bt passes other same = compare i j (above i j x at passes same) (above j i y bt other (sym same)) where
  above : (k l : ℕ) (z : X) → slice_get xs k ≡ Some z → test z ≡ true → rank test xs k ≡ rank test xs l → k < l → ⊥
  above k l z ct passed e less = let rises : rank test xs k < rank test xs l = rank_rises test xs k l z less ct passed in omega arith

-- what stands in the part stands in the list, and passes
pub part_from : {X : Type 0} (test : X → Bool) (xs : List X) (r : ℕ) (x : X) → slice_get (filter test xs) r ≡ Some x → (i : ℕ) × (slice_get xs i ≡ Some x) × (test x ≡ true)
part_from test xs r x at = let kept = kept_from test xs r x at in (kept.0, kept.1.at, kept.1.passes)

-- an element that passes has a place in the part
pub place_kept : {X : Type 0} (test : X → Bool) (xs : List X) (k : ℕ) (x : X) → slice_get xs k ≡ Some x → test x ≡ true → (i : ℕ) × (slice_get (filter test xs) i ≡ Some x)
place_kept test xs k x at passes = (rank test xs k, rank_at test xs k x at passes)

-- what stands in the part stands at a place of the list that determines its place in the part
pub ranked_from : {X : Type 0} (test : X → Bool) (xs : List X) (r : ℕ) (x : X) → slice_get (filter test xs) r ≡ Some x
    → (i : ℕ) × (slice_get xs i ≡ Some x) × (test x ≡ true) × (rank test xs i ≡ r)
ranked_from test [] r x at = absurd (none_is_not_some x at)
ranked_from {X} test (y ∷ xs) r x at = by_test (test y) refl r at (λ q bt. ranked_from test xs q x bt) where
  by_test : (b : Bool) → test y ≡ b → (r : ℕ) → slice_get (cond b (y ∷ filter test xs) (filter test xs)) r ≡ Some x
      → ((q : ℕ) → slice_get (filter test xs) q ≡ Some x → (i : ℕ) × (slice_get xs i ≡ Some x) × (test x ≡ true) × (rank test xs i ≡ q))
      → (i : ℕ) × (slice_get (y ∷ xs) i ≡ Some x) × (test x ≡ true) × (rank test (y ∷ xs) i ≡ r)
  by_test true is zero at later = (0, at, ap test (sym (same_some y x at)) ∙ is, refl)
  by_test true is (suc r) at later =
      let m = later r at in
      (suc m.0, m.1, m.2, ap (λ b. cond b (suc (rank test xs m.0)) (rank test xs m.0)) is ∙ ap suc m.3)
  by_test false is r at later =
      let m = later r at in
      (suc m.0, m.1, m.2, ap (λ b. cond b (suc (rank test xs m.0)) (rank test xs m.0)) is ∙ m.3)
