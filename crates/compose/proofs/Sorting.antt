-- Sorting by a key, one element at a time: it keeps each part of the list in whose order the keys never fall.
use Rattle.std.proofs.Common.{ℕ, zero, suc, ◌≡◌, ◌+◌, ◌<◌, ◌≤◌, ◌⊎◌, inl, inr, List, [], ◌∷◌, length, refl, sym, ap, subst, ◌∙◌, arith, Bool, true, false, cond, Some, slice_get}
use Rattle.std.specs.Prelude.{filter}
use Rattle.std.proofs.lemmas.Bool.{cases_lt}
use Rattle.version_pair.proofs.SortedLists.{Has}
use Rattle.version_pair.proofs.ListLemmas.{none_is_not_some, same_some}

-- no key of the list is below m
abbrev pub IsBelowAll : {X : Type 0} → (X → ℕ) → ℕ → List X → Type 0
IsBelowAll key m [] = Unit {0}
IsBelowAll key m (x ∷ xs) = (m ≤ key x) × IsBelowAll key m xs

-- the keys never fall along the list
abbrev pub IsRising : {X : Type 0} → (X → ℕ) → List X → Type 0
IsRising key [] = Unit {0}
IsRising key (x ∷ xs) = IsBelowAll key (key x) xs × IsRising key xs

-- z and what comes later, or x before z
abbrev put : {X : Type 0} {a b : ℕ} → X → X → List X → List X → (a < b) ⊎ (b ≤ a) → List X
put x z zs later (inl below) = z ∷ later
put x z zs later (inr not) = x ∷ z ∷ zs

-- x before the first element whose key is not below its own
abbrev insert : {X : Type 0} → (X → ℕ) → X → List X → List X
insert key x [] = x ∷ []
insert key x (z ∷ zs) = put x z zs (insert key x zs) (cases_lt (key z) (key x))

-- the elements by their keys
pub sort : {X : Type 0} → (X → ℕ) → List X → List X
sort key [] = []
sort key (x ∷ xs) = insert key x (sort key xs)

-- ---- the same elements

-- one more element
insert_length : {X : Type 0} (key : X → ℕ) (x : X) (zs : List X) → length (insert key x zs) ≡ suc (length zs)
insert_length key x [] = refl
insert_length key x (z ∷ zs) = by_case (cases_lt (key z) (key x)) (insert_length key x zs) where
  by_case : (c : (key z < key x) ⊎ (key x ≤ key z)) → length (insert key x zs) ≡ suc (length zs) → length (put x z zs (insert key x zs) c) ≡ suc (suc (length zs))
  by_case (inl below) later = ap suc later
  by_case (inr not) later = refl

-- as many elements
pub sort_length : {X : Type 0} (key : X → ℕ) (xs : List X) → length (sort key xs) ≡ length xs
unfolding sort
sort_length key [] = refl
sort_length key (x ∷ xs) = insert_length key x (sort key xs) ∙ ap suc (sort_length key xs)

-- one more element is counted if it passes the test
pub one_more_passes : {X : Type 0} (test : X → Bool) (x : X) (xs : List X) → length (filter test (x ∷ xs)) ≡ cond (test x) 1 0 + length (filter test xs)
one_more_passes {X} test x xs = by_test (test x) where
  by_test : (b : Bool) → length (cond b (x ∷ filter test xs) (filter test xs)) ≡ cond b 1 0 + length (filter test xs)
  by_test true = omega arith
  by_test false = omega arith

insert_count : {X : Type 0} (key : X → ℕ) (test : X → Bool) (x : X) (zs : List X) → length (filter test (insert key x zs)) ≡ cond (test x) 1 0 + length (filter test zs)
insert_count key test x [] = one_more_passes test x []
insert_count {X} key test x (z ∷ zs) = by_case (cases_lt (key z) (key x)) (insert_count key test x zs) where
  by_case : (c : (key z < key x) ⊎ (key x ≤ key z)) → length (filter test (insert key x zs)) ≡ cond (test x) 1 0 + length (filter test zs)
      → length (filter test (put x z zs (insert key x zs) c)) ≡ cond (test x) 1 0 + length (filter test (z ∷ zs))
  by_case (inl below) later =
      let first = one_more_passes test z (insert key x zs) in
      let second = one_more_passes test z zs in
      omega (arith, first, second, later)
  by_case (inr not) later = one_more_passes test x (z ∷ zs)

-- as many elements pass a test
pub sort_count : {X : Type 0} (key : X → ℕ) (test : X → Bool) (xs : List X) → length (filter test (sort key xs)) ≡ length (filter test xs)
unfolding sort
sort_count key test [] = refl
sort_count key test (x ∷ xs) =
    insert_count key test x (sort key xs) ∙ (ap (λ n. cond (test x) 1 0 + n) (sort_count key test xs) ∙ sym (one_more_passes test x xs))

-- what stands in the list with x is x, or stood there before
inserted : {X : Type 0} (key : X → ℕ) (x : X) (zs : List X) (i : ℕ) (y : X) → slice_get (insert key x zs) i ≡ Some y → (x ≡ y) ⊎ Has zs y
inserted key x [] zero y at = inl (same_some x y at)
inserted key x [] (suc i) y at = absurd (none_is_not_some y at)
inserted {X} key x (z ∷ zs) i y at = by_case (cases_lt (key z) (key x)) i at (λ j bt. inserted key x zs j y bt) where
  further : (x ≡ y) ⊎ Has zs y → (x ≡ y) ⊎ Has (z ∷ zs) y
  further (inl same) = inl same
  further (inr has) = inr (suc has.0, has.1)

  by_case : (c : (key z < key x) ⊎ (key x ≤ key z)) (i : ℕ) → slice_get (put x z zs (insert key x zs) c) i ≡ Some y
      → ((j : ℕ) → slice_get (insert key x zs) j ≡ Some y → (x ≡ y) ⊎ Has zs y) → (x ≡ y) ⊎ Has (z ∷ zs) y
  by_case (inl below) zero at later = inr (0, at)
  by_case (inl below) (suc i) at later = further (later i at)
  by_case (inr not) zero at later = inl (same_some x y at)
  by_case (inr not) (suc i) at later = inr (i, at)

-- what stands in the sorted list stands in the list
pub sorted_from : {X : Type 0} (key : X → ℕ) (xs : List X) (i : ℕ) (y : X) → slice_get (sort key xs) i ≡ Some y → Has xs y
unfolding sort
sorted_from key [] i y at = absurd (none_is_not_some y at)
sorted_from {X} key (x ∷ xs) i y at = by_case (inserted key x (sort key xs) i y at) (λ j bt. sorted_from key xs j y bt) where
  by_case : (x ≡ y) ⊎ Has (sort key xs) y → ((j : ℕ) → slice_get (sort key xs) j ≡ Some y → Has xs y) → Has (x ∷ xs) y
  by_case (inl same) later = (0, ap (λ z. Some z) same)
  by_case (inr has) later = let found = later has.0 has.1 in (suc found.0, found.1)

-- ---- the keys never fall

-- a bound below a bound is one
below_less : {X : Type 0} (key : X → ℕ) (m n : ℕ) (xs : List X) → m ≤ n → IsBelowAll key n xs → IsBelowAll key m xs
below_less key m n [] less below = tt
below_less key m n (x ∷ xs) less below = (let first : n ≤ key x = below.0 in omega arith, below_less key m n xs less below.1)

-- a bound of the list and of x is one with x in it
insert_below : {X : Type 0} (key : X → ℕ) (m : ℕ) (x : X) (zs : List X) → m ≤ key x → IsBelowAll key m zs → IsBelowAll key m (insert key x zs)
insert_below key m x [] less below = (less, tt)
insert_below key m x (z ∷ zs) less below = by_case (cases_lt (key z) (key x)) (insert_below key m x zs less below.1) where
  by_case : (c : (key z < key x) ⊎ (key x ≤ key z)) → IsBelowAll key m (insert key x zs) → IsBelowAll key m (put x z zs (insert key x zs) c)
  by_case (inl c) later = (below.0, later)
  by_case (inr c) later = (less, below)

-- the keys do not fall with x in its place
insert_rising : {X : Type 0} (key : X → ℕ) (x : X) (zs : List X) → IsRising key zs → IsRising key (insert key x zs)
insert_rising key x [] rising = (tt, tt)
insert_rising key x (z ∷ zs) rising = by_case (cases_lt (key z) (key x)) (insert_rising key x zs rising.1) where
  by_case : (c : (key z < key x) ⊎ (key x ≤ key z)) → IsRising key (insert key x zs) → IsRising key (put x z zs (insert key x zs) c)
  by_case (inl c) later = (insert_below key (key z) x zs (omega (arith, c)) rising.0, later)
  by_case (inr c) later = ((c, below_less key (key x) (key z) zs c rising.0), rising)

-- the keys never fall along the sorted list
pub sort_rising : {X : Type 0} (key : X → ℕ) (xs : List X) → IsRising key (sort key xs)
unfolding sort
sort_rising key [] = tt
sort_rising key (x ∷ xs) = insert_rising key x (sort key xs) (sort_rising key xs)

-- the bound holds at each place
below_at : {X : Type 0} (key : X → ℕ) (m : ℕ) (xs : List X) (i : ℕ) (x : X) → IsBelowAll key m xs → slice_get xs i ≡ Some x → m ≤ key x
below_at key m [] i x below at = absurd (none_is_not_some x at)
below_at key m (y ∷ xs) zero x below at = subst (λ z. m ≤ key z) (same_some y x at) below.0
below_at key m (y ∷ xs) (suc i) x below at = below_at key m xs i x below.1 at

-- a key is not above those that stand behind
pub rising_at : {X : Type 0} (key : X → ℕ) (xs : List X) (i j : ℕ) (x y : X) → IsRising key xs → i ≤ j → slice_get xs i ≡ Some x → slice_get xs j ≡ Some y → key x ≤ key y
rising_at key [] i j x y rising less at bt = absurd (none_is_not_some x at)
rising_at key (z ∷ xs) zero zero x y rising less at bt = let same : x ≡ y = same_some x y (sym at ∙ bt) in subst (λ w. key x ≤ key w) same (omega arith)
rising_at key (z ∷ xs) zero (suc j) x y rising less at bt = subst (λ w. key w ≤ key y) (same_some z x at) (below_at key (key z) xs j y rising.0 bt)
rising_at key (z ∷ xs) (suc i) zero x y rising less at bt = absurd (omega (arith, less))
rising_at key (z ∷ xs) (suc i) (suc j) x y rising less at bt = rising_at key xs i j x y rising.1 (omega (arith, less)) at bt

-- ---- parts are kept

-- an element that fails the test changes no part
insert_other : {X : Type 0} (key : X → ℕ) (test : X → Bool) (x : X) (zs : List X) → test x ≡ false → filter test (insert key x zs) ≡ filter test zs
insert_other key test x [] fails = ap (λ b. cond b (x ∷ []) []) fails
insert_other key test x (z ∷ zs) fails = by_case (cases_lt (key z) (key x)) (insert_other key test x zs fails) where
  by_case : (c : (key z < key x) ⊎ (key x ≤ key z)) → filter test (insert key x zs) ≡ filter test zs → filter test (put x z zs (insert key x zs) c) ≡ filter test (z ∷ zs)
  by_case (inl c) later = ap (λ ys. cond (test z) (z ∷ ys) ys) later
  by_case (inr c) later = ap (λ b. cond b (x ∷ filter test (z ∷ zs)) (filter test (z ∷ zs))) fails

-- one that passes it comes first in a part that has no key below its own
insert_first : {X : Type 0} (key : X → ℕ) (test : X → Bool) (x : X) (zs : List X) → test x ≡ true → IsBelowAll key (key x) (filter test zs)
    → filter test (insert key x zs) ≡ x ∷ filter test zs
insert_first key test x [] passes below = ap (λ b. cond b (x ∷ []) []) passes
insert_first {X} key test x (z ∷ zs) passes below = by_case (cases_lt (key z) (key x)) (insert_first key test x zs passes) where
  behind : key z < key x → (b : Bool) → IsBelowAll key (key x) (cond b (z ∷ filter test zs) (filter test zs))
      → (IsBelowAll key (key x) (filter test zs) → filter test (insert key x zs) ≡ x ∷ filter test zs)
      → cond b (z ∷ filter test (insert key x zs)) (filter test (insert key x zs)) ≡ x ∷ cond b (z ∷ filter test zs) (filter test zs)
  behind c true low later = absurd (let first : key x ≤ key z = low.0 in omega (arith, c))
  behind c false low later = later low

  by_case : (c : (key z < key x) ⊎ (key x ≤ key z)) → (IsBelowAll key (key x) (filter test zs) → filter test (insert key x zs) ≡ x ∷ filter test zs)
      → filter test (put x z zs (insert key x zs) c) ≡ x ∷ filter test (z ∷ zs)
  by_case (inl c) later = behind c (test z) below later
  by_case (inr c) later = ap (λ b. cond b (x ∷ filter test (z ∷ zs)) (filter test (z ∷ zs))) passes

-- a part in whose order the keys never fall is the same of the sorted list
pub sort_filter : {X : Type 0} (key : X → ℕ) (test : X → Bool) (xs : List X) → IsRising key (filter test xs) → filter test (sort key xs) ≡ filter test xs
unfolding sort
sort_filter key test [] rising = refl
sort_filter {X} key test (x ∷ xs) rising = by_test (test x) refl rising (sort_filter key test xs) where
  by_test : (b : Bool) → test x ≡ b → IsRising key (cond b (x ∷ filter test xs) (filter test xs)) → (IsRising key (filter test xs) → filter test (sort key xs) ≡ filter test xs)
      → filter test (insert key x (sort key xs)) ≡ cond b (x ∷ filter test xs) (filter test xs)
  by_test true passes rising later =
      let same = later rising.1 in
      insert_first key test x (sort key xs) passes (subst (IsBelowAll key (key x)) (sym same) rising.0) ∙ ap (λ ys. x ∷ ys) same
  by_test false fails rising later = insert_other key test x (sort key xs) fails ∙ later rising
