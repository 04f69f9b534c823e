-- Places of a list: that each has an element, and the first at which a test passes.
use Rattle.std.proofs.Common.{ℕ, zero, suc, ◌≡◌, ◌+◌, List, [], ◌∷◌, refl, sym, ap, subst, ◌∙◌, arith, Bool, true, false, Some, None, slice_get, cond}
use Rattle.std.specs.Prelude.{position}
use Rattle.std.specs.List.{position_from}
use Rattle.std.proofs.lemmas.Iterator.Adapters.{position_from-zero}
use Rattle.version_pair.proofs.ListLemmas.{none_is_not_some, same_some}

-- the element at a place passes the test
pub record PassesThere {X : Type 0} (test : X → Bool) (xs : List X) (k : ℕ) : Type 0 where
  pub element : X
  pub at : slice_get xs k ≡ Some element
  pub passes : test element ≡ true

found_from : {X : Type 0} (test : X → Bool) (i : ℕ) (xs : List X) (k : ℕ) → position_from test i xs ≡ Some k → (j : ℕ) × (k ≡ i + j) × PassesThere test xs j
found_from test i [] k is = absurd (none_is_not_some k is)
found_from {X} test i (x ∷ xs) k is = by_test (test x) refl is (found_from test (i + 1) xs k) where
  by_test : (b : Bool) → test x ≡ b → cond b (Some i) (position_from test (i + 1) xs) ≡ Some k
      → (position_from test (i + 1) xs ≡ Some k → (j : ℕ) × (k ≡ i + 1 + j) × PassesThere test xs j) → (j : ℕ) × (k ≡ i + j) × PassesThere test (x ∷ xs) j
  by_test true passes found later = let same : i ≡ k = same_some i k found in (0, omega arith, record { element = x; at = refl; passes = passes })
  by_test false fails found later =
      let rest = later found in
      let far : k ≡ i + 1 + rest.0 = rest.1 in
      (suc rest.0, omega arith, record { element = rest.2.element; at = rest.2.at; passes = rest.2.passes })

none_from : {X : Type 0} (test : X → Bool) (i : ℕ) (xs : List X) (k : ℕ) (x : X) → position_from test i xs ≡ None → slice_get xs k ≡ Some x → test x ≡ false
none_from test i [] k x is at = absurd (none_is_not_some x at)
none_from {X} test i (y ∷ ys) k x is at = by_test (test y) refl is k at (λ j bt none. none_from test (i + 1) ys j x none bt) where
  by_test : (b : Bool) → test y ≡ b → cond b (Some i) (position_from test (i + 1) ys) ≡ None → (k : ℕ) → slice_get (y ∷ ys) k ≡ Some x
      → ((j : ℕ) → slice_get ys j ≡ Some x → position_from test (i + 1) ys ≡ None → test x ≡ false) → test x ≡ false
  by_test true passes found k at later = absurd (none_is_not_some i (sym found))
  by_test false fails found zero at later = ap test (sym (same_some y x at)) ∙ fails
  by_test false fails found (suc k) at later = later k at found

-- a place that is found passes the test
pub position_found : {X : Type 0} (test : X → Bool) (xs : List X) (k : ℕ) → position test xs ≡ Some k → PassesThere test xs k
position_found test xs k is =
    let found = found_from test 0 xs k (sym (position_from-zero test xs) ∙ is) in
    let same : found.0 ≡ k = let far : k ≡ 0 + found.0 = found.1 in omega arith in
    subst (PassesThere test xs) same found.2

-- where none is found, no element passes it
pub position_none : {X : Type 0} (test : X → Bool) (xs : List X) (k : ℕ) (x : X) → position test xs ≡ None → slice_get xs k ≡ Some x → test x ≡ false
position_none test xs k x is at = none_from test 0 xs k x (sym (position_from-zero test xs) ∙ is) at
