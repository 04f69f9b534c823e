-- Places among the elements that a test keeps, and places of what a function makes of each element.
use Rattle.std.proofs.Common.{ℕ, zero, suc, ◌≡◌, ◌<◌, List, [], ◌∷◌, refl, sym, ap, ◌∙◌, arith, Bool, true, false, cond, Some, slice_get}
use Rattle.std.specs.Prelude.{filter}
use Rattle.version_pair.proofs.ListLemmas.{none_is_not_some, same_some}

-- ---- what a test keeps

-- the element stands at the place of the list, and passes the test
pub record IsKeptAt {X : Type 0} (test : X → Bool) (xs : List X) (k : ℕ) (x : X) : Type 0 where
  pub at : slice_get xs k ≡ Some x
  pub passes : test x ≡ true

-- an element that is kept, with one more in front
kept_next : {X : Type 0} (test : X → Bool) (y : X) (xs : List X) (k : ℕ) (x : X) → IsKeptAt test xs k x → IsKeptAt test (y ∷ xs) (suc k) x
kept_next test y xs k x m = record { at = m.at; passes = m.passes }

-- the first element, where it passes
kept_first : {X : Type 0} (test : X → Bool) (xs : List X) (y x : X) → test y ≡ true → Some y ≡ Some x → IsKeptAt test (y ∷ xs) 0 x
kept_first test xs y x is at = record { at = at; passes = ap test (sym (same_some y x at)) ∙ is }

-- what is kept stands in the list
pub kept_from : {X : Type 0} (test : X → Bool) (xs : List X) (i : ℕ) (x : X) → slice_get (filter test xs) i ≡ Some x → (k : ℕ) × IsKeptAt test xs k x
kept_from test [] i x at = absurd (none_is_not_some x at)
kept_from {X} test (y ∷ ys) i x at = by_test (test y) refl i at (λ j e. kept_from test ys j x e) where
  by_test : (b : Bool) → test y ≡ b → (i : ℕ) → slice_get (cond b (y ∷ filter test ys) (filter test ys)) i ≡ Some x
      → ((j : ℕ) → slice_get (filter test ys) j ≡ Some x → (k : ℕ) × IsKeptAt test ys k x) → (k : ℕ) × IsKeptAt test (y ∷ ys) k x
  by_test true is zero at later = (zero, kept_first test ys y x is at)
  by_test true is (suc i) at later = let m = later i at in (suc m.0, kept_next test y ys m.0 x m.1)
  by_test false is i at later = let m = later i at in (suc m.0, kept_next test y ys m.0 x m.1)

-- and in the same order
pub kept_order : {X : Type 0} (test : X → Bool) (xs : List X) (i j : ℕ) (x z : X) → i < j → slice_get (filter test xs) i ≡ Some x → slice_get (filter test xs) j ≡ Some z
    → (k l : ℕ) × (k < l) × IsKeptAt test xs k x × IsKeptAt test xs l z
kept_order test [] i j x z below at bt = absurd (none_is_not_some x at)
kept_order {X} test (y ∷ ys) i j x z below at bt = by_test (test y) refl i j below at bt (λ a b l p q. kept_order test ys a b x z l p q) where
  by_test : (b : Bool) → test y ≡ b → (i j : ℕ) → i < j → slice_get (cond b (y ∷ filter test ys) (filter test ys)) i ≡ Some x
      → slice_get (cond b (y ∷ filter test ys) (filter test ys)) j ≡ Some z
      → ((m n : ℕ) → m < n → slice_get (filter test ys) m ≡ Some x → slice_get (filter test ys) n ≡ Some z → (k l : ℕ) × (k < l) × IsKeptAt test ys k x × IsKeptAt test ys l z)
      → (k l : ℕ) × (k < l) × IsKeptAt test (y ∷ ys) k x × IsKeptAt test (y ∷ ys) l z
  by_test true is zero zero below at bt later = absurd (omega arith)
  by_test true is zero (suc j) below at bt later =
      let m = kept_from test ys j z bt in
      (zero, suc m.0, (omega arith), kept_first test ys y x is at, kept_next test y ys m.0 z m.1)
  by_test true is (suc i) zero below at bt later = absurd (omega arith)
  by_test true is (suc i) (suc j) below at bt later =
      let m = later i j (omega arith) at bt in let less : m.0 < m.1 = m.2 in
      (suc m.0, suc m.1, (omega arith), kept_next test y ys m.0 x m.3, kept_next test y ys m.1 z m.4)
  by_test false is i j below at bt later =
      let m = later i j below at bt in let less : m.0 < m.1 = m.2 in
      (suc m.0, suc m.1, (omega arith), kept_next test y ys m.0 x m.3, kept_next test y ys m.1 z m.4)

-- ---- what a function makes of each element
