-- Elements of lists by their places.
use Rattle.std.proofs.Common.{ℕ, zero, suc, ◌≡◌, ◌≢◌, ◌⊎◌, inl, inr, List, [], ◌∷◌, ◌++◌, length, refl, ap, arith, Some, slice_get, slice_set, take}
use Rattle.std.proofs.Math.Seq.{take-append_seam}

-- a list without elements
pub empty-from_length : {X : Type 0} (xs : List X) → length xs ≡ 0 → xs ≡ []
empty-from_length [] none = refl
empty-from_length (x ∷ xs) none = absurd (omega arith)

-- an element stays where it is as others come behind it
pub get-before : {X : Type 0} (xs ys : List X) (x : X) (i : ℕ) → slice_get xs i ≡ Some x → slice_get (xs ++ ys) i ≡ Some x
get-before [] ys x i at = absurd (cc)
get-before (z ∷ xs) ys x zero at = at
get-before (z ∷ xs) ys x (suc i) at = get-before xs ys x i at

-- the last element
pub get-last : {X : Type 0} (xs : List X) (x : X) (ys : List X) → slice_get (xs ++ x ∷ ys) (length xs) ≡ Some x
get-last [] x ys = refl
get-last (z ∷ xs) x ys = get-last xs x ys

-- an element of a list in which one was replaced
pub get-set : {X : Type 0} (xs : List X) (d : ℕ) (v y : X) (i : ℕ) → slice_get (slice_set xs d v) i ≡ Some y
    → ((i ≡ d) × (v ≡ y)) ⊎ ((i ≢ d) × (slice_get xs i ≡ Some y))
get-set [] d v y i at = absurd (cc)
get-set (z ∷ xs) zero v y zero at = inl (refl, cc)
get-set (z ∷ xs) zero v y (suc i) at = inr (λ e. absurd (omega arith), at)
get-set (z ∷ xs) (suc d) v y zero at = inr (λ e. absurd (omega arith), at)
get-set (z ∷ xs) (suc d) v y (suc i) at =
    elim (get-set xs d v y i at) [ inl here ↦ inl (ap suc here.0, here.1) | inr other ↦ inr (λ e. other.0 (omega arith), other.1) ]

-- writing back a list of the same length
pub written-back : {X : Type 0} (n : ℕ) (xs ys : List X) → n ≡ length xs → take n (xs ++ ys) ≡ xs
written-back n xs ys is = rw is (take-append_seam xs ys)
