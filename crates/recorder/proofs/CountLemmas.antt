-- How often a number is among others, as a sum.
use Rattle.std.proofs.Common.{ℕ, zero, suc, ◌≡◌, ◌+◌, ◌<◌, ◌≤◌, List, [], ◌∷◌, ◌++◌, length, refl, sym, ap, ◌∙◌, arith, add-zero, Some, slice_get, get_or, Bool, true, false, eq-eqb, ne_eqb, ◌≢◌, add-one, one-add, subst, All}
use Rattle.std.specs.Prelude.{◌==◌, map, nat_lt}
use Rattle.std.specs.List.{range_with_len, sum_by}
use Rattle.std.proofs.lemmas.Bool.{eqb-true, ltb-false, ltb-true, true_from_ne_false}
use Rattle.std.proofs.lemmas.List.FromFn.{get_or-range_with_len, length-range_with_len}
use Rattle.std.proofs.lemmas.List.Sums.{sum_by-cons, get_or-le-sum_by}
use Rattle.std.proofs.lemmas.Option.{slice_get-get_or, get_or_from_slice_get, slice_get_within}
use Rattle.recorder.specs.Clock.{numbers_below, one_if}
use Rattle.std.proofs.lemmas.List.Folds.{fold-map}
use Rattle.std.proofs.lemmas.List.Recursion.{is_sum_by}
use Rattle.std.proofs.lemmas.List.Elements.{All-from_get_or}

-- 1 for this number, 0 for each other
abbrev pub one_for : ℕ → ℕ → ℕ
one_for m n = one_if (n == m)

pub one_for_itself : (m : ℕ) → one_for m m ≡ 1
one_for_itself m = ap one_if (eq-eqb m m refl)

pub is_the_one : (m n : ℕ) → 0 < one_for m n → n ≡ m
is_the_one m n some = eqb-true n m (true_from_ne_false (n == m) (λ other. (let none : one_if (n == m) ≡ 0 = ap one_if other in omega arith)))

-- ---- sums

pub sum_map : {X : Type 0} (f : ℕ → ℕ) (g : X → ℕ) (xs : List X) → sum_by f (map g xs) ≡ sum_by (λ x. f (g x)) xs
sum_map f g xs = fold-map (λ s n. s + f n) g 0 xs

pub sum_ones : {X : Type 0} (xs : List X) → sum_by (λ _. 1) xs ≡ length xs
sum_ones xs = sym (is_sum_by length (λ _. 1) refl (λ x rest. sym (one-add (length rest))) xs)

pub sum_of_one : {X : Type 0} (f : X → ℕ) (xs : List X) (k : ℕ) (x : X) → slice_get xs k ≡ Some x → f x ≤ sum_by f xs
sum_of_one f xs k x at =
    let value : f (get_or xs k x) ≡ f x = ap f (get_or_from_slice_get xs k x x at) in
    omega (arith, value, get_or-le-sum_by f xs k x (slice_get_within xs k x at))

pub has_one : {X : Type 0} (f : X → ℕ) (xs : List X) → 0 < sum_by f xs → (k : ℕ) × (x : X) × (slice_get xs k ≡ Some x) × (0 < f x)
has_one f [] some = absurd (omega arith)
has_one f (y ∷ ys) some = by_test (nat_lt 0 (f y)) refl (has_one f ys) where
  by_test : (b : Bool) → nat_lt 0 (f y) ≡ b → (0 < sum_by f ys → (k : ℕ) × (x : _) × (slice_get ys k ≡ Some x) × (0 < f x)) → (k : ℕ) × (x : _) × (slice_get (y ∷ ys) k ≡ Some x) × (0 < f x)
  by_test true is later = (0, y, refl, ltb-true 0 (f y) is)
  by_test false is later =
      let none : f y ≤ 0 = ltb-false 0 (f y) is in
      let cons = sum_by-cons f y ys in
      let rest = later (let more : 0 < sum_by f ys = omega arith in more) in
      (suc rest.0, rest.1, rest.2, rest.3)

-- ---- numbers in a row

pub none_elsewhere : (m a n : ℕ) → ((i : ℕ) → i < n → a + i ≢ m) → sum_by (one_for m) (range_with_len a n) ≡ 0
none_elsewhere m a zero apart = refl
none_elsewhere m a (suc n) apart =
    let other : one_for m a ≡ 0 = ap one_if (ne_eqb a m (λ same. apart 0 (omega arith) (omega arith))) in
    let rest = none_elsewhere m (a + 1) n (λ i within same. apart (suc i) (omega arith) (omega arith)) in
    let cons = sum_by-cons (one_for m) a (range_with_len (a + 1) n) in omega arith

pub once_at_most : (m a n : ℕ) → sum_by (one_for m) (range_with_len a n) ≤ 1
once_at_most m a zero = let nothing : sum_by (one_for m) [] ≡ 0 = refl in omega arith
once_at_most m a (suc n) = by_test (a == m) refl (sum_by-cons (one_for m) a (range_with_len (a + 1) n)) (once_at_most m (a + 1) n) where
  by_test : (b : Bool) → (a == m) ≡ b → sum_by (one_for m) (a ∷ range_with_len (a + 1) n) ≡ one_if (a == m) + sum_by (one_for m) (range_with_len (a + 1) n)
      → sum_by (one_for m) (range_with_len (a + 1) n) ≤ 1 → sum_by (one_for m) (a ∷ range_with_len (a + 1) n) ≤ 1
  by_test true is cons later =
      let same : a ≡ m = eqb-true a m is in
      let one : one_if (a == m) ≡ 1 = ap one_if is in
      let rest = none_elsewhere m (a + 1) n (λ i within at. omega arith) in omega arith
  by_test false is cons later =
      let none : one_if (a == m) ≡ 0 = ap one_if is in
      omega arith

pub below_there : (m n : ℕ) → m < n → 1 ≤ sum_by (one_for m) (numbers_below n)
below_there m n less =
    let count : length (numbers_below n) ≡ n = length-range_with_len 0 n in
    let read : slice_get (numbers_below n) m ≡ Some (get_or (numbers_below n) m 0) = slice_get-get_or (numbers_below n) m 0 (let within : m < length (numbers_below n) = omega arith in within) in
    let value : get_or (numbers_below n) m 0 ≡ m = get_or-range_with_len 0 n m 0 less ∙ (let first : 0 + m ≡ m = omega arith in first) in
    let there = sum_of_one (one_for m) (numbers_below n) m m (read ∙ ap (λ (k : ℕ). Some k) value) in
    let one = one_for_itself m in omega arith

pub range_split : (a x y : ℕ) → range_with_len a (x + y) ≡ range_with_len a x ++ range_with_len (a + x) y
range_split a zero y = ap (λ k. range_with_len a k) (let all : 0 + y ≡ y = omega arith in all) ∙ ap (λ k. range_with_len k y) (sym (add-zero a))
range_split a (suc x) y = ap (λ k. range_with_len a k) (let one : suc x + y ≡ suc (x + y) = omega arith in one) ∙ ap (λ rest. a ∷ rest) (range_split (a + 1) x y ∙ ap (λ k. range_with_len (a + 1) x ++ range_with_len k y) (let moved : (a + 1) + x ≡ a + suc x = omega arith in moved))

pub range_more : (a n : ℕ) → range_with_len a (suc n) ≡ range_with_len a n ++ (a + n) ∷ []
range_more a n = ap (range_with_len a) (sym (add-one n)) ∙ range_split a n 1

-- what is true of each number in a row
pub all_in_row : (P : ℕ → Type 0) (a n : ℕ) → ((i : ℕ) → i < n → P (a + i)) → All P (range_with_len a n)
all_in_row P a n each = All-from_get_or P (range_with_len a n) 0 (λ i within.
    let less : i < n = omega (arith, within, length-range_with_len a n) in
    subst P (sym (get_or-range_with_len a n i 0 less)) (each i less))
