-- Lists by their places: what a permutation keeps, and what a sort says of two places.
use Rattle.std.proofs.Common.{ℕ, zero, suc, ◌≡◌, ◌<◌, ◌≤◌, ◌⊎◌, inl, inr, List, [], ◌∷◌, refl, sym, ap, subst, ◌∙◌, arith, Bool, true, false, Some, slice_get, get_or, eqb, Ordering}
use Rattle.std.specs.Prelude.{IsPermutation, IsSorted, IsTrue, Contains}
use Rattle.std.specs.Cmp.{IsTotalOrder}
use Rattle.std.specs.Ordering.{bool_cmp, nat_cmp, ordering_then, is_lt}
use Rattle.std.specs.declared.cmp.Ordering.TheVariants.{Less, Equal, Greater}
use Rattle.std.specs.List.{IsDistinct}
use Rattle.std.proofs.lemmas.Bool.{eq-eqb, ne_eqb, cases_eq, true≢false}
use Rattle.std.proofs.lemmas.Cmp.{ranked}
use Rattle.std.proofs.lemmas.List.Sorted.{IsPermutation-sym, Contains-permutation, ranks_by, sorted_far}
use Rattle.std.proofs.lemmas.Map.Keys.{IsDistinct-IsPermutation, IsDistinct-from_apart, apart_from_distinct}
use Rattle.std.proofs.lemmas.Option.{get_or_from_slice_get, slice_get-get_or, slice_get_within}
use Rattle.version_pair.proofs.ListLemmas.{compare, none_is_not_some, same_some}

-- the element stands somewhere in the list
abbrev pub Has : {X : Type 0} → List X → X → Type 0
Has xs x = (i : ℕ) × (slice_get xs i ≡ Some x)

has_contains : {X : Type 0} (xs : List X) (x : X) → Has xs x → Contains xs x
has_contains xs x h = (h.0, slice_get_within xs h.0 x h.1, get_or_from_slice_get xs h.0 x x h.1)

contains_has : {X : Type 0} (xs : List X) (x : X) → Contains xs x → Has xs x
contains_has xs x c = (c.0, slice_get-get_or xs c.0 x c.1 ∙ ap (λ y. Some y) c.2)

-- a permutation has the same elements
pub has_moved : {X : Type 0} (xs ys : List X) (x : X) → IsPermutation xs ys → Has xs x → Has ys x
has_moved xs ys x p h = contains_has ys x (Contains-permutation xs ys x p (has_contains xs x h))

pub has_back : {X : Type 0} (xs ys : List X) (x : X) → IsPermutation xs ys → Has ys x → Has xs x
has_back xs ys x p h = has_moved ys xs x (IsPermutation-sym xs ys p) h

-- the key rises along the list
abbrev pub KeyRises : {X : Type 0} → (X → ℕ) → List X → Type 0
KeyRises {X} key xs = (i j : ℕ) (a b : X) → i < j → slice_get xs i ≡ Some a → slice_get xs j ≡ Some b → key a < key b

-- no two places have the same key
abbrev pub KeyOnce : {X : Type 0} → (X → ℕ) → List X → Type 0
KeyOnce {X} key xs = (i j : ℕ) (a b : X) → slice_get xs i ≡ Some a → slice_get xs j ≡ Some b → key a ≡ key b → i ≡ j

same_key : {X : Type 0} (key : X → ℕ) (a b : X) → Bool
same_key key a b = eqb (key a) (key b)

same_flips : {X : Type 0} (key : X → ℕ) (a b : X) → same_key key a b ≡ same_key key b a
unfolding same_key
same_flips key a b = elim (cases_eq (key a) (key b)) as (λ _. eqb (key a) (key b) ≡ eqb (key b) (key a)) [
  | inl same ↦ eq-eqb (key a) (key b) same ∙ sym (eq-eqb (key b) (key a) (sym same))
  | inr other ↦ ne_eqb (key a) (key b) other ∙ sym (ne_eqb (key b) (key a) (λ e. other (sym e)))
]

apart : {X : Type 0} (key : X → ℕ) (xs : List X) → KeyRises key xs → IsDistinct (same_key key) xs
unfolding same_key
apart {X} key xs rises = IsDistinct-from_apart (same_key key) xs (λ i j d less within.
    let up : key (get_or xs i d) < key (get_or xs j d) = rises i j (get_or xs i d) (get_or xs j d) less (slice_get-get_or xs i d (omega arith)) (slice_get-get_or xs j d within) in
    ne_eqb (key (get_or xs i d)) (key (get_or xs j d)) (λ e. omega arith))

-- keys that rise are each once, in whatever order they stand
pub once_moved : {X : Type 0} (key : X → ℕ) (xs ys : List X) → IsPermutation xs ys → KeyRises key xs → KeyOnce key ys
unfolding same_key
once_moved {X} key xs ys p rises i j a b at bt same =
    let distinct = IsDistinct-IsPermutation (same_key key) (same_flips key) xs ys p (apart key xs rises) in
    compare i j (λ less. apart_at distinct i j a b at bt less same) (λ less. apart_at distinct j i b a bt at less (sym same)) where
      apart_at : IsDistinct (same_key key) ys → (k l : ℕ) (x y : X) → slice_get ys k ≡ Some x → slice_get ys l ≡ Some y → k < l → key x ≡ key y → ⊥
      apart_at distinct k l x y ex ey less e =
          let other : eqb (key (get_or ys k x)) (key (get_or ys l x)) ≡ false = apart_from_distinct (same_key key) ys k l x distinct less (slice_get_within ys l y ey) in
          let first : get_or ys k x ≡ x = get_or_from_slice_get ys k x x ex in
          let second : get_or ys l x ≡ y = get_or_from_slice_get ys l y x ey in
          let yes : eqb (key (get_or ys k x)) (key (get_or ys l x)) ≡ true = eq-eqb _ _ (ap key first ∙ (e ∙ ap key (sym second))) in
          true≢false (sym yes ∙ other)

-- ---- what a sort says of two places

pub sorted_at : {X : Type 0} (R : X → X → Ordering) → IsTotalOrder R → (xs : List X) → IsSorted R xs → (i j : ℕ) (a b : X) → i ≤ j → slice_get xs i ≡ Some a
    → slice_get xs j ≡ Some b → is_lt (R b a) ≡ false
sorted_at {X} R total xs up i j a b less at bt =
    let far : is_lt (R (get_or xs j a) (get_or xs i a)) ≡ false = sorted_far (λ x y. is_lt (R x y)) (ranks_by total (λ (x : X). x)) xs up i j a less (slice_get_within xs j b bt) in
    let first : get_or xs i a ≡ a = get_or_from_slice_get xs i a a at in
    let second : get_or xs j a ≡ b = get_or_from_slice_get xs j b a bt in
    subst (λ x. is_lt (R b x) ≡ false) first (subst (λ y. is_lt (R y (get_or xs i a)) ≡ false) second far)

-- a first part, then a second
pub not_below : (x y : ℕ) → is_lt (nat_cmp x y) ≡ false → y ≤ x
not_below x y h = by_order (nat_cmp x y) refl h where
  by_order : (o : Ordering) → o ≡ nat_cmp x y → is_lt o ≡ false → y ≤ x
  by_order Less is unless = absurd (true≢false unless)
  by_order Equal is unless = let same : x ≡ y = ranked x y Equal is in omega arith
  by_order Greater is unless = let above : y < x = ranked x y Greater is in omega arith

pub not_below_then : (x y : ℕ) (p : Ordering) → is_lt (ordering_then (nat_cmp x y) p) ≡ false → (y < x) ⊎ ((y ≡ x) × (is_lt p ≡ false))
not_below_then x y p h = by_order (nat_cmp x y) refl h where
  by_order : (o : Ordering) → o ≡ nat_cmp x y → is_lt (ordering_then o p) ≡ false → (y < x) ⊎ ((y ≡ x) × (is_lt p ≡ false))
  by_order Less is unless = absurd (true≢false unless)
  by_order Equal is unless = inr (sym (ranked x y Equal is), unless)
  by_order Greater is unless = inl (ranked x y Greater is)

-- not below in the whole: not below in the first part
pub then_not : (o p : Ordering) → is_lt (ordering_then o p) ≡ false → is_lt o ≡ false
then_not Less p not = absurd (true≢false not)
then_not Equal p not = refl
then_not Greater p not = refl

-- a flag that isn't below a set one is set
pub flags_up : (x y : Bool) → is_lt (bool_cmp x y) ≡ false → IsTrue y → IsTrue x
flags_up true y not flag = refl
flags_up false true not flag = absurd (true≢false not)
flags_up false false not flag = flag

-- ---- lists that rise

-- each element is below all later ones
abbrev pub RisesBy : {X : Type 0} → (X → X → Type 0) → List X → Type 0
RisesBy {X} Below xs = (i j : ℕ) (a b : X) → i < j → slice_get xs i ≡ Some a → slice_get xs j ≡ Some b → Below a b

-- lists that rise and have the same elements are one
pub same_rising : {X : Type 0} (Below : X → X → Type 0) → ((a b : X) → Below a b → Below b a → ⊥) → (xs ys : List X) → RisesBy Below xs → RisesBy Below ys
    → ((x : X) → Has xs x → Has ys x) → ((x : X) → Has ys x → Has xs x) → xs ≡ ys
same_rising Below not_both [] [] up vp to back = refl
same_rising Below not_both [] (y ∷ ys) up vp to back = absurd (none_is_not_some y (back y (0, refl)).1)
same_rising Below not_both (x ∷ xs) [] up vp to back = absurd (none_is_not_some x (to x (0, refl)).1)
same_rising {X} Below not_both (x ∷ xs) (y ∷ ys) up vp to back =
    let same : x ≡ y = first_same (to x (0, refl)) (back y (0, refl)) in
    let rest : xs ≡ ys = same_rising Below not_both xs ys (λ i j a b less at bt. up (suc i) (suc j) a b (omega arith) at bt) (λ i j a b less at bt. vp (suc i) (suc j) a b (omega arith) at bt)
    (λ c has. to_rest same c has (to c (suc has.0, has.1))) (λ c has. back_rest same c has (back c (suc has.0, has.1))) in
    ap (λ z. z ∷ xs) same ∙ ap (λ zs. y ∷ zs) rest where
      first_same : Has (y ∷ ys) x → Has (x ∷ xs) y → x ≡ y
      first_same (zero, at) (j, bt) = sym (same_some y x at)
      first_same (suc i, at) (zero, bt) = same_some x y bt
      first_same (suc i, at) (suc j, bt) = absurd (not_both y x (vp 0 (suc i) y x (omega arith) refl at) (up 0 (suc j) x y (omega arith) refl bt))

      to_rest : x ≡ y → (c : X) → Has xs c → Has (y ∷ ys) c → Has ys c
      to_rest same c (k, has) (zero, at) =
          let own : Below x x = subst (λ d. Below x d) (sym (same ∙ same_some y c at)) (up 0 (suc k) x c (omega arith) refl has) in absurd (not_both x x own own)
      to_rest same c has (suc i, at) = (i, at)

      back_rest : x ≡ y → (c : X) → Has ys c → Has (x ∷ xs) c → Has xs c
      back_rest same c (k, has) (zero, at) =
          let own : Below y y = subst (λ d. Below y d) (sym (sym same ∙ same_some x c at)) (vp 0 (suc k) y c (omega arith) refl has) in absurd (not_both y y own own)
      back_rest same c has (suc i, at) = (i, at)
