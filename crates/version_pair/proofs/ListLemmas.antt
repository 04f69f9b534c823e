-- Places in lists, as every crate above needs them.
use Rattle.std.proofs.Common.{ℕ, zero, suc, ◌≡◌, ◌<◌, List, [], ◌∷◌, ◌++◌, length, map, take, refl, sym, inl, inr, arith, Some, None, slice_get, ◌⊎◌, Option, ap, ◌∙◌}
use Rattle.std.specs.Prelude.{filter_map, option_map, set}
use Rattle.std.specs.List.{cons_option}
use Rattle.std.proofs.lemmas.Bool.{cases_lt}
use Rattle.std.proofs.lemmas.Option.{slice_get-map}

pub none_is_not_some : {X : Type 0} (x : X) → None ≡ Some x → ⊥
none_is_not_some x h = cc

pub same_some : {X : Type 0} (x y : X) → Some x ≡ Some y → x ≡ y
same_some x y h = cc

-- two places neither of which is below the other
pub compare : (i j : ℕ) → (i < j → ⊥) → (j < i → ⊥) → i ≡ j
compare i j f g = elim (cases_lt i j) as (λ _. i ≡ j) [ inl below ↦ absurd (f below) | inr b ↦ elim (cases_lt j i) as (λ _. i ≡ j) [ inl below ↦ absurd (g below) | inr e ↦ (omega arith) ] ]

-- at each place within a list something stands
pub get_within : {X : Type 0} (xs : List X) (i : ℕ) → i < length xs → (x : X) × (slice_get xs i ≡ Some x)
get_within [] i below = absurd (omega arith)
get_within (x ∷ xs) zero below = (x, refl)
get_within (x ∷ xs) (suc i) below = get_within xs i (omega arith)

-- what stands at a place stands there still when the list goes on
pub get_front : {X : Type 0} (xs ys : List X) (i : ℕ) (y : X) → slice_get xs i ≡ Some y → slice_get (xs ++ ys) i ≡ Some y
get_front [] ys i y h = let impossible : None ≡ Some y = h in cc
get_front (x ∷ xs) ys zero y h = h
get_front (x ∷ xs) ys (suc i) y h = get_front xs ys i y h

-- an element that is added stands at the end
pub get_last : {X : Type 0} (xs : List X) (x : X) → slice_get (xs ++ x ∷ []) (length xs) ≡ Some x
get_last [] x = refl
get_last (y ∷ xs) x = get_last xs x

-- an element stands behind what is before it
pub get_middle : {X : Type 0} (xs ys : List X) (x : X) → slice_get (xs ++ x ∷ ys) (length xs) ≡ Some x
get_middle [] ys x = refl
get_middle (y ∷ xs) ys x = get_middle xs ys x

-- what stands at a place of the front
pub get_of_front : {X : Type 0} (xs ys : List X) (i : ℕ) (x : X) → i < length xs → slice_get (xs ++ ys) i ≡ Some x → slice_get xs i ≡ Some x
get_of_front [] ys i x below at = absurd (omega arith)
get_of_front (y ∷ xs) ys zero x below at = at
get_of_front (y ∷ xs) ys (suc i) x below at = get_of_front xs ys i x (omega arith) at

-- what stands in a list with one more element is an old element or the last
pub get_snoc : {X : Type 0} (xs : List X) (x y : X) (i : ℕ) → slice_get (xs ++ x ∷ []) i ≡ Some y → (slice_get xs i ≡ Some y) ⊎ ((i ≡ length xs) × (x ≡ y))
get_snoc [] x y zero h = inr (refl, (let same : Some x ≡ Some y = h in cc))
get_snoc [] x y (suc i) h = let impossible : None ≡ Some y = h in cc
get_snoc (z ∷ xs) x y zero h = inl h
get_snoc (z ∷ xs) x y (suc i) h = elim (get_snoc xs x y i h) [ inl old ↦ inl old | inr new ↦ inr ((let e : i ≡ length xs = new.0 in omega arith), new.1) ]

-- ---- the first elements

-- what stands at a place of the first n elements stands there in the list, below n
pub get_take : {X : Type 0} (xs : List X) (n i : ℕ) (x : X) → slice_get (take n xs) i ≡ Some x → (slice_get xs i ≡ Some x) × (i < n)
get_take [] zero i x at = absurd (none_is_not_some x at)
get_take [] (suc n) i x at = absurd (none_is_not_some x at)
get_take (y ∷ xs) zero i x at = absurd (none_is_not_some x at)
get_take (y ∷ xs) (suc n) zero x at = (at, omega arith)
get_take (y ∷ xs) (suc n) (suc i) x at = let rest = get_take xs n i x at in (rest.0, let less : i < n = rest.1 in omega arith)

pub take_get : {X : Type 0} (xs : List X) (n i : ℕ) (x : X) → i < n → slice_get xs i ≡ Some x → slice_get (take n xs) i ≡ Some x
take_get xs zero i x below at = absurd (omega arith)
take_get [] (suc n) i x below at = at
take_get (y ∷ xs) (suc n) zero x below at = at
take_get (y ∷ xs) (suc n) (suc i) x below at = take_get xs n i x (omega arith) at

-- the first elements, with the next one
pub take_one_more : {X : Type 0} (xs : List X) (i : ℕ) (x : X) → slice_get xs i ≡ Some x → take (suc i) xs ≡ take i xs ++ x ∷ []
take_one_more [] i x at = absurd (none_is_not_some x at)
take_one_more (y ∷ xs) zero x at = ap (λ z. z ∷ []) (same_some y x at)
take_one_more (y ∷ xs) (suc i) x at = ap (λ ys. y ∷ ys) (take_one_more xs i x at)

-- ---- places among what a test keeps

-- the element at a place of the list, of which y is made
pub record IsMadeAt {X Y : Type 0} (f : X → Option Y) (xs : List X) (k : ℕ) (y : Y) : Type 0 where
  pub from : X
  pub at : slice_get xs k ≡ Some from
  pub made : f from ≡ Some y

made_next : {X Y : Type 0} (f : X → Option Y) (x : X) (xs : List X) (k : ℕ) (y : Y) → IsMadeAt f xs k y → IsMadeAt f (x ∷ xs) (suc k) y
made_next f x xs k y m = record { from = m.from; at = m.at; made = m.made }

-- what stands in the kept list is made of an element
pub made_of : {X Y : Type 0} (f : X → Option Y) (xs : List X) (i : ℕ) (y : Y) → slice_get (filter_map f xs) i ≡ Some y → (k : ℕ) × IsMadeAt f xs k y
made_of f [] i y at = absurd (none_is_not_some y at)
made_of {X} {Y} f (x ∷ xs) i y at = by_image (f x) refl i at (λ j e. made_of f xs j y e) where
  by_image : (o : Option Y) → f x ≡ o → (i : ℕ) → slice_get (cons_option o (filter_map f xs)) i ≡ Some y
      → ((j : ℕ) → slice_get (filter_map f xs) j ≡ Some y → (k : ℕ) × IsMadeAt f xs k y) → (k : ℕ) × IsMadeAt f (x ∷ xs) k y
  by_image None is i at later = let m = later i at in (suc m.0, made_next f x xs m.0 y m.1)
  by_image (Some z) is zero at later = (zero, record { from = x; at = refl; made = is ∙ at })
  by_image (Some z) is (suc i) at later = let m = later i at in (suc m.0, made_next f x xs m.0 y m.1)

-- and in the order of the elements
pub made_in_order : {X Y : Type 0} (f : X → Option Y) (xs : List X) (i j : ℕ) (y z : Y) → i < j → slice_get (filter_map f xs) i ≡ Some y → slice_get (filter_map f xs) j ≡ Some z
    → (k l : ℕ) × (k < l) × IsMadeAt f xs k y × IsMadeAt f xs l z
made_in_order f [] i j y z below at bt = absurd (none_is_not_some y at)
made_in_order {X} {Y} f (x ∷ xs) i j y z below at bt = by_image (f x) refl i j below at bt (λ a b l p q. made_in_order f xs a b y z l p q) where
  by_image : (o : Option Y) → f x ≡ o → (i j : ℕ) → i < j → slice_get (cons_option o (filter_map f xs)) i ≡ Some y → slice_get (cons_option o (filter_map f xs)) j ≡ Some z
      → ((a b : ℕ) → a < b → slice_get (filter_map f xs) a ≡ Some y → slice_get (filter_map f xs) b ≡ Some z → (k l : ℕ) × (k < l) × IsMadeAt f xs k y × IsMadeAt f xs l z)
      → (k l : ℕ) × (k < l) × IsMadeAt f (x ∷ xs) k y × IsMadeAt f (x ∷ xs) l z
  by_image None is i j below at bt later =
      let m = later i j below at bt in let less : m.0 < m.1 = m.2 in
      (suc m.0, suc m.1, (omega arith), made_next f x xs m.0 y m.3, made_next f x xs m.1 z m.4)
  by_image (Some w) is zero zero below at bt later = absurd (omega arith)
  by_image (Some w) is zero (suc j) below at bt later =
      let m = made_of f xs j z bt in
      (zero, suc m.0, (omega arith), record { from = x; at = refl; made = is ∙ at }, made_next f x xs m.0 z m.1)
  by_image (Some w) is (suc i) zero below at bt later = absurd (omega arith)
  by_image (Some w) is (suc i) (suc j) below at bt later =
      let m = later i j (omega arith) at bt in let less : m.0 < m.1 = m.2 in
      (suc m.0, suc m.1, (omega arith), made_next f x xs m.0 y m.3, made_next f x xs m.1 z m.4)

-- an element that is kept has a place
pub kept_at : {X Y : Type 0} (f : X → Option Y) (xs : List X) (k : ℕ) (x : X) (y : Y) → slice_get xs k ≡ Some x → f x ≡ Some y → (i : ℕ) × (slice_get (filter_map f xs) i ≡ Some y)
kept_at f [] k x y at made = absurd (none_is_not_some x at)
kept_at f (w ∷ xs) zero x y at made = (zero, ap (λ o. slice_get (cons_option o (filter_map f xs)) zero) (ap f (same_some w x at) ∙ made))
kept_at {X} {Y} f (w ∷ xs) (suc k) x y at made = by_image (f w) (kept_at f xs k x y at made) where
  by_image : (o : Option Y) → (i : ℕ) × (slice_get (filter_map f xs) i ≡ Some y) → (i : ℕ) × (slice_get (cons_option o (filter_map f xs)) i ≡ Some y)
  by_image None later = later
  by_image (Some v) later = (suc later.0, later.1)

-- and the places keep the order of the elements
pub kept_in_order : {X Y : Type 0} (f : X → Option Y) (xs : List X) (k l : ℕ) (w x : X) (y z : Y) → k < l → slice_get xs k ≡ Some w → slice_get xs l ≡ Some x
    → f w ≡ Some y → f x ≡ Some z → (i j : ℕ) × (i < j) × (slice_get (filter_map f xs) i ≡ Some y) × (slice_get (filter_map f xs) j ≡ Some z)
kept_in_order f [] k l w x y z below at bt made other = absurd (none_is_not_some w at)
kept_in_order f (v ∷ xs) zero zero w x y z below at bt made other = absurd (omega arith)
kept_in_order f (v ∷ xs) zero (suc l) w x y z below at bt made other =
    let later = kept_at f xs l x z bt other in
    let here : f v ≡ Some y = ap f (same_some v w at) ∙ made in
    (zero, suc later.0, (omega arith), ap (λ o. slice_get (cons_option o (filter_map f xs)) zero) here, ap (λ o. slice_get (cons_option o (filter_map f xs)) (suc later.0)) here ∙ later.1)
kept_in_order f (v ∷ xs) (suc k) zero w x y z below at bt made other = absurd (omega arith)
kept_in_order {X} {Y} f (v ∷ xs) (suc k) (suc l) w x y z below at bt made other = by_image (f v) (kept_in_order f xs k l w x y z (omega arith) at bt made other) where
  by_image : (o : Option Y) → (i j : ℕ) × (i < j) × (slice_get (filter_map f xs) i ≡ Some y) × (slice_get (filter_map f xs) j ≡ Some z)
      → (i j : ℕ) × (i < j) × (slice_get (cons_option o (filter_map f xs)) i ≡ Some y) × (slice_get (cons_option o (filter_map f xs)) j ≡ Some z)
  by_image None later = later
  by_image (Some u) later = let less : later.0 < later.1 = later.2 in (suc later.0, suc later.1, (omega arith), later.3, later.4)

-- what a mapped element is made of
pub mapped_from : {X Y : Type 0} (f : X → Y) (xs : List X) (i : ℕ) (y : Y) → slice_get (map f xs) i ≡ Some y → (x : X) × (slice_get xs i ≡ Some x) × (f x ≡ y)
mapped_from {X} {Y} f xs i y at = by_option (slice_get xs i) refl (sym (slice_get-map f xs i) ∙ at) where
  by_option : (o : Option X) → slice_get xs i ≡ o → option_map f o ≡ Some y → (x : X) × (slice_get xs i ≡ Some x) × (f x ≡ y)
  by_option None is made = absurd (none_is_not_some y made)
  by_option (Some x) is made = (x, is, same_some (f x) y made)

-- ---- one element is set

-- it stands there
pub slice_get-set_same : {X : Type 0} (xs : List X) (k : ℕ) (x : X) → k < length xs → slice_get (set xs k x) k ≡ Some x
slice_get-set_same [] k x within = absurd (omega arith)
slice_get-set_same (y ∷ xs) zero x within = refl
slice_get-set_same (y ∷ xs) (suc k) x within = slice_get-set_same xs k x (omega arith)

-- elsewhere stands what stood there
pub slice_get-set_other : {X : Type 0} (xs : List X) (k j : ℕ) (x : X) → (j ≡ k → ⊥) → slice_get (set xs k x) j ≡ slice_get xs j
slice_get-set_other [] k j x other = refl
slice_get-set_other (y ∷ xs) zero zero x other = absurd (other refl)
slice_get-set_other (y ∷ xs) zero (suc j) x other = refl
slice_get-set_other (y ∷ xs) (suc k) zero x other = refl
slice_get-set_other (y ∷ xs) (suc k) (suc j) x other = slice_get-set_other xs k j x (λ same. other (ap suc same))

-- what stands there is the one that was set, or as before
pub from_set : {X : Type 0} (xs : List X) (k j : ℕ) (x y : X) → slice_get (set xs k x) j ≡ Some y → ((j ≡ k) × (y ≡ x)) ⊎ ((j ≡ k → ⊥) × (slice_get xs j ≡ Some y))
from_set [] k j x y at = absurd (none_is_not_some y at)
from_set (z ∷ zs) zero zero x y at = inl (refl, sym (same_some x y at))
from_set (z ∷ zs) zero (suc j) x y at = inr ((λ same. absurd (omega arith)), at)
from_set (z ∷ zs) (suc k) zero x y at = inr ((λ same. absurd (omega arith)), at)
from_set (z ∷ zs) (suc k) (suc j) x y at = elim (from_set zs k j x y at) [ inl here ↦ inl (ap suc here.0, here.1) | inr there ↦ inr ((λ same. there.0 (omega arith)), there.1) ]
