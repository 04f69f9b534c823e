-- Places in a list that is made of several lists, one for each element of another.
use Rattle.std.proofs.Common.{ℕ, zero, suc, ◌≡◌, ◌<◌, ◌+◌, ◌++◌, ◌⊎◌, inl, inr, List, [], ◌∷◌, length, refl, ap, ◌∙◌, arith, Some, slice_get}
use Rattle.std.specs.Prelude.{flat_map}
use Rattle.std.proofs.lemmas.Option.{slice_get_within}
use Rattle.version_pair.proofs.ListLemmas.{get_front, none_is_not_some, same_some}

-- ---- one list after another

-- the element stands at a place of the second list, i counted from the first one's start
abbrev IsBehind : {X : Type 0} → List X → List X → ℕ → X → Type 0
IsBehind xs ys i y = (j : ℕ) × (i ≡ length xs + j) × (slice_get ys j ≡ Some y)

-- what stands in two lists stands in the first, or behind it
get_append : {X : Type 0} (xs ys : List X) (i : ℕ) (y : X) → slice_get (xs ++ ys) i ≡ Some y → (slice_get xs i ≡ Some y) ⊎ IsBehind xs ys i y
get_append [] ys i y at = inr (i, (omega arith), at)
get_append (x ∷ xs) ys zero y at = inl at
get_append (x ∷ xs) ys (suc i) y at = further (get_append xs ys i y at) where
  further : (slice_get xs i ≡ Some y) ⊎ IsBehind xs ys i y → (slice_get xs i ≡ Some y) ⊎ IsBehind (x ∷ xs) ys (suc i) y
  further (inl first) = inl first
  further (inr behind) = let place : i ≡ length xs + behind.0 = behind.1 in inr (behind.0, (omega arith), behind.2)

-- an element of the second list stands behind the first
get_behind : {X : Type 0} (xs ys : List X) (j : ℕ) (y : X) → slice_get ys j ≡ Some y → slice_get (xs ++ ys) (length xs + j) ≡ Some y
get_behind [] ys j y at = ap (slice_get ys) (omega arith) ∙ at
get_behind (x ∷ xs) ys j y at = let place : length (x ∷ xs) + j ≡ suc (length xs + j) = omega arith in ap (slice_get (x ∷ (xs ++ ys))) place ∙ get_behind xs ys j y at

-- ---- the places

-- the element y stands at the place a of what is made of the element at i
pub record IsInside {X Y : Type 0} (f : X → List Y) (xs : List X) (i a : ℕ) (y : Y) : Type 0 where
  pub from : X
  pub at : slice_get xs i ≡ Some from
  pub inside : slice_get (f from) a ≡ Some y

-- the place a of the element at i comes before the place b of the element at k
abbrev pub IsBefore : ℕ → ℕ → ℕ → ℕ → Type 0
IsBefore i a k b = (i < k) ⊎ ((i ≡ k) × (a < b))

-- a place inside, with one more element in front
inside_next : {X Y : Type 0} (f : X → List Y) (x : X) (xs : List X) (i a : ℕ) (y : Y) → IsInside f xs i a y → IsInside f (x ∷ xs) (suc i) a y
inside_next f x xs i a y t = record { from = t.from; at = t.at; inside = t.inside }

-- a place inside what is made of the first element
inside_first : {X Y : Type 0} (f : X → List Y) (x : X) (xs : List X) (a : ℕ) (y : Y) → slice_get (f x) a ≡ Some y → IsInside f (x ∷ xs) 0 a y
inside_first f x xs a y at = record { from = x; at = refl; inside = at }

-- what is before stays before with one more element in front of both
before_next : (i a k b : ℕ) → IsBefore i a k b → IsBefore (suc i) a (suc k) b
before_next i a k b (inl less) = inl (omega (arith, less))
before_next i a k b (inr same) = inr (ap suc same.0, same.1)

-- ---- from the whole list

-- what stands in the whole list stands inside
flat_of : {X Y : Type 0} (f : X → List Y) (xs : List X) (m : ℕ) (y : Y) → slice_get (flat_map f xs) m ≡ Some y → (i a : ℕ) × IsInside f xs i a y
flat_of f [] m y at = absurd (none_is_not_some y at)
flat_of {X} {Y} f (x ∷ xs) m y at = by_place (get_append (f x) (flat_map f xs) m y at) (λ j bt. flat_of f xs j y bt) where
  by_place : (slice_get (f x) m ≡ Some y) ⊎ IsBehind (f x) (flat_map f xs) m y → ((j : ℕ) → slice_get (flat_map f xs) j ≡ Some y → (i a : ℕ) × IsInside f xs i a y)
      → (i a : ℕ) × IsInside f (x ∷ xs) i a y
  by_place (inl first) later = (0, m, inside_first f x xs m y first)
  by_place (inr behind) later = let t = later behind.0 behind.2 in (suc t.0, t.1, inside_next f x xs t.0 t.1 y t.2)

-- two elements stand inside, the first before the second
pub record AreInside {X Y : Type 0} (f : X → List Y) (xs : List X) (y z : Y) : Type 0 where
  pub i : ℕ
  pub a : ℕ
  pub k : ℕ
  pub b : ℕ
  pub before : IsBefore i a k b
  pub one : IsInside f xs i a y
  pub other : IsInside f xs k b z

-- and in the same order
pub flat_in_order : {X Y : Type 0} (f : X → List Y) (xs : List X) (m n : ℕ) (y z : Y) → m < n → slice_get (flat_map f xs) m ≡ Some y → slice_get (flat_map f xs) n ≡ Some z
    → AreInside f xs y z
flat_in_order f [] m n y z less at bt = absurd (none_is_not_some y at)
flat_in_order {X} {Y} f (x ∷ xs) m n y z less at bt =
    by_places (get_append (f x) (flat_map f xs) m y at) (get_append (f x) (flat_map f xs) n z bt) (λ j l below ct dt. flat_in_order f xs j l y z below ct dt) where
      by_places : (slice_get (f x) m ≡ Some y) ⊎ IsBehind (f x) (flat_map f xs) m y → (slice_get (f x) n ≡ Some z) ⊎ IsBehind (f x) (flat_map f xs) n z
          → ((j l : ℕ) → j < l → slice_get (flat_map f xs) j ≡ Some y → slice_get (flat_map f xs) l ≡ Some z → AreInside f xs y z) → AreInside f (x ∷ xs) y z
      by_places (inl p) (inl q) later = record { i = 0; a = m; k = 0; b = n; before = inr (refl, less); one = inside_first f x xs m y p; other = inside_first f x xs n z q }
      by_places (inl p) (inr q) later =
          let t = flat_of f xs q.0 z q.2 in
          record { i = 0; a = m; k = suc t.0; b = t.1; before = inl (omega arith); one = inside_first f x xs m y p; other = inside_next f x xs t.0 t.1 z t.2 }
      by_places (inr p) (inl q) later =
          let within : n < length (f x) = slice_get_within (f x) n z q in
          let place : m ≡ length (f x) + p.0 = p.1 in
          absurd (omega arith)
      by_places (inr p) (inr q) later =
          let first : m ≡ length (f x) + p.0 = p.1 in
          let second : n ≡ length (f x) + q.0 = q.1 in
          let t = later p.0 q.0 (omega arith) p.2 q.2 in
          record {
            i = suc t.i;
            a = t.a;
            k = suc t.k;
            b = t.b;
            before = before_next t.i t.a t.k t.b t.before;
            one = inside_next f x xs t.i t.a y t.one;
            other = inside_next f x xs t.k t.b z t.other;
          }

-- ---- from inside

-- where the first element is the one that the place inside is of
first_inside : {X Y : Type 0} (f : X → List Y) (x : X) (xs : List X) (a : ℕ) (y : Y) → IsInside f (x ∷ xs) 0 a y → slice_get (f x) a ≡ Some y
first_inside f x xs a y t = ap (λ c. slice_get (f c) a) (same_some x t.from t.at) ∙ t.inside

-- a place inside behind the first element
next_inside : {X Y : Type 0} (f : X → List Y) (x : X) (xs : List X) (i a : ℕ) (y : Y) → IsInside f (x ∷ xs) (suc i) a y → IsInside f xs i a y
next_inside f x xs i a y t = record { from = t.from; at = t.at; inside = t.inside }

-- what stands inside stands in the whole list
flat_at : {X Y : Type 0} (f : X → List Y) (xs : List X) (i a : ℕ) (y : Y) → IsInside f xs i a y → (m : ℕ) × (slice_get (flat_map f xs) m ≡ Some y)
flat_at f [] i a y t = absurd (none_is_not_some t.from t.at)
flat_at f (x ∷ xs) zero a y t = (a, get_front (f x) (flat_map f xs) a y (first_inside f x xs a y t))
flat_at f (x ∷ xs) (suc i) a y t = let m = flat_at f xs i a y (next_inside f x xs i a y t) in (length (f x) + m.0, get_behind (f x) (flat_map f xs) m.0 y m.1)

-- and in the same order
pub inside_in_order : {X Y : Type 0} (f : X → List Y) (xs : List X) (i a k b : ℕ) (y z : Y) → IsBefore i a k b → IsInside f xs i a y → IsInside f xs k b z
    → (m n : ℕ) × (m < n) × (slice_get (flat_map f xs) m ≡ Some y) × (slice_get (flat_map f xs) n ≡ Some z)
inside_in_order f [] i a k b y z before t u = absurd (none_is_not_some t.from t.at)
inside_in_order f (x ∷ xs) zero a zero b y z (inl less) t u = absurd (omega (arith, less))
inside_in_order f (x ∷ xs) zero a zero b y z (inr same) t u =
    (a, b, same.1, get_front (f x) (flat_map f xs) a y (first_inside f x xs a y t), get_front (f x) (flat_map f xs) b z (first_inside f x xs b z u))
inside_in_order f (x ∷ xs) zero a (suc k) b y z before t u =
    let first : slice_get (f x) a ≡ Some y = first_inside f x xs a y t in
    let within : a < length (f x) = slice_get_within (f x) a y first in
    let n = flat_at f xs k b z (next_inside f x xs k b z u) in
    (a, length (f x) + n.0, omega (arith, within), get_front (f x) (flat_map f xs) a y first, get_behind (f x) (flat_map f xs) n.0 z n.1)
inside_in_order f (x ∷ xs) (suc i) a zero b y z (inl less) t u = absurd (omega (arith, less))
inside_in_order f (x ∷ xs) (suc i) a zero b y z (inr same) t u = let other : suc i ≡ 0 = same.0 in absurd (omega (arith, other))
inside_in_order f (x ∷ xs) (suc i) a (suc k) b y z before t u =
    let r = inside_in_order f xs i a k b y z (before_last i a k b before) (next_inside f x xs i a y t) (next_inside f x xs k b z u) in
    let less : r.0 < r.1 = r.2 in
    (length (f x) + r.0, length (f x) + r.1, omega (arith, less), get_behind (f x) (flat_map f xs) r.0 y r.3, get_behind (f x) (flat_map f xs) r.1 z r.4) where
      before_last : (i a k b : ℕ) → IsBefore (suc i) a (suc k) b → IsBefore i a k b
      before_last i a k b (inl less) = inl (omega (arith, less))
      before_last i a k b (inr same) = let equal : suc i ≡ suc k = same.0 in inr (omega (arith, equal), same.1)
