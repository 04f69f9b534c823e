-- Tests of all elements of a list, and lists of which one element is set.
use Rattle.std.proofs.Common.{ℕ, zero, suc, ◌≡◌, ◌≤◌, List, [], ◌∷◌, get_or, length, refl, sym, ap, ◌∙◌, arith, Some, None, Bool, true, false}
use Rattle.std.specs.Prelude.{◌||◌, cond, count_by, map, nat_lt, not, option_map, replicate, slice_get, slice_set, unwrap_or}
use Rattle.std.specs.List.{list_all, list_any, position, position_or_len}
use Rattle.std.proofs.lemmas.Bool.{false≢true, false_from_ne_true, ltb-false}
use Rattle.std.proofs.lemmas.List.{map-set, set-get_or}
use Rattle.std.proofs.lemmas.List.Folds.{list_all_at, list_any_at, list_any_none}
use Rattle.std.proofs.lemmas.List.Recursion.{or_set}
use Rattle.std.proofs.lemmas.List.Sums.{AllPass-from_list_all, get_or-le-sum_by, prefix_len-le-length, sum_by-set}
use Rattle.std.proofs.lemmas.Option.{get_or_from_slice_get, slice_get-get_or, slice_get-map, slice_get_within}
use Rattle.version_pair.proofs.ListLemmas.{none_is_not_some, same_some}

module _ {X : Type 0} where
  -- the first place that passes, or the length where there is none
  pub first_or_len : (p : X → Bool) (xs : List X) → unwrap_or (position p xs) (length xs) ≡ position_or_len p xs
  first_or_len p xs = by_test (nat_lt (position_or_len p xs) (length xs)) refl where
    by_test : (b : Bool) → nat_lt (position_or_len p xs) (length xs) ≡ b → unwrap_or (cond b (Some (position_or_len p xs)) None) (length xs) ≡ position_or_len p xs
    by_test true is = refl
    by_test false is =
        let past : length xs ≤ position_or_len p xs = ltb-false (position_or_len p xs) (length xs) is in
        let within : position_or_len p xs ≤ length xs = prefix_len-le-length (λ x. not (p x)) xs in omega arith

  pub from_replicate : (n : ℕ) (x : X) (i : ℕ) (y : X) → slice_get (replicate n x) i ≡ Some y → y ≡ x
  from_replicate zero x i y at = absurd (none_is_not_some y at)
  from_replicate (suc n) x zero y at = same_some _ _ (sym at)
  from_replicate (suc n) x (suc i) y at = from_replicate n x i y at

  -- an element that is set where it stands
  pub set-back : (xs : List X) (i : ℕ) (x : X) → slice_get xs i ≡ Some x → slice_set xs i x ≡ xs
  set-back xs i x at = ap (slice_set xs i) (sym (get_or_from_slice_get xs i x x at)) ∙ set-get_or xs i x

pub map-set_alike : {X Y : Type 0} (f : X → Y) (xs : List X) (i : ℕ) (x y : X) → slice_get xs i ≡ Some x → f y ≡ f x → map f (slice_set xs i y) ≡ map f xs
map-set_alike f xs i x y at alike = map-set f xs i y ∙ (ap (slice_set (map f xs) i) alike ∙ set-back (map f xs) i (f x) (slice_get-map f xs i ∙ ap (option_map f) at))

module _ {X : Type 0} (p : X → Bool) (xs : List X) where
  -- ---- one element

  read : (i : ℕ) (x : X) → slice_get xs i ≡ Some x → p (get_or xs i x) ≡ p x
  read i x at = ap p (get_or_from_slice_get xs i x x at)

  pub all_pass : (i : ℕ) (x : X) → list_all p xs ≡ true → slice_get xs i ≡ Some x → p x ≡ true
  all_pass i x all at = sym (read i x at) ∙ AllPass-from_list_all p xs all i x (slice_get_within xs i x at)

  pub not_all : (i : ℕ) (x : X) → slice_get xs i ≡ Some x → p x ≡ false → list_all p xs ≡ false
  not_all i x at fails = list_all_at p xs i x (slice_get_within xs i x at) (read i x at ∙ fails)

  -- no element passes where no element at any place does
  pub list_any-none : ((u : ℕ) (z : X) → slice_get xs u ≡ Some z → p z ≡ false) → list_any p xs ≡ false
  list_any-none none = list_any_none p xs (λ u d within. none u (get_or xs u d) (slice_get-get_or xs u d within))

  -- and the other way round
  pub none_passes : (u : ℕ) (z : X) → list_any p xs ≡ false → slice_get xs u ≡ Some z → p z ≡ false
  none_passes u z none at =
      false_from_ne_true (p z) (λ passes. false≢true (sym none ∙ list_any_at p xs u z (slice_get_within xs u z at) (read u z at ∙ passes)))

  pub count-some : (i : ℕ) (x : X) → slice_get xs i ≡ Some x → p x ≡ true → 1 ≤ count_by p xs
  count-some i x at passes =
      let counts : cond {A = ℕ} (p (get_or xs i x)) 1 0 ≡ 1 = ap (λ b. cond {A = ℕ} b 1 0) (read i x at ∙ passes) in
      omega (arith, counts, get_or-le-sum_by (λ z. cond (p z) 1 0) xs i x (slice_get_within xs i x at))

  -- ---- where one element is set

  -- one that passes takes the place of one
  pub list_any-set_more : (t : ℕ) (x y : X) → slice_get xs t ≡ Some x → p y ≡ true → list_any p (slice_set xs t y) ≡ true
  list_any-set_more t x y at passes = or_set (list_any p) p refl (λ z zs. refl) xs t y (slice_get_within xs t x at) passes

  -- it passes where the one before did, and only there
  pub count-set : (i : ℕ) (x y : X) → slice_get xs i ≡ Some x → p y ≡ p x → count_by p (slice_set xs i y) ≡ count_by p xs
  count-set i x y at alike =
      let same : cond {A = ℕ} (p (get_or xs i x)) 1 0 ≡ cond (p y) 1 0 = ap (λ b. cond {A = ℕ} b 1 0) (read i x at ∙ sym alike) in
      omega (arith, same, sum_by-set (λ z. cond (p z) 1 0) xs i y x (slice_get_within xs i x at))

module _ {X : Type 0} (p : X → Bool) where
  pub list_any-set_alike : (xs : List X) (t : ℕ) (x y : X) → slice_get xs t ≡ Some x → p y ≡ p x → list_any p (slice_set xs t y) ≡ list_any p xs
  list_any-set_alike [] t x y at alike = refl
  list_any-set_alike (z ∷ zs) zero x y at alike = ap (λ b. b || list_any p zs) (alike ∙ ap p (sym (same_some _ _ at)))
  list_any-set_alike (z ∷ zs) (suc t) x y at alike = ap (λ b. p z || b) (list_any-set_alike zs t x y at alike)
