-- Places of events, and what one more event does to them.
use Rattle.std.proofs.Common.{ℕ, zero, suc, ◌≡◌, ◌<◌, List, [], ◌∷◌, ◌++◌, length, refl, sym, ap, subst, ◌∙◌, inl, inr, Option, Some, None, slice_get, ◌⊎◌, Bool, true, false}
use Rattle.std.specs.Prelude.{option_map, if◌then◌else◌, IfSome}
use Rattle.std.proofs.lemmas.Option.{slice_get_within}
use Rattle.events.specs.declared.event.Event.{Event}
use Rattle.events.specs.declared.event.Event.TheVariants.{Call}
use Rattle.events.specs.Events.{IsCallAt, PassesAt, place_of}
use Rattle.doc_register.specs.declared.op.Op.{Op}
use Rattle.version_pair.proofs.ListLemmas.{get_front, get_snoc, none_is_not_some, same_some}

-- ---- events that pass a test

pub passes_element : (t : Event → Bool) (xs : List Event) (i : ℕ) → PassesAt t xs i → (e : Event) × (slice_get xs i ≡ Some e) × (t e ≡ true)
passes_element t xs i h = of_option (slice_get xs i) refl h where
  of_option : (o : Option Event) → slice_get xs i ≡ o → option_map t o ≡ Some true → (e : Event) × (slice_get xs i ≡ Some e) × (t e ≡ true)
  of_option None is p = let impossible : None ≡ Some true = p in cc
  of_option (Some e) is p = (e, is, (let same : Some (t e) ≡ Some true = p in cc))

pub element_passes : (t : Event → Bool) (xs : List Event) (i : ℕ) (e : Event) → slice_get xs i ≡ Some e → t e ≡ true → PassesAt t xs i
element_passes t xs i e at p = ap (option_map t) at ∙ ap (λ b. Some b) p

pub passes_within : (t : Event → Bool) (xs : List Event) (i : ℕ) → PassesAt t xs i → i < length xs
passes_within t xs i h = let e = passes_element t xs i h in slice_get_within xs i e.0 e.1

pub passes_front : (t : Event → Bool) (xs ys : List Event) (i : ℕ) → PassesAt t xs i → PassesAt t (xs ++ ys) i
passes_front t xs ys i h = let e = passes_element t xs i h in element_passes t (xs ++ ys) i e.0 (get_front xs ys i e.0 e.1) e.2

pub passes_snoc : (t : Event → Bool) (xs : List Event) (x : Event) (i : ℕ) → PassesAt t (xs ++ x ∷ []) i → PassesAt t xs i ⊎ ((i ≡ length xs) × (t x ≡ true))
passes_snoc t xs x i h =
    let e = passes_element t (xs ++ x ∷ []) i h in
    elim (get_snoc xs x e.0 i e.1) as (λ _. PassesAt t xs i ⊎ ((i ≡ length xs) × (t x ≡ true)))
    [ inl old ↦ inl (element_passes t xs i e.0 old e.2) | inr new ↦ inr (new.0, ap t new.1 ∙ e.2) ]

-- ---- the first place

step_front : (b : Bool) (p q : Option ℕ) (i : ℕ) → (if b then Some 0 else option_map suc p) ≡ Some i → ((j : ℕ) → p ≡ Some j → q ≡ Some j) → (if b then Some 0 else option_map suc q) ≡ Some i
step_front true p q i h f = h
step_front false None q i h f = let impossible : None ≡ Some i = h in cc
step_front false (Some j) q i h f = ap (option_map suc) (f j refl) ∙ h

pub place_of-front : (t : Event → Bool) (xs ys : List Event) (i : ℕ) → place_of t xs ≡ Some i → place_of t (xs ++ ys) ≡ Some i
place_of-front t [] ys i h = let impossible : None ≡ Some i = h in cc
place_of-front t (x ∷ xs) ys i h = step_front (t x) (place_of t xs) (place_of t (xs ++ ys)) i h (λ j e. place_of-front t xs ys j e)

step_none : (b : Bool) (p : Option ℕ) → (if b then Some 0 else option_map suc p) ≡ None → (b ≡ false) × (p ≡ None)
step_none true p h = absurd (none_is_not_some 0 (sym h))
step_none false None h = (refl, refl)
step_none false (Some j) h = absurd (none_is_not_some (suc j) (sym h))

step_last : (b c : Bool) (p : Option ℕ) (n : ℕ) → b ≡ false → p ≡ (if c then Some n else None) → (if b then Some 0 else option_map suc p) ≡ (if c then Some (suc n) else None)
step_last true c p n e h = let impossible : true ≡ false = e in cc
step_last false true p n e h = ap (option_map suc) h
step_last false false p n e h = ap (option_map suc) h

pub place_of-last : (t : Event → Bool) (xs : List Event) (x : Event) → place_of t xs ≡ None → place_of t (xs ++ x ∷ []) ≡ (if t x then Some (length xs) else None)
place_of-last t [] x h = refl
place_of-last t (y ∷ xs) x h =
    let n = step_none (t y) (place_of t xs) h in
    step_last (t y) (t x) (place_of t (xs ++ x ∷ [])) (length xs) n.0 (place_of-last t xs x n.1)

pub place_of-passes : (t : Event → Bool) (xs : List Event) (i : ℕ) → place_of t xs ≡ Some i → PassesAt t xs i
place_of-passes t [] i h = let impossible : None ≡ Some i = h in cc
place_of-passes t (x ∷ xs) i h = by_test (t x) refl (place_of t xs) refl h (λ j e. place_of-passes t xs j e) where
  by_test : (b : Bool) → t x ≡ b → (p : Option ℕ) → place_of t xs ≡ p → (if b then Some 0 else option_map suc p) ≡ Some i
      → ((j : ℕ) → place_of t xs ≡ Some j → PassesAt t xs j) → PassesAt t (x ∷ xs) i
  by_test true e p is h later = let zero_is : 0 ≡ i = cc in subst (λ k. PassesAt t (x ∷ xs) k) zero_is (ap (λ b. Some b) e)
  by_test false e None is h later = let impossible : None ≡ Some i = h in cc
  by_test false e (Some j) is h later = let next : suc j ≡ i = cc in subst (λ k. PassesAt t (x ∷ xs) k) next (later j is)

pub place_of-none : (t : Event → Bool) (xs : List Event) → place_of t xs ≡ None → (i : ℕ) → PassesAt t xs i → ⊥
place_of-none t [] h i p = let impossible : None ≡ Some true = p in cc
place_of-none t (x ∷ xs) h zero p =
    let n = step_none (t x) (place_of t xs) h in let same : Some (t x) ≡ Some true = p in let f : t x ≡ false = n.0 in cc
place_of-none t (x ∷ xs) h (suc i) p = place_of-none t xs (step_none (t x) (place_of t xs) h).1 i p

-- where an event passes there is a first place
pub place_of-some : (t : Event → Bool) (xs : List Event) (i : ℕ) → PassesAt t xs i → (j : ℕ) × (place_of t xs ≡ Some j)
place_of-some t xs i p = of_option (place_of t xs) refl where
  of_option : (o : Option ℕ) → place_of t xs ≡ o → (j : ℕ) × (place_of t xs ≡ Some j)
  of_option None is = absurd (place_of-none t xs is i p)
  of_option (Some j) is = (j, is)

-- the first place is one of the list
pub first_within : (t : Event → Bool) (xs : List Event) (o : Option ℕ) → o ≡ place_of t xs → IfSome o (λ i. i < length xs)
first_within t xs None h = tt
first_within t xs (Some i) h = passes_within t xs i (place_of-passes t xs i (sym h))

-- two calls at one place are one
pub same_call : (events : List Event) (i n m h g : ℕ) (d e : List ℕ) (op o : Op) → IsCallAt events i n h d op → IsCallAt events i m g e o → (n ≡ m) × (d ≡ e) × (op ≡ o)
same_call events i n m h g d e op o at bt =
    let same : Call h n d op ≡ Call g m e o = same_some (Call h n d op) (Call g m e o) (sym at ∙ bt) in
    (cc, cc, cc)
