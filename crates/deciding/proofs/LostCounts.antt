-- How many records are of a kind, and of the writes without a reply and without a condition how many were made.
use Rattle.std.proofs.Common.{ℕ, zero, suc, ◌≡◌, ◌≢◌, ◌<◌, ◌≤◌, List, [], ◌∷◌, length, refl, sym, ap, ◌∙◌, arith, Bool, true, false, cond, true≢false, Some, slice_get}
use Rattle.std.proofs.lemmas.Bool.{and_from, and_parts, lt-ltb, ltb-true}
use Rattle.version_pair.proofs.ListLemmas.{none_is_not_some, same_some}
use Rattle.events.specs.declared.record.Rec.{Rec}
use Rattle.deciding.specs.Steps.{count_of, is_made_before}

-- ---- how many are of a kind

-- the records of one kind are of the other too
abbrev pub AreToo : (Rec → Bool) → (Rec → Bool) → List Rec → Type 0
AreToo P Q rs = (i : ℕ) (r : Rec) → slice_get rs i ≡ Some r → P r ≡ true → Q r ≡ true

abbrev with_one : Bool → ℕ → ℕ
with_one is n = cond is (suc n) n

within_one : (a b : Bool) (p q : ℕ) → p ≤ q → (a ≡ true → b ≡ true) → with_one a p ≤ with_one b q
within_one true true p q rest too = omega (arith, rest)
within_one true false p q rest too = absurd (true≢false (sym (too refl)))
within_one false true p q rest too = omega (arith, rest)
within_one false false p q rest too = rest

pub count_within : (P Q : Rec → Bool) (rs : List Rec) → AreToo P Q rs → count_of P rs ≤ count_of Q rs
count_within P Q [] all = omega arith
count_within P Q (r ∷ rs) all = within_one (P r) (Q r) (count_of P rs) (count_of Q rs) (count_within P Q rs (λ i s at. all (suc i) s at)) (all zero r refl)

-- one record more is of the other
more_one : (a b : Bool) (p q : ℕ) → p < q → (a ≡ true → b ≡ true) → with_one a p < with_one b q
more_one true true p q rest too = omega (arith, rest)
more_one true false p q rest too = absurd (true≢false (sym (too refl)))
more_one false true p q rest too = omega (arith, rest)
more_one false false p q rest too = rest

first_more : (a b : Bool) (p q : ℕ) → p ≤ q → a ≡ false → b ≡ true → with_one a p < with_one b q
first_more true b p q rest off on = absurd (true≢false off)
first_more false true p q rest off on = omega (arith, rest)
first_more false false p q rest off on = absurd (true≢false (sym on))

pub count_more : (P Q : Rec → Bool) (rs : List Rec) (j : ℕ) (s : Rec) → slice_get rs j ≡ Some s → P s ≡ false → Q s ≡ true → AreToo P Q rs → count_of P rs < count_of Q rs
count_more P Q [] j s at off on all = absurd (none_is_not_some s at)
count_more P Q (r ∷ rs) zero s at off on all =
    let same : r ≡ s = same_some r s at in
    first_more (P r) (Q r) (count_of P rs) (count_of Q rs) (count_within P Q rs (λ i x bt. all (suc i) x bt)) (ap P same ∙ off) (ap Q same ∙ on)
count_more P Q (r ∷ rs) (suc j) s at off on all =
    more_one (P r) (Q r) (count_of P rs) (count_of Q rs) (count_more P Q rs j s at off on (λ i x bt. all (suc i) x bt)) (all zero r refl)

-- all but one are of the other
but_one : (a b : Bool) (p q : ℕ) → p ≤ q → with_one a p ≤ suc (with_one b q)
but_one true true p q rest = omega (arith, rest)
but_one true false p q rest = omega (arith, rest)
but_one false true p q rest = omega (arith, rest)
but_one false false p q rest = omega (arith, rest)

rest_but_one : (a b : Bool) (p q : ℕ) → p ≤ suc q → (a ≡ true → b ≡ true) → with_one a p ≤ suc (with_one b q)
rest_but_one true true p q rest too = omega (arith, rest)
rest_but_one true false p q rest too = absurd (true≢false (sym (too refl)))
rest_but_one false true p q rest too = omega (arith, rest)
rest_but_one false false p q rest too = rest

pub count_but_one : (P Q : Rec → Bool) (rs : List Rec) (n : ℕ) → ((i : ℕ) (r : Rec) → slice_get rs i ≡ Some r → i ≢ n → P r ≡ true → Q r ≡ true) → count_of P rs ≤ suc (count_of Q rs)
count_but_one P Q [] n all = omega arith
count_but_one P Q (r ∷ rs) zero all = but_one (P r) (Q r) (count_of P rs) (count_of Q rs) (count_within P Q rs (λ i s at. all (suc i) s at (λ same. omega (arith, same))))
count_but_one P Q (r ∷ rs) (suc n) all =
    rest_but_one (P r) (Q r) (count_of P rs) (count_of Q rs) (count_but_one P Q rs n (λ i s at other. all (suc i) s at (λ same. other (omega (arith, same)))))
    (all zero r refl (λ same. omega (arith, same)))

-- there are none if no record is of the kind
pub count_none : (P : Rec → Bool) (rs : List Rec) → ((i : ℕ) (r : Rec) → slice_get rs i ≡ Some r → P r ≡ true → ⊥) → count_of P rs ≡ 0
count_none P [] all = refl
count_none P (r ∷ rs) all = none_more (P r) (count_of P rs) (count_none P rs (λ i s at. all (suc i) s at)) (all zero r refl) where
  none_more : (a : Bool) (p : ℕ) → p ≡ 0 → (a ≡ true → ⊥) → with_one a p ≡ 0
  none_more true p rest never = absurd (never refl)
  none_more false p rest never = rest

-- there are no more than records
pub count_all : (P : Rec → Bool) (rs : List Rec) → count_of P rs ≤ length rs
count_all P [] = omega arith
count_all P (r ∷ rs) = at_most_all (P r) (count_of P rs) (length rs) (count_all P rs) where
  at_most_all : (a : Bool) (p n : ℕ) → p ≤ n → with_one a p ≤ suc n
  at_most_all true p n rest = omega (arith, rest)
  at_most_all false p n rest = omega (arith, rest)

-- ---- how many were made

-- what was made before an event is of the kind, and was called before it
pub made_parts : (is : Rec → Bool) (event : ℕ) (r : Rec) → is_made_before is event r ≡ true → (is r ≡ true) × (r.call_at < event)
made_parts is event r made = let parts = and_parts (is r) _ made in (parts.0, ltb-true r.call_at event parts.1)

pub made_from : (is : Rec → Bool) (event : ℕ) (r : Rec) → is r ≡ true → r.call_at < event → is_made_before is event r ≡ true
made_from is event r kind called = and_from (is r) _ kind (lt-ltb r.call_at event called)

-- if what is made before one event is made before the other, there are no more of it
pub made_within : (is : Rec → Bool) (a b : ℕ) (rs : List Rec) → ((i : ℕ) (r : Rec) → slice_get rs i ≡ Some r → r.call_at < a → r.call_at < b)
    → count_of (is_made_before is a) rs ≤ count_of (is_made_before is b) rs
made_within is a b rs all =
    count_within (is_made_before is a) (is_made_before is b) rs
    (λ i r at made. let parts = made_parts is a r made in made_from is b r parts.0 (all i r at parts.1))

-- one call is made between two events
pub made_one : (is : Rec → Bool) (a b : ℕ) (rs : List Rec) (n : ℕ) → ((i : ℕ) (r : Rec) → slice_get rs i ≡ Some r → i ≢ n → r.call_at < a → r.call_at < b)
    → count_of (is_made_before is a) rs ≤ suc (count_of (is_made_before is b) rs)
made_one is a b rs n all =
    count_but_one (is_made_before is a) (is_made_before is b) rs n
    (λ i r at other made. let parts = made_parts is a r made in made_from is b r parts.0 (all i r at other parts.1))

-- if that call is of another kind, there are no more
pub made_other : (is : Rec → Bool) (a b : ℕ) (rs : List Rec) (n : ℕ) (call : Rec) → slice_get rs n ≡ Some call → is call ≡ false
    → ((i : ℕ) (r : Rec) → slice_get rs i ≡ Some r → i ≢ n → r.call_at < a → r.call_at < b)
    → count_of (is_made_before is a) rs ≤ count_of (is_made_before is b) rs
made_other is a b rs n call here off all = count_within (is_made_before is a) (is_made_before is b) rs too where
  kind_not : (i : ℕ) (r : Rec) → slice_get rs i ≡ Some r → i ≡ n → is r ≡ true → ⊥
  kind_not i r at same kind = true≢false (sym kind ∙ (ap is (same_some r call (sym at ∙ (ap (slice_get rs) same ∙ here))) ∙ off))

  too : (i : ℕ) (r : Rec) → slice_get rs i ≡ Some r → is_made_before is a r ≡ true → is_made_before is b r ≡ true
  too i r at made =
      let parts = made_parts is a r made in
      made_from is b r parts.0 (all i r at (λ same. kind_not i r at same parts.0) parts.1)
