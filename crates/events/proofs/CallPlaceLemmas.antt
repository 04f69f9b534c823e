-- The places of calls by their numbers: what a search by halves finds, and what one more call changes.
use Rattle.std.proofs.Common.{◌≡◌, ◌≢◌, ℕ, zero, suc, ◌<◌, ◌≤◌, ◌==◌, List, [], ◌∷◌, ◌++◌, length, get_or, Option, Some, None, Result, Ok, Err, Bool, true, false, cond, refl, sym, ap, ◌∙◌, arith}
use Rattle.std.specs.Prelude.{MatchResult}
use Rattle.std.specs.Map.{lookup}
use Rattle.std.specs.BTreeMap.{is_at}
use Rattle.std.specs.List.Sorted.{IsBinarySearchResult, IsNonDecreasingBy, IsSearchInRange}
use Rattle.std.specs.Ordering.{nat_cmp, ordering_index}
use Rattle.std.proofs.lemmas.Bool.{eqb-true}
use Rattle.std.proofs.lemmas.Bool.Decides.{nat_tests}
use Rattle.std.proofs.lemmas.List.{append_assoc}
use Rattle.std.proofs.lemmas.Cmp.{ranked}
use Rattle.std.proofs.lemmas.List.Sorted.{IsNonDecreasingBy-from_default}
use Rattle.events.specs.aids.CallPlaces.{AreBelow, AreFoundAlike, AreRising, number_at}
use Rattle.events.specs.aids.Indexes.{IsNotedAt}
use Rattle.version_pair.proofs.ListLemmas.{none_is_not_some}

-- ---- what a search by halves finds

none_before_tail : (e : ℕ × ℕ) (es : List (ℕ × ℕ)) (n i : ℕ) → ((j : ℕ) → j < suc i → number_at (e ∷ es) j ≢ n) → (j : ℕ) → j < i → number_at es j ≢ n
none_before_tail e es n i none j lt = none (suc j) (omega arith)

absent : (es : List (ℕ × ℕ)) (n : ℕ) → ((j : ℕ) → j < length es → number_at es j ≢ n) → lookup (◌==◌ n) es ≡ None
absent [] n none = refl
absent (e ∷ es) n none = grind (arith, nat_tests, none 0 (omega arith), absent es n (none_before_tail e es n _ none))

-- no number that is above all is there
pub absent_above : (es : List (ℕ × ℕ)) (n : ℕ) → AreBelow es n → lookup (◌==◌ n) es ≡ None
absent_above es n below = absent es n (λ j lt same. omega (arith, below j lt))

present : (es : List (ℕ × ℕ)) (n i : ℕ) → i < length es → number_at es i ≡ n → ((j : ℕ) → j < i → number_at es j ≢ n) → lookup (◌==◌ n) es ≡ Some (get_or es i (0, 0)).1
present [] n i within here none = absurd (omega (arith, within))
present (e ∷ es) n zero within here none = grind (arith, nat_tests, here)
present (e ∷ es) n (suc i) within here none = grind (arith, nat_tests, none 0 (omega arith), present es n i (omega (arith, within)) here (none_before_tail e es n i none))

-- among numbers that rise one stands at one place
pub present_rising : (es : List (ℕ × ℕ)) → AreRising es → (n i : ℕ) → i < length es → number_at es i ≡ n → lookup (◌==◌ n) es ≡ Some (get_or es i (0, 0)).1
present_rising es rising n i within here = present es n i within here (λ j lt same. omega (arith, rising j i lt within, here))

module _ (es : List (ℕ × ℕ)) (rising : AreRising es) (n : ℕ) where
  comparisons_rise : IsNonDecreasingBy (λ e. ordering_index (nat_cmp e.0 n)) es
  comparisons_rise = IsNonDecreasingBy-from_default (λ e. ordering_index (nat_cmp e.0 n)) es (0, 0) (λ i j le within.
      let numbers : number_at es i ≤ number_at es j = grind (arith, rising i j, λ (same : i ≡ j). ap (number_at es) same) in
      grind (arith, nat_tests))

  pub searched : (r : Result ℕ ℕ) → IsSearchInRange r (length es) → IsBinarySearchResult (λ e. nat_cmp e.0 n) es r
      → MatchResult r (λ i. lookup (◌==◌ n) es ≡ Some (get_or es i (0, 0)).1) (λ i. lookup (◌==◌ n) es ≡ None)
  searched (Ok i) within equal =
      let here : number_at es i ≡ n = ranked _ n _ (sym (equal (0, 0))) in
      present_rising es rising n i within here
  searched (Err i) within parted = absent es n (λ j lt same.
      let below : j < i → number_at es j < n = λ before. ranked _ n _ (sym ((parted comparisons_rise).0 j (0, 0) (omega arith) before)) in
      let above : i ≤ j → n < number_at es j = λ after. ranked _ n _ (sym ((parted comparisons_rise).1 j (0, 0) after lt)) in
      grind (arith, below, above))

-- ---- entries behind others

pub found_in_front : (t : ℕ → Bool) (es fs : List (ℕ × ℕ)) (i : ℕ) → lookup t es ≡ Some i → lookup t (es ++ fs) ≡ Some i
found_in_front t [] fs i is = cc
found_in_front t (e ∷ es) fs i is = by_test (t e.0) refl (found_in_front t es fs i) where
  by_test : (b : Bool) → t e.0 ≡ b → (lookup t es ≡ Some i → lookup t (es ++ fs) ≡ Some i) → lookup t (e ∷ es ++ fs) ≡ Some i
  by_test true is_here behind =
      ap (λ b. cond b (Some e.1) (lookup t (es ++ fs))) is_here ∙ (sym (ap (λ b. cond b (Some e.1) (lookup t es)) is_here) ∙ is)
  by_test false not_here behind =
      ap (λ b. cond b (Some e.1) (lookup t (es ++ fs))) not_here ∙ behind (sym (ap (λ b. cond b (Some e.1) (lookup t es)) not_here) ∙ is)

pub found_behind : (t : ℕ → Bool) (es fs : List (ℕ × ℕ)) → lookup t es ≡ None → lookup t (es ++ fs) ≡ lookup t fs
found_behind t [] fs none = refl
found_behind t (e ∷ es) fs none = by_test (t e.0) refl (found_behind t es fs) where
  by_test : (b : Bool) → t e.0 ≡ b → (lookup t es ≡ None → lookup t (es ++ fs) ≡ lookup t fs) → lookup t (e ∷ es ++ fs) ≡ lookup t fs
  by_test true is_here behind = absurd (none_is_not_some e.1 (sym none ∙ ap (λ b. cond b (Some e.1) (lookup t es)) is_here))
  by_test false not_here behind =
      ap (λ b. cond b (Some e.1) (lookup t (es ++ fs))) not_here ∙ behind (sym (ap (λ b. cond b (Some e.1) (lookup t es)) not_here) ∙ none)

same_behind : (t : ℕ → Bool) (es fs gs : List (ℕ × ℕ)) → lookup t gs ≡ lookup t fs → lookup t (es ++ gs) ≡ lookup t (es ++ fs)
same_behind t es fs gs same = by_front (lookup t es) refl where
  by_front : (o : Option ℕ) → lookup t es ≡ o → lookup t (es ++ gs) ≡ lookup t (es ++ fs)
  by_front (Some i) is = found_in_front t es gs i is ∙ sym (found_in_front t es fs i is)
  by_front None none = found_behind t es gs none ∙ (same ∙ sym (found_behind t es fs none))

-- ---- one more call

-- an ordered map's test of a key
test_is : (q k : ℕ) → is_at (nat_cmp q) k ≡ (q == k)
test_is q k = grind (arith, nat_tests)

pub lookup_in_order : (q : ℕ) (es : List (ℕ × ℕ)) → lookup (is_at (nat_cmp q)) es ≡ lookup (◌==◌ q) es
lookup_in_order q [] = refl
lookup_in_order q (e ∷ es) =
    ap (λ b. cond b (Some e.1) (lookup (is_at (nat_cmp q)) es)) (test_is q e.0) ∙ ap (cond (q == e.0) (Some e.1)) (lookup_in_order q es)

-- a number that is found nowhere is found in neither part
none_in_front : (t : ℕ → Bool) (es fs : List (ℕ × ℕ)) → lookup t (es ++ fs) ≡ None → lookup t es ≡ None
none_in_front t es fs none = by_front (lookup t es) refl where
  by_front : (o : Option ℕ) → lookup t es ≡ o → lookup t es ≡ None
  by_front (Some i) is = absurd (none_is_not_some i (sym none ∙ found_in_front t es fs i is))
  by_front None is = is

-- the call behind those whose numbers rise
pub noted_last : (n place : ℕ) (es fs : List (ℕ × ℕ)) → lookup (◌==◌ n) (es ++ fs) ≡ None → IsNotedAt n place (es ++ fs) ((es ++ (n, place) ∷ []) ++ fs)
noted_last n place es fs none q = by_front (lookup (◌==◌ q) es) refl where
  one : List (ℕ × ℕ)
  one = (n, place) ∷ []

  swapped : (q == n) ≡ (n == q)
  swapped = grind (arith, nat_tests)

  by_front : (o : Option ℕ) → lookup (◌==◌ q) es ≡ o
      → lookup (◌==◌ q) ((es ++ one) ++ fs) ≡ cond (n == q) (Some place) (lookup (◌==◌ q) (es ++ fs))
  by_front (Some i) is = by_test (n == q) refl where
    by_test : (b : Bool) → (n == q) ≡ b → lookup (◌==◌ q) ((es ++ one) ++ fs) ≡ cond (n == q) (Some place) (lookup (◌==◌ q) (es ++ fs))
    by_test true same =
        let number : n ≡ q = eqb-true n q same in
        absurd (none_is_not_some i (sym (none_in_front (◌==◌ n) es fs none) ∙ (ap (λ k. lookup (◌==◌ k) es) number ∙ is)))
    by_test false other =
        found_in_front (◌==◌ q) (es ++ one) fs i (found_in_front (◌==◌ q) es one i is)
        ∙ sym (ap (λ b. cond b (Some place) (lookup (◌==◌ q) (es ++ fs))) other ∙ found_in_front (◌==◌ q) es fs i is)
  by_front None is =
      ap (lookup (◌==◌ q)) (append_assoc es one fs)
      ∙ (found_behind (◌==◌ q) es (one ++ fs) is
      ∙ (ap (λ b. cond b (Some place) (lookup (◌==◌ q) fs)) swapped ∙ ap (cond (n == q) (Some place)) (sym (found_behind (◌==◌ q) es fs is))))

-- the call among the others
pub noted_among : (n place : ℕ) (es fs gs : List (ℕ × ℕ)) → lookup (◌==◌ n) (es ++ fs) ≡ None
    → ((q : ℕ) → lookup (is_at (nat_cmp q)) gs ≡ cond (is_at (nat_cmp n) q) (Some place) (lookup (is_at (nat_cmp q)) fs))
    → IsNotedAt n place (es ++ fs) (es ++ gs)
noted_among n place es fs gs none inserted q = by_test (n == q) refl where
  there : lookup (◌==◌ q) gs ≡ cond (n == q) (Some place) (lookup (◌==◌ q) fs)
  there = sym (lookup_in_order q gs) ∙ (inserted q
      ∙ (ap (λ b. cond b (Some place) (lookup (is_at (nat_cmp q)) fs)) (test_is n q) ∙ ap (cond (n == q) (Some place)) (lookup_in_order q fs)))

  by_test : (b : Bool) → (n == q) ≡ b → lookup (◌==◌ q) (es ++ gs) ≡ cond (n == q) (Some place) (lookup (◌==◌ q) (es ++ fs))
  by_test true same =
      let number : n ≡ q = eqb-true n q same in
      found_behind (◌==◌ q) es gs (ap (λ k. lookup (◌==◌ k) es) (sym number) ∙ none_in_front (◌==◌ n) es fs none)
      ∙ (there ∙ (ap (λ b. cond b (Some place) (lookup (◌==◌ q) fs)) same ∙ sym (ap (λ b. cond b (Some place) (lookup (◌==◌ q) (es ++ fs))) same)))
  by_test false other =
      same_behind (◌==◌ q) es fs gs (there ∙ ap (λ b. cond b (Some place) (lookup (◌==◌ q) fs)) other)
      ∙ sym (ap (λ b. cond b (Some place) (lookup (◌==◌ q) (es ++ fs))) other)

-- a call that was put among the others and taken out again
pub taken_out : (n place : ℕ) (es fs gs hs : List (ℕ × ℕ)) → lookup (◌==◌ n) (es ++ fs) ≡ None
    → ((q : ℕ) → lookup (is_at (nat_cmp q)) gs ≡ cond (is_at (nat_cmp n) q) (Some place) (lookup (is_at (nat_cmp q)) fs))
    → ((q : ℕ) → lookup (is_at (nat_cmp q)) hs ≡ cond (is_at (nat_cmp n) q) None (lookup (is_at (nat_cmp q)) gs))
    → AreFoundAlike (es ++ fs) (es ++ hs)
taken_out n place es fs gs hs none inserted removed q = same_behind (◌==◌ q) es fs hs (sym (lookup_in_order q hs) ∙ (by_test (is_at (nat_cmp n) q) refl ∙ lookup_in_order q fs)) where
  fresh : lookup (◌==◌ n) fs ≡ None
  fresh = sym (found_behind (◌==◌ n) es fs (none_in_front (◌==◌ n) es fs none)) ∙ none

  by_test : (b : Bool) → is_at (nat_cmp n) q ≡ b → lookup (is_at (nat_cmp q)) hs ≡ lookup (is_at (nat_cmp q)) fs
  by_test true same =
      let number : n ≡ q = eqb-true n q (sym (test_is n q) ∙ same) in
      removed q ∙ (ap (λ b. cond b None (lookup (is_at (nat_cmp q)) gs)) same
      ∙ sym (lookup_in_order q fs ∙ (ap (λ k. lookup (◌==◌ k) fs) (sym number) ∙ fresh)))
  by_test false other =
      removed q ∙ (ap (λ b. cond b None (lookup (is_at (nat_cmp q)) gs)) other
      ∙ (inserted q ∙ ap (λ b. cond b (Some place) (lookup (is_at (nat_cmp q)) fs)) other))
