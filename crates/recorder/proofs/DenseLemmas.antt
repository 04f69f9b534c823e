-- Lists whose entries have together the numbers below how many they are: what of them is left while they are merged.
use Rattle.std.proofs.Common.{ℕ, zero, suc, ◌≡◌, ◌≢◌, ◌⊎◌, inl, inr, ⊎_elim, ◌+◌, ◌-◌, ◌<◌, ◌≤◌, List, [], ◌∷◌, ◌++◌, length, refl, sym, ap, ◌∙◌, arith, Some, slice_get, All, Bool, true, false, get_or}
use Rattle.std.specs.Prelude.{cond, nat_lt, not}
use Rattle.std.specs.List.{filter, list_any, range_with_len, sum_by}
use Rattle.std.specs.List.Sorted.{IsPermutation}
use Rattle.std.proofs.lemmas.Bool.{ltb-false, ltb-true}
use Rattle.std.proofs.lemmas.List.{append-nil, nil_from_length}
use Rattle.std.proofs.lemmas.List.Elements.{filter-append}
use Rattle.std.proofs.lemmas.List.FromFn.{length-range_with_len}
use Rattle.std.proofs.lemmas.List.Sums.{sum_by-cons, sum_by-append, sum_by_push, get_or-le-sum_by}
use Rattle.std.proofs.lemmas.List.Sorted.{IsPermutation-map, sum_by-IsPermutation}
use Rattle.std.proofs.lemmas.Option.{get_or_from_slice_get, slice_get_within}
use Rattle.events.specs.declared.event.Event.{Event}
use Rattle.events.specs.Refusal.{most_events}
use Rattle.recorder.specs.Clock.{is_past, numbers_below, one_if}
use Rattle.recorder.specs.Pens.{IsRising}
use Rattle.recorder.specs.Recordings.{entries_of}
use Rattle.recorder.specs.aids.Drawing.{numbers_of_events}
use Rattle.recorder.specs.aids.Merging.{AreDense, next_number}
use Rattle.recorder.specs.aids.Notes.{numbers_of}
use Rattle.recorder.proofs.CountLemmas.{below_there, has_one, is_the_one, once_at_most, one_for, one_for_itself, range_more, range_split, sum_map, sum_of_one, sum_ones, none_elsewhere, all_in_row}
use Rattle.recorder.proofs.DrawLemmas.{kept_under, none_under}
use Rattle.std.proofs.lemmas.List.Folds.{Any-from_list_any}
use Rattle.version_pair.proofs.ListLemmas.{none_is_not_some, same_some}
use Rattle.recorder.proofs.ListLemmas.{all_at}

-- ---- entries and their lists

-- where an entry stands: in which list, at which place
pub record StandsIn (lists : List (List (ℕ × Event))) (entry : ℕ × Event) : Type 0 where
  pub which : ℕ
  pub list : List (ℕ × Event)
  pub of_which : slice_get lists which ≡ Some list
  pub place : ℕ
  pub here : slice_get list place ≡ Some entry

at_append : (xs ys : List (ℕ × Event)) (k : ℕ) (x : ℕ × Event) → slice_get (xs ++ ys) k ≡ Some x
    → (slice_get xs k ≡ Some x) ⊎ ((j : ℕ) × (slice_get ys j ≡ Some x))
at_append [] ys k x at = inr (k, at)
at_append (z ∷ zs) ys zero x at = inl at
at_append (z ∷ zs) ys (suc k) x at = at_append zs ys k x at

pub stands_in : (lists : List (List (ℕ × Event))) (k : ℕ) (x : ℕ × Event) → slice_get (entries_of lists) k ≡ Some x → StandsIn lists x
stands_in [] k x at = absurd (none_is_not_some x at)
stands_in (l ∷ ls) k x at =
    ⊎_elim
    (λ here. record { which = 0; list = l; of_which = refl; place = k; here = here })
    (λ (later : (j : ℕ) × (slice_get (entries_of ls) j ≡ Some x)). one_on (stands_in ls later.0 x later.1))
    (at_append l (entries_of ls) k x at) where
      one_on : StandsIn ls x → StandsIn (l ∷ ls) x
      one_on in_rest = record { which = suc in_rest.which; list = in_rest.list; of_which = in_rest.of_which; place = in_rest.place; here = in_rest.here }

-- what is added up over one list is no more than over all
pub sum_of_list : (f : ℕ × Event → ℕ) (lists : List (List (ℕ × Event))) (p : ℕ) (list : List (ℕ × Event)) → slice_get lists p ≡ Some list
    → sum_by f list ≤ sum_by f (entries_of lists)
sum_of_list f [] p list at = absurd (none_is_not_some list at)
sum_of_list f (l ∷ ls) zero list at =
    let value : sum_by f l ≡ sum_by f list = ap (sum_by f) (same_some l list at) in
    let whole = sum_by-append f l (entries_of ls) in omega arith
sum_of_list f (l ∷ ls) (suc p) list at = let rest = sum_of_list f ls p list at in let whole = sum_by-append f l (entries_of ls) in omega arith

-- an entry at a place of a rising list is past its first
first_less : (x : ℕ × Event) (xs : List (ℕ × Event)) (k : ℕ) (y : ℕ × Event) → IsRising (x ∷ xs) → slice_get xs k ≡ Some y → x.0 < y.0
first_less x xs k y rising at =
    let within : k < length xs = slice_get_within xs k y at in
    let less : x.0 < (get_or xs k y).0 = rising 0 (suc k) y (omega arith) (omega arith) in
    let same : (get_or xs k y).0 ≡ y.0 = ap (λ (z : ℕ × Event). z.0) (get_or_from_slice_get xs k y y at) in omega arith

-- ---- what is left

-- the numbers from n on below the total are left, each once: with those below n they are all
abbrev pub AreLeft : List (List (ℕ × Event)) → ℕ → ℕ → Type 0
AreLeft lists n total = (f : ℕ → ℕ) → sum_by f (numbers_of (entries_of lists)) + sum_by f (numbers_below n) ≡ sum_by f (numbers_below total)

pub left_after_one : (old new : List (List (ℕ × Event))) (n total : ℕ) (e : Event) → IsPermutation (entries_of old) ((n, e) ∷ entries_of new) → AreLeft old n total → AreLeft new (n + 1) total
left_after_one old new n total e taken left f =
    let moved : IsPermutation (numbers_of (entries_of old)) (n ∷ numbers_of (entries_of new)) =
    IsPermutation-map (λ (entry : ℕ × Event). entry.0) (entries_of old) ((n, e) ∷ entries_of new) taken in
    let same = sum_by-IsPermutation f (numbers_of (entries_of old)) (n ∷ numbers_of (entries_of new)) moved in
    let cons = sum_by-cons f n (numbers_of (entries_of new)) in
    let was = left f in
    let next : n + 1 ≡ suc n = omega arith in
    let last : 0 + n ≡ n = omega arith in
    let more : sum_by f (numbers_below (n + 1)) ≡ sum_by f (numbers_below n) + f n =
    ap (λ k. sum_by f (numbers_below k)) next ∙ (ap (sum_by f) (range_more 0 n ∙ ap (λ k. numbers_below n ++ k ∷ []) last) ∙ sum_by_push f (numbers_below n) n) in
    omega arith

-- how many are left
pub how_many_left : (lists : List (List (ℕ × Event))) (n total : ℕ) → AreLeft lists n total → length (entries_of lists) + n ≡ total
how_many_left lists n total left =
    let all = left (λ _. 1) in
    let here = sum_map (λ _. 1) (λ (entry : ℕ × Event). entry.0) (entries_of lists) in
    let entries = sum_ones (entries_of lists) in
    let low = sum_ones (numbers_below n) in
    let whole = sum_ones (numbers_below total) in
    let n_long = length-range_with_len 0 n in
    let total_long = length-range_with_len 0 total in
    omega arith

-- no list has an entry below what is next
not_below : (lists : List (List (ℕ × Event))) (n total p : ℕ) (list : List (ℕ × Event)) (x : ℕ × Event) → AreLeft lists n total → slice_get lists p ≡ Some list → slice_get list 0 ≡ Some x
    → x.0 < n → ⊥
not_below lists n total p list x left which first less =
    let all = left (one_for x.0) in
    let here = sum_map (one_for x.0) (λ (entry : ℕ × Event). entry.0) (entries_of lists) in
    let mine = sum_of_one (λ (entry : ℕ × Event). one_for x.0 entry.0) list 0 x first in
    let whole = sum_of_list (λ (entry : ℕ × Event). one_for x.0 entry.0) lists p list which in
    let one = one_for_itself x.0 in
    let low = below_there x.0 n less in
    let once = once_at_most x.0 0 total in
    absurd (omega arith)

-- while some are left, the next one is the first of its list
pub next_there : (lists : List (List (ℕ × Event))) (n total : ℕ) → All IsRising lists → AreLeft lists n total → n < total → All (λ list. next_number list ≢ Some n) lists → ⊥
next_there lists n total rising left less none =
    let all = left (one_for n) in
    let before = none_elsewhere n 0 n (λ i within same. omega arith) in
    let there = below_there n total less in
    let here = sum_map (one_for n) (λ (entry : ℕ × Event). entry.0) (entries_of lists) in
    let some : 0 < sum_by (λ (entry : ℕ × Event). one_for n entry.0) (entries_of lists) = omega arith in
    let found = has_one (λ (entry : ℕ × Event). one_for n entry.0) (entries_of lists) some in
    let stands = stands_in lists found.0 found.1 found.2 in
    by_place stands.list stands.place stands.which found.1 (is_the_one n (found.1).0 found.3) stands.of_which stands.here where
      rises : (p : ℕ) (list : List (ℕ × Event)) → slice_get lists p ≡ Some list → IsRising list
      rises p list which = all_at IsRising lists p list rising which

      not_next : (p : ℕ) (list : List (ℕ × Event)) → slice_get lists p ≡ Some list → next_number list ≢ Some n
      not_next p list which = all_at (λ l. next_number l ≢ Some n) lists p list none which

      by_place : (list : List (ℕ × Event)) (k p : ℕ) (x : ℕ × Event) → x.0 ≡ n → slice_get lists p ≡ Some list → slice_get list k ≡ Some x → ⊥
      by_place [] k p x same which at = absurd (none_is_not_some x at)
      by_place (y ∷ ys) zero p x same which at =
          let first : y ≡ x = same_some y x at in
          absurd (not_next p (y ∷ ys) which (ap (λ (z : ℕ × Event). Some z.0) first ∙ ap (λ (m : ℕ). Some m) same))
      by_place (y ∷ ys) (suc k) p x same which at =
          let low : y.0 < x.0 = first_less y ys k x (rises p (y ∷ ys) which) at in
          not_below lists n total p (y ∷ ys) y left which refl (omega arith)

-- ---- the lists of pens whose seats drew the numbers below the word

range_below : (most a n : ℕ) → a + n ≤ most → All (λ m. m < most) (range_with_len a n)
range_below most a n up = all_in_row (λ m. m < most) a n (λ i less. omega arith)

range_from : (most a n : ℕ) → most ≤ a → All (λ m. most ≤ m) (range_with_len a n)
range_from most a n up = all_in_row (λ m. most ≤ m) a n (λ i less. omega arith)

-- the numbers below the word that are below a bound: those below the word, or those below the bound
cut_at : (most word : ℕ) → (n : ℕ) × (n ≤ most) × (filter (λ n. nat_lt n most) (numbers_below word) ≡ numbers_below n) × (most < word → n ≡ most)
cut_at most word = by_test (nat_lt most word) refl where
  by_test : (b : Bool) → nat_lt most word ≡ b → (n : ℕ) × (n ≤ most) × (filter (λ n. nat_lt n most) (numbers_below word) ≡ numbers_below n) × (most < word → n ≡ most)
  by_test false is = let up : word ≤ most = ltb-false most word is in (word, up, kept_under most (numbers_below word) (range_below most 0 word (omega arith)), λ more. absurd (omega arith))
  by_test true is =
      let less : most < word = ltb-true most word is in
      let rest = word - most in
      let whole : word ≡ most + rest = omega arith in
      let past : 0 + most ≡ most = omega arith in (
        most,
        (omega arith),
        ap (λ k. filter (λ n. nat_lt n most) (numbers_below k)) whole
            ∙ (ap (λ ns. filter (λ n. nat_lt n most) ns) (range_split 0 most rest)
            ∙ (filter-append (λ n. nat_lt n most) (numbers_below most) (range_with_len (0 + most) rest)
            ∙ (ap (λ ns. filter (λ n. nat_lt n most) (numbers_below most) ++ ns) (none_under most (range_with_len (0 + most) rest) (range_from most (0 + most) rest (omega arith)))
            ∙ (append-nil (filter (λ n. nat_lt n most) (numbers_below most)) ∙ kept_under most (numbers_below most) (range_below most 0 most (omega arith)))))),
        λ _. refl,
      )

-- what is added up over the numbers that are events'
weight_if : Bool → ℕ → ℕ
weight_if true m = m
weight_if false m = 0

sum_of_events : (f : ℕ → ℕ) (ns : List ℕ) → sum_by f (numbers_of_events ns) ≡ sum_by (λ n. weight_if (nat_lt n most_events) (f n)) ns
unfolding weight_if
sum_of_events f [] = refl
sum_of_events f (n ∷ ns) = by_test (nat_lt n most_events) (sum_of_events f ns) ∙ sym (sum_by-cons (λ n. weight_if (nat_lt n most_events) (f n)) n ns) where
  rest : ℕ
  rest = sum_by (λ n. weight_if (nat_lt n most_events) (f n)) ns

  by_test : (b : Bool) → sum_by f (numbers_of_events ns) ≡ rest → sum_by f (cond b (n ∷ numbers_of_events ns) (numbers_of_events ns)) ≡ weight_if b (f n) + rest
  by_test true later = sum_by-cons f n (numbers_of_events ns) ∙ ap (λ k. f n + k) later
  by_test false later = later ∙ (let nothing : rest ≡ 0 + rest = omega arith in nothing)

-- the sums over the numbers of the entries are those over the numbers below how many there are
counted : (lists : List (List (ℕ × Event))) (gained : List ℕ) (word : ℕ) → IsPermutation gained (numbers_below word) → numbers_of_events gained ≡ numbers_of (entries_of lists)
    → ((f : ℕ → ℕ) → sum_by f (numbers_of (entries_of lists)) ≡ sum_by f (numbers_below (cut_at most_events word).0)) × (length (entries_of lists) ≡ (cut_at most_events word).0)
counted lists gained word all same =
    let cut = cut_at most_events word in
    let n = cut.0 in
    let sums : (f : ℕ → ℕ) → sum_by f (numbers_of (entries_of lists)) ≡ sum_by f (numbers_below n) = λ f.
    let w : ℕ → ℕ = λ n. weight_if (nat_lt n most_events) (f n) in
    ap (sum_by f) (sym same)
    ∙ (sum_of_events f gained
    ∙ (sym (sum_by-IsPermutation w gained (numbers_below word) all)
    ∙ (sym (sum_of_events f (numbers_below word)) ∙ ap (sum_by f) cut.2))) in
    let ones = sums (λ _. 1) in
    let here = sum_map (λ _. 1) (λ (entry : ℕ × Event). entry.0) (entries_of lists) in
    let entries = sum_ones (entries_of lists) in
    let numbers = sum_ones (numbers_below n) in
    let long = length-range_with_len 0 n in
    (sums, omega arith)

pub dense_after : (lists : List (List (ℕ × Event))) (gained : List ℕ) (word : ℕ) → IsPermutation gained (numbers_below word) → numbers_of_events gained ≡ numbers_of (entries_of lists)
    → AreDense lists × (length (entries_of lists) ≤ most_events)
dense_after lists gained word all same =
    let cut = cut_at most_events word in
    let all_counted = counted lists gained word all same in
    let count = all_counted.1 in
    let up = cut.1 in
    ((λ f. all_counted.0 f ∙ ap (λ k. sum_by f (numbers_below k)) (sym count)), omega arith)

-- a number that is no event's counts as one
past_counted : (ns : List ℕ) → list_any is_past ns ≡ true → 0 < sum_by (λ n. one_if (is_past n)) ns
past_counted ns some =
    let found = Any-from_list_any is_past ns some in
    let one : one_if (is_past (get_or ns found.0 found.1)) ≡ 1 = ap (λ n. one_if (is_past n)) found.3 ∙ ap one_if found.4 in
    omega (arith, one, get_or-le-sum_by (λ n. one_if (is_past n)) ns found.0 found.1 found.2)

-- where a number was gained that is no event's, the entries are the most that there may be
pub full_after : (lists : List (List (ℕ × Event))) (gained : List ℕ) (word : ℕ) → IsPermutation gained (numbers_below word) → numbers_of_events gained ≡ numbers_of (entries_of lists)
    → list_any is_past gained ≡ true → length (entries_of lists) ≡ most_events
full_after lists gained word all same past =
    let moved = sum_by-IsPermutation (λ n. one_if (is_past n)) gained (numbers_below word) all in
    let some = past_counted gained past in
    let found = has_one (λ n. one_if (is_past n)) (numbers_below word) (let more : 0 < sum_by (λ n. one_if (is_past n)) (numbers_below word) = omega arith in more) in
    let up : most_events ≤ found.1 = by_test (nat_lt found.1 most_events) refl found.3 in
    let within : found.0 < length (numbers_below word) = slice_get_within (numbers_below word) found.0 found.1 found.2 in
    let read : get_or (numbers_below word) found.0 found.1 ≡ found.1 = get_or_from_slice_get (numbers_below word) found.0 found.1 found.1 found.2 in
    let below : get_or (numbers_below word) found.0 found.1 < word = range_below word 0 word (omega arith) found.0 found.1 within in
    (counted lists gained word all same).1 ∙ (cut_at most_events word).3 (omega arith) where
      by_test : {n : ℕ} (b : Bool) → nat_lt n most_events ≡ b → 0 < one_if (not b) → most_events ≤ n
      by_test true is some = absurd (omega arith)
      by_test {n} false is some = ltb-false n most_events is

-- where the most events were met, nothing is left
pub none_past_most : (lists : List (List (ℕ × Event))) (n total : ℕ) → AreLeft lists n total → total ≤ n → entries_of lists ≡ []
none_past_most lists n total left up =
    nil_from_length (entries_of lists) (let count = how_many_left lists n total left in let none : length (entries_of lists) ≡ 0 = omega arith in none)

-- nor where no list has the next number first
pub none_left : (lists : List (List (ℕ × Event))) (n total : ℕ) → All IsRising lists → AreLeft lists n total → All (λ list. next_number list ≢ Some n) lists → entries_of lists ≡ []
none_left lists n total rising left none = by_test (nat_lt n total) refl where
  by_test : (b : Bool) → nat_lt n total ≡ b → entries_of lists ≡ []
  by_test true is = absurd (next_there lists n total rising left (ltb-true n total is) none)
  by_test false is = none_past_most lists n total left (ltb-false n total is)
