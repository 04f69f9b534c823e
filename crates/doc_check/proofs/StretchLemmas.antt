-- The stretches that a call can stand in: by its pair, and by whether the document is there.
use Rattle.std.proofs.Common.{ℕ, zero, suc, ◌≡◌, ◌<◌, ◌≤◌, ◌+◌, inl, inr, List, [], ◌∷◌, ◌++◌, length, map, refl, sym, ap, subst, ◌∙◌, arith, Bool, true, false, cond, Option, Some, None, Err, slice_get, get_or, length-append, add-one, Ordering}
use Rattle.std.specs.Prelude.{IfSome, IfNone, IsSorted, not, option_map}
use Rattle.std.specs.Cmp.{IsTotalOrder}
use Rattle.std.specs.List.{HoldsAt}
use Rattle.std.specs.List.Sorted.{IsBinarySearchResult}
use Rattle.std.specs.Ordering.{is_lt, nat_cmp, ordering_then}
use Rattle.std.specs.declared.cmp.Ordering.TheVariants.{Less, Equal, Greater}
use Rattle.std.proofs.lemmas.Bool.{cases_lt, cond-false, cond-true, true≢false, false≢true, true_from_ne_false}
use Rattle.std.proofs.lemmas.Cmp.{nat_cmp_total, on_total, ranked, then_total, tied_itself}
use Rattle.std.proofs.lemmas.List.{get_or_past}
use Rattle.std.proofs.lemmas.List.Sorted.{searchable_from_sorted}
use Rattle.std.proofs.lemmas.Option.{get_or_from_slice_get, slice_get-map, slice_get_read, slice_get_within}
use Rattle.std.proofs.Math.ListN.{length-map}
use Rattle.version_pair.specs.declared.pair.Pair.{Pair}
use Rattle.version_pair.specs.PairOrder.{IsBelow}
use Rattle.version_pair.proofs.PairLemmas.{same_pair}
use Rattle.doc_register.specs.declared.op.Op.{Op}
use Rattle.doc_register.specs.declared.op.Op.TheVariants.{Get, Index, Delete, Create}
use Rattle.doc_register.specs.declared.reply.Reply.TheVariants.{Missing, Conflict, Found}
use Rattle.doc_register.specs.declared.state.DocState.{DocState}
use Rattle.doc_register.specs.declared.state.DocState.TheVariants.{Never, Gone, Here}
use Rattle.doc_register.specs.Register.{HasPair, is_here, shown, performed_state}
use Rattle.doc_register.proofs.RunLemmas.{not_below_itself}
use Rattle.events.specs.declared.record.Rec.{Rec}
use Rattle.version_pair.proofs.ListLemmas.{compare, get_front, get_last, get_within, none_is_not_some, same_some}
use Rattle.write_chain.specs.Chain.{Rises, after_link, pair_cmp, written}
use Rattle.doc_check.specs.aids.Stretches.{AreLaidOut, HoldsNowhere, IsGuess, IsLatest, IsReadIn, IsTable, WriteFits, is_as_asked, is_so, latest_below, state_in, states_of}
use Rattle.doc_check.specs.declared.stretches.Stretches.{Stretches}
use Rattle.doc_check.proofs.ChainLemmas.{rising_climbs}

-- ---- the latest number that passes

latest_some : (test : ℕ → Bool) (n j : ℕ) → latest_below test n ≡ Some j → (j < n) × (test j ≡ true) × ((l : ℕ) → l < n → test l ≡ true → l ≤ j)
latest_some test zero j is = absurd (none_is_not_some j is)
latest_some test (suc n) j is = by_test (test n) refl is (λ e. latest_some test n j e) where
  by_test : (b : Bool) → test n ≡ b → cond b (Some n) (latest_below test n) ≡ Some j
      → (latest_below test n ≡ Some j → (j < n) × (test j ≡ true) × ((l : ℕ) → l < n → test l ≡ true → l ≤ j))
      → (j < suc n) × (test j ≡ true) × ((l : ℕ) → l < suc n → test l ≡ true → l ≤ j)
  by_test true passes here before =
      let same : n ≡ j = same_some n j here in
      ((omega arith), subst (λ k. test k ≡ true) same passes, λ l less t. (omega arith))
  by_test false fails here before =
      let rest = before here in let below : j < n = rest.0 in (
        (omega arith),
        rest.1,
        λ l less t. elim (cases_lt l n) as (λ _. l ≤ j) [
          | inl early ↦ rest.2 l early t
          | inr late ↦ absurd (true≢false (sym t ∙ (ap test (let e : l ≡ n = omega arith in e) ∙ fails)))
        ],
      )

latest_none : (test : ℕ → Bool) (n : ℕ) → latest_below test n ≡ None → (l : ℕ) → l < n → test l ≡ true → ⊥
latest_none test zero is l less t = omega arith
latest_none test (suc n) is l less t = by_test (test n) refl is (λ e. latest_none test n e) where
  by_test : (b : Bool) → test n ≡ b → cond b (Some n) (latest_below test n) ≡ None → (latest_below test n ≡ None → (k : ℕ) → k < n → test k ≡ true → ⊥) → ⊥
  by_test true passes here before = none_is_not_some n (sym here)
  by_test false fails here before = elim (cases_lt l n) as (λ _. ⊥) [
    | inl early ↦ before here l early t
    | inr late ↦ true≢false (sym t ∙ (ap test (let e : l ≡ n = omega arith in e) ∙ fails))
  ]

-- the latest stretch up to one more
pub latest_kept : (states : List DocState) (live : Bool) (n : ℕ) (s : DocState) (b : Bool) (before latest : Option ℕ) → n < length states → s ≡ get_or states n s
    → b ≡ is_as_asked live s → b ≡ false → latest ≡ before → latest ≡ cond (is_so states live n) (Some n) before
latest_kept states live n s b before latest within read test is same =
    let here : slice_get states n ≡ Some s = slice_get_read states (length states) n s refl within read in
    let state : state_in states n ≡ s = get_or_from_slice_get states n s Never here in
    let fails : is_so states live n ≡ false = ap (is_as_asked live) state ∙ (sym test ∙ is) in
    same ∙ sym (cond-false (is_so states live n) (Some n) before fails)

pub latest_new : (states : List DocState) (live : Bool) (n : ℕ) (s : DocState) (b : Bool) (before latest : Option ℕ) → n < length states → s ≡ get_or states n s
    → b ≡ is_as_asked live s → b ≡ true → latest ≡ Some n → latest ≡ cond (is_so states live n) (Some n) before
latest_new states live n s b before latest within read test is same =
    let here : slice_get states n ≡ Some s = slice_get_read states (length states) n s refl within read in
    let state : state_in states n ≡ s = get_or_from_slice_get states n s Never here in
    let passes : is_so states live n ≡ true = ap (is_as_asked live) state ∙ (sym test ∙ is) in
    same ∙ sym (cond-true (is_so states live n) (Some n) before passes)

-- one more entry of a table
pub table_more : (states : List DocState) (live : Bool) (n : ℕ) (table news : List (Option ℕ)) (before latest : Option ℕ) → IsTable states live n table
    → before ≡ latest_below (is_so states live) n → latest ≡ cond (is_so states live n) (Some n) before → news ≡ table ++ latest ∷ []
    → IsTable states live (n + 1) news × (latest ≡ latest_below (is_so states live) (n + 1))
table_more states live n table news before latest is before_is latest_is news_is =
    let size : length table ≡ n = is.0 in
    let more : length (table ++ latest ∷ []) ≡ length table + length (latest ∷ []) = length-append table (latest ∷ []) in
    let all : length news ≡ length (table ++ latest ∷ []) = ap length news_is in
    let value : latest ≡ latest_below (is_so states live) (suc n) = latest_is ∙ ap (λ o. cond (is_so states live n) (Some n) o) before_is in (
      (
        (omega arith),
        λ j less. elim (cases_lt j n) as (λ _. slice_get news j ≡ Some (latest_below (is_so states live) (suc j))) [
          | inl early ↦ ap (λ xs. slice_get xs j) news_is ∙ get_front table (latest ∷ []) j (latest_below (is_so states live) (suc j)) (is.1 j early)
          | inr late ↦
              let here : j ≡ n = omega arith in
              ap (λ xs. slice_get xs j) news_is
              ∙ (ap (slice_get (table ++ latest ∷ [])) (here ∙ sym size)
              ∙ (get_last table latest ∙ (ap (λ o. Some o) value ∙ ap (λ k. Some (latest_below (is_so states live) (suc k))) (sym here))))
        ],
      ),
      value ∙ ap (latest_below (is_so states live)) (sym (add-one n)),
    )

-- the entry of a table, where a property is just that the stretch is so
-- a bound within the states has an entry
entry_at : (states : List DocState) (live : Bool) (table : List (Option ℕ)) (bound : ℕ) (o : Option ℕ) → IsTable states live (length states) table → bound < length states → o ≡ get_or table bound o → slice_get table bound ≡ Some o
entry_at states live table bound o is within read = slice_get_read table (length table) bound o refl (let size : length table ≡ length states = is.0 in omega arith) read

pub entry_some : (states : List DocState) (live : Bool) (table : List (Option ℕ)) (bound : ℕ) (o : Option ℕ) (P : ℕ → Type 0) → IsTable states live (length states) table
    → bound < length states → o ≡ get_or table bound o → ((l : ℕ) → P l → is_so states live l ≡ true) → ((l m : ℕ) → P l → is_so states live m ≡ true → P m)
    → IfSome o (IsGuess P bound)
entry_some states live table bound None P is within read to back = tt
entry_some states live table bound (Some j) P is within read to back =
    let at = entry_at states live table bound (Some j) is within read in
    let found = latest_some (is_so states live) (suc bound) j (sym (same_some (Some j) _ (sym at ∙ is.1 bound within))) in
    let below : j < suc bound = found.0 in
    record { within = (omega arith); best = λ l less p. (found.2 l (omega arith) (to l p), back l j p found.1) }

pub entry_none : (states : List DocState) (live : Bool) (table : List (Option ℕ)) (bound : ℕ) (o : Option ℕ) (P : ℕ → Type 0) → IsTable states live (length states) table
    → bound < length states → o ≡ get_or table bound o → ((l : ℕ) → P l → is_so states live l ≡ true) → IfNone o (HoldsNowhere P bound)
entry_none states live table bound None P is within read to =
    let at = entry_at states live table bound None is within read in
    λ l less p. latest_none (is_so states live) (suc bound) (sym (same_some None _ (sym at ∙ is.1 bound within))) l (omega arith) (to l p)
entry_none states live table bound (Some j) P is within read to = tt

-- a create that conflicts asks for the document, a get that misses for its absence
pub create_to : (states : List DocState) (k l : ℕ) → IsReadIn states (Create k) Conflict l → is_so states true l ≡ true
create_to states k l p = true_from_ne_false (is_here (state_in states l)) p.0

pub create_back : (states : List DocState) (k l m : ℕ) → IsReadIn states (Create k) Conflict l → is_so states true m ≡ true → IsReadIn states (Create k) Conflict m
create_back states k l m p t = (λ f. true≢false (sym t ∙ f), refl)

absent_shows : (s : DocState) → Missing ≡ shown s → not (is_here s) ≡ true
absent_shows Never is = refl
absent_shows (Gone p) is = refl
absent_shows (Here p k) is = let impossible : Missing ≡ Found p k = is in absurd (cc)

shows_absent : (s : DocState) → not (is_here s) ≡ true → Missing ≡ shown s
shows_absent Never t = refl
shows_absent (Gone p) t = refl
shows_absent (Here p k) t = absurd (false≢true t)

pub missing_to : (states : List DocState) (op : Op) (l : ℕ) → IsReadIn states op Missing l → is_so states false l ≡ true
missing_to states Get l p = absent_shows (state_in states l) p.0
missing_to states (Index k c) l p = absurd p
missing_to states (Delete c) l p = absurd p
missing_to states (Create k) l p = absurd p

pub missing_back : (states : List DocState) (op : Op) (l m : ℕ) → IsReadIn states op Missing l → is_so states false m ≡ true → IsReadIn states op Missing m
missing_back states Get l m p t = (shows_absent (state_in states m) t, refl, refl)
missing_back states (Index k c) l m p t = absurd p
missing_back states (Delete c) l m p t = absurd p
missing_back states (Create k) l m p t = absurd p

found_has : (s : DocState) (q : Pair) (k : ℕ) → Found q k ≡ shown s → HasPair s q
found_has Never q k is = let impossible : Found q k ≡ Missing = is in absurd (cc)
found_has (Gone p) q k is = let impossible : Found q k ≡ Missing = is in absurd (cc)
found_has (Here p j) q k is = let same : Found q k ≡ Found p j = is in (cc)

pub found_to : (states : List DocState) (op : Op) (q : Pair) (k l : ℕ) → IsReadIn states op (Found q k) l → HasPair (state_in states l) q
found_to states Get q k l p = found_has (state_in states l) q k p.0
found_to states (Index j c) q k l p = absurd p
found_to states (Delete c) q k l p = absurd p
found_to states (Create j) q k l p = absurd p

-- ---- the stretch of a pair

pair_total : IsTotalOrder pair_cmp
pair_total = then_total (on_total (λ (p : Pair). p.term) nat_cmp_total) (on_total (λ (p : Pair). p.seq) nat_cmp_total)

not_lt_of_below : (p q : Pair) → IsBelow p q → is_lt (pair_cmp q p) ≡ false
not_lt_of_below p q below = by_term (nat_cmp q.term p.term) refl below where
  by_seq : (t : Ordering) → t ≡ nat_cmp q.seq p.seq → p.seq < q.seq → is_lt t ≡ false
  by_seq Less is up = let low : q.seq < p.seq = ranked q.seq p.seq Less is in absurd (omega arith)
  by_seq Equal is up = refl
  by_seq Greater is up = refl

  by_term : (t : Ordering) → t ≡ nat_cmp q.term p.term → IsBelow p q → is_lt (ordering_then t (nat_cmp q.seq p.seq)) ≡ false
  by_term Less is (inl up) = let low : q.term < p.term = ranked q.term p.term Less is in absurd (omega arith)
  by_term Less is (inr same) = let low : q.term < p.term = ranked q.term p.term Less is in let equal : p.term ≡ q.term = same.0 in absurd (omega arith)
  by_term Equal is (inl up) = let equal : q.term ≡ p.term = ranked q.term p.term Equal is in absurd (omega arith)
  by_term Equal is (inr same) = by_seq (nat_cmp q.seq p.seq) refl same.1
  by_term Greater is up = refl

pairs_equal : (p q : Pair) → pair_cmp p q ≡ Equal → p ≡ q
pairs_equal p q is = by_term (nat_cmp p.term q.term) refl is where
  by_term : (t : Ordering) → t ≡ nat_cmp p.term q.term → ordering_then t (nat_cmp p.seq q.seq) ≡ Equal → p ≡ q
  by_term Less is same = let impossible : Less ≡ Equal = same in absurd (cc)
  by_term Equal is same = same_pair p q (ranked p.term q.term Equal is) (ranked p.seq q.seq Equal (sym same))
  by_term Greater is same = let impossible : Greater ≡ Equal = same in absurd (cc)

first_of : Pair × ℕ → Pair
first_of c = c.0

-- the pair at a place of the chain
pair_there : (chain : List (Pair × ℕ)) (pairs : List Pair) (k : ℕ) (c : Pair × ℕ) → pairs ≡ map (λ l. l.0) chain → slice_get chain k ≡ Some c → slice_get pairs k ≡ Some c.0
pair_there chain pairs k c is at = ap (λ ps. slice_get ps k) is ∙ (slice_get-map (λ (l : Pair × ℕ). l.0) chain k ∙ ap (option_map (λ (l : Pair × ℕ). l.0)) at)

pairs_sorted : (chain : List (Pair × ℕ)) (pairs : List Pair) → Rises chain → pairs ≡ map (λ l. l.0) chain → IsSorted pair_cmp pairs
pairs_sorted chain pairs rises is k d low within =
    let size : length pairs ≡ length chain = ap length is ∙ length-map chain (λ (l : Pair × ℕ). l.0) in
    let a = get_within chain k (omega arith) in
    let b = get_within chain (k + 1) (omega arith) in
    let first : get_or pairs k d ≡ a.0.0 = get_or_from_slice_get pairs k a.0.0 d (pair_there chain pairs k a.0 is a.1) in
    let second : get_or pairs (k + 1) d ≡ b.0.0 = get_or_from_slice_get pairs (k + 1) b.0.0 d (pair_there chain pairs (k + 1) b.0 is b.1) in
    let below : IsBelow a.0.0 b.0.0 = rises k a.0 b.0 a.1 (ap (slice_get chain) (sym (add-one k)) ∙ b.1) in
    subst (λ x. is_lt (pair_cmp x (get_or pairs k d)) ≡ false) (sym second) (subst (λ y. is_lt (pair_cmp b.0.0 y) ≡ false) (sym first) (not_lt_of_below a.0.0 b.0.0 below))

-- a search finds the pair where it stands
pub pair_stands : (pairs : List Pair) (q : Pair) (k : ℕ) → slice_get pairs k ≡ Some q → HoldsAt (λ p. pair_cmp p q ≡ Equal) pairs k
pair_stands pairs q k at d = ap (λ p. pair_cmp p q) (get_or_from_slice_get pairs k q d at) ∙ tied_itself pair_total q

-- what a binary search for the pair found
pub search_found : (chain : List (Pair × ℕ)) (pairs : List Pair) (q : Pair) (i : ℕ) → pairs ≡ map (λ l. l.0) chain → i < length pairs
    → HoldsAt (λ y. pair_cmp y q ≡ Equal) pairs i → (c : Pair × ℕ) × (slice_get chain i ≡ Some c) × (c.0 ≡ q)
search_found chain pairs q i is within holds =
    let size : length pairs ≡ length chain = ap length is ∙ length-map chain (λ (l : Pair × ℕ). l.0) in
    let c = get_within chain i (omega arith) in
    let here : get_or pairs i q ≡ c.0.0 = get_or_from_slice_get pairs i c.0.0 q (pair_there chain pairs i c.0 is c.1) in
    (c.0, c.1, sym here ∙ pairs_equal (get_or pairs i q) q (holds q))

-- and what it found not
pub search_missed : (chain : List (Pair × ℕ)) (pairs : List Pair) (q : Pair) (i : ℕ) → Rises chain → pairs ≡ map (λ l. l.0) chain
    → IsBinarySearchResult (λ y. pair_cmp y q) pairs (Err i) → (k : ℕ) (c : Pair × ℕ) → slice_get chain k ≡ Some c → c.0 ≡ q → ⊥
search_missed chain pairs q i rises is found k c at same =
    let parts = found (searchable_from_sorted pair_total (λ (p : Pair). p) pairs q (pairs_sorted chain pairs rises is)) in
    let there : slice_get pairs k ≡ Some c.0 = pair_there chain pairs k c is at in
    let here : get_or pairs k q ≡ q = get_or_from_slice_get pairs k c.0 q there ∙ same in
    let tie : pair_cmp q q ≡ Equal = tied_itself pair_total q in
    elim (cases_lt k i) as (λ _. ⊥) [
      | inl early ↦
          let less : pair_cmp (get_or pairs k q) q ≡ Less = parts.0 k q (omega arith) early in
          let impossible : Less ≡ Equal = sym less ∙ (ap (λ x. pair_cmp x q) here ∙ tie) in cc
      | inr late ↦
          let more : pair_cmp (get_or pairs k q) q ≡ Greater = parts.1 k q late (slice_get_within pairs k c.0 there) in
          let impossible : Greater ≡ Equal = sym more ∙ (ap (λ x. pair_cmp x q) here ∙ tie) in cc
    ]

-- a pair stands at one place of the chain
pub one_place : (chain : List (Pair × ℕ)) (i k : ℕ) (c d : Pair × ℕ) → Rises chain → slice_get chain i ≡ Some c → slice_get chain k ≡ Some d → c.0 ≡ d.0 → i ≡ k
one_place chain i k c d rises at bt same = compare i k
    (λ less. not_below_itself c.0 (subst (λ q. IsBelow c.0 q) (sym same) (rising_climbs chain rises i k c d less at bt)))
    (λ less. not_below_itself d.0 (subst (λ q. IsBelow d.0 q) same (rising_climbs chain rises k i d c less bt at)))

written_has : (o : Option Rec) (q p : Pair) → HasPair (written o q) p → q ≡ p
written_has None q p has = absurd has
written_has (Some r) q p has = by_op r.op has where
  by_op : (op : Op) → HasPair (performed_state Never op q) p → q ≡ p
  by_op Get here = absurd here
  by_op (Index k c) here = here
  by_op (Delete c) here = absurd here
  by_op (Create k) here = here

-- where the document has a pair, the stretch is that of the pair's write
pair_stretch : (records : List Rec) (chain : List (Pair × ℕ)) (l : ℕ) (p : Pair) → HasPair (state_in (states_of records chain) l) p
    → (k : ℕ) × (c : Pair × ℕ) × (l ≡ suc k) × (slice_get chain k ≡ Some c) × (c.0 ≡ p)
pair_stretch records chain zero p has = absurd has
pair_stretch records chain (suc k) p has = elim (cases_lt k (length chain)) as (λ _. (j : ℕ) × (c : Pair × ℕ) × (suc k ≡ suc j) × (slice_get chain j ≡ Some c) × (c.0 ≡ p)) [
  | inl within ↦
      let c = get_within chain k within in
      let state : get_or (map (after_link records) chain) k Never ≡ after_link records c.0 =
      get_or_from_slice_get (map (after_link records) chain) k (after_link records c.0) Never
      (slice_get-map (after_link records) chain k ∙ ap (option_map (after_link records)) c.1) in
      (k, c.0, refl, c.1, written_has (slice_get records c.0.1) c.0.0 p (subst (λ s. HasPair s p) state has))
  | inr past ↦
      let size : length (map (after_link records) chain) ≡ length chain = length-map chain (after_link records) in
      absurd (subst (λ s. HasPair s p) (get_or_past (map (after_link records) chain) k Never (omega arith)) has)
]

pub pair_found : (s : Stretches) (q : Pair) (i : ℕ) → AreLaidOut s → i < length s.pairs.items → HoldsAt (λ y. pair_cmp y q ≡ Equal) s.pairs.items i
    → (l : ℕ) → HasPair (state_in s.states.items l) q → l ≡ i + 1
pair_found s q i (records, laid) within holds l has =
    let c = search_found s.chain.items s.pairs.items q i laid.pairs within holds in
    let d = pair_stretch records s.chain.items l q (subst (λ states. HasPair (state_in states l) q) laid.states has) in
    let same : i ≡ d.0 = one_place s.chain.items i d.0 c.0 d.1 laid.rising c.1 d.3 (c.2 ∙ sym d.4) in
    let is : l ≡ suc d.0 = d.2 in
    omega arith

pub pair_missed : (s : Stretches) (q : Pair) (i : ℕ) → AreLaidOut s → IsBinarySearchResult (λ y. pair_cmp y q) s.pairs.items (Err i)
    → (l : ℕ) → HasPair (state_in s.states.items l) q → ⊥
pair_missed s q i (records, laid) found l has =
    let d = pair_stretch records s.chain.items l q (subst (λ states. HasPair (state_in states l) q) laid.states has) in
    search_missed s.chain.items s.pairs.items q i laid.rising laid.pairs found d.0 d.1 d.3 d.4

-- ---- a write's stretch

pub write_found : (s : Stretches) (y : ℕ) (q : Pair) (bound i : ℕ) (d : Pair × ℕ) → AreLaidOut s → i < length s.pairs.items → HoldsAt (λ x. pair_cmp x q ≡ Equal) s.pairs.items i
    → d ≡ get_or s.chain.items i d → d.1 ≡ y → i < bound → IsLatest (WriteFits s.chain.items y q) bound (i + 1)
write_found s y q bound i d (records, laid) within holds read named below =
    let c = search_found s.chain.items s.pairs.items q i laid.pairs within holds in
    let here : d ≡ c.0 = read ∙ get_or_from_slice_get s.chain.items i c.0 d c.1 in
    record {
      within = (omega arith);
      holds = (i, (omega arith), c.1 ∙ (ap (λ p. Some (p, c.0.1)) c.2 ∙ ap (λ n. Some (q, n)) (sym (ap (λ x. x.1) here) ∙ named)));
      latest = λ l less fits.
          let same : i ≡ fits.0 = one_place s.chain.items i fits.0 c.0 (q, y) laid.rising c.1 fits.2 c.2 in
          let is : l ≡ suc fits.0 = fits.1 in omega arith;
    }

pub write_above : (s : Stretches) (y : ℕ) (q : Pair) (bound i : ℕ) → AreLaidOut s → i < length s.pairs.items → HoldsAt (λ x. pair_cmp x q ≡ Equal) s.pairs.items i
    → bound ≤ i → (l : ℕ) → l ≤ bound → WriteFits s.chain.items y q l → ⊥
write_above s y q bound i (records, laid) within holds above l less fits =
    let c = search_found s.chain.items s.pairs.items q i laid.pairs within holds in
    let same : i ≡ fits.0 = one_place s.chain.items i fits.0 c.0 (q, y) laid.rising c.1 fits.2 c.2 in
    let is : l ≡ suc fits.0 = fits.1 in omega arith

pub write_other : (s : Stretches) (y : ℕ) (q : Pair) (bound i : ℕ) (d : Pair × ℕ) → AreLaidOut s → i < length s.pairs.items
    → HoldsAt (λ x. pair_cmp x q ≡ Equal) s.pairs.items i → d ≡ get_or s.chain.items i d → (d.1 ≡ y → ⊥) → (l : ℕ) → l ≤ bound → WriteFits s.chain.items y q l → ⊥
write_other s y q bound i d (records, laid) within holds read other l less fits =
    let c = search_found s.chain.items s.pairs.items q i laid.pairs within holds in
    let same : i ≡ fits.0 = one_place s.chain.items i fits.0 c.0 (q, y) laid.rising c.1 fits.2 c.2 in
    let here : d ≡ c.0 = read ∙ get_or_from_slice_get s.chain.items i c.0 d c.1 in
    let there : c.0 ≡ (q, y) = same_some c.0 (q, y) (sym c.1 ∙ (ap (slice_get s.chain.items) same ∙ fits.2)) in
    other (ap (λ x. x.1) (here ∙ there))

pub write_missed : (s : Stretches) (y : ℕ) (q : Pair) (bound i : ℕ) → AreLaidOut s → IsBinarySearchResult (λ x. pair_cmp x q) s.pairs.items (Err i)
    → (l : ℕ) → l ≤ bound → WriteFits s.chain.items y q l → ⊥
write_missed s y q bound i (records, laid) found l less fits =
    search_missed s.chain.items s.pairs.items q i laid.rising laid.pairs found fits.0 (q, y) fits.2 refl

-- ---- a get's stretch

pub found_guess : (states : List DocState) (op : Op) (q : Pair) (k bound : ℕ) (o : Option ℕ) → IfSome o (λ j. (j ≤ bound) × ((l : ℕ) → HasPair (state_in states l) q → l ≡ j))
    → IfSome o (IsGuess (IsReadIn states op (Found q k)) bound)
found_guess states op q k bound None some = tt
found_guess states op q k bound (Some j) some = record {
  within = some.0;
  best = λ l less p.
      let same : l ≡ j = some.1 l (found_to states op q k l p) in
      ((omega arith), subst (IsReadIn states op (Found q k)) same p);
}
