-- Counting among the known pairs, in their order.
use Rattle.std.proofs.Common.{ℕ, zero, suc, ◌≡◌, ◌<◌, ◌≤◌, ◌+◌, ◌⊎◌, inl, inr, List, [], ◌∷◌, length, refl, sym, ap, subst, ◌∙◌, arith, Bool, true, false, cond, true≢false, Some, slice_get, get_or, Ordering}
use Rattle.std.specs.Prelude.{IsPermutation, IsSorted}
use Rattle.std.specs.Cmp.{IsTotalOrder}
use Rattle.std.specs.List.{count_by}
use Rattle.std.specs.List.Sorted.{IsPartitionPoint, IsPartitionedBy}
use Rattle.std.specs.Ordering.{is_lt, nat_cmp, ordering_then}
use Rattle.std.specs.declared.cmp.Ordering.TheVariants.{Less, Equal, Greater}
use Rattle.std.proofs.lemmas.Bool.{cases_Bool, cases_lt, false_from_ne_true}
use Rattle.std.proofs.lemmas.Cmp.{nat_cmp_total, on_total, ranked, then_total}
use Rattle.std.proofs.lemmas.List.Recursion.{is_count_by}
use Rattle.std.proofs.lemmas.List.Sorted.{Contains-permutation, IsPermutation-sym, ranks_by, sorted_far, sum_by-IsPermutation}
use Rattle.std.proofs.lemmas.Option.{get_or_from_slice_get, slice_get-get_or, slice_get_within}
use Rattle.version_pair.specs.declared.pair.Pair.{Pair}
use Rattle.version_pair.specs.PairOrder.{IsBelow}
use Rattle.doc_register.proofs.RunLemmas.{below_trans, not_below_itself}
use Rattle.events.specs.declared.record.Rec.{Rec}
use Rattle.deciding.specs.Reported.{IsKnown, known_pairs}
use Rattle.deciding.specs.Positions.{count_below, is_below}
use Rattle.deciding.specs.Branches.{is_among}
use Rattle.write_chain.specs.Chain.{pair_cmp}
use Rattle.deciding.specs.aids.KnownPairs.{AreKnown}
use Rattle.deciding.proofs.Counts.{below_tested, pair_order, tested_below}
use Rattle.deciding.proofs.OrderedPositions.{among_known, known_among}

-- ---- a count as one of std

counted_by : (vs : List Pair) (p : Pair) → count_below vs p ≡ count_by (λ v. is_below v p) vs
counted_by vs p = is_count_by (λ xs. count_below xs p) (λ v. is_below v p) refl (λ x xs. one_more (is_below x p) (count_below xs p)) vs where
  one_more : (b : Bool) (n : ℕ) → cond b (suc n) n ≡ cond b (1 + n) n
  one_more true n = omega arith
  one_more false n = refl

pub count_moved : (xs ys : List Pair) (p : Pair) → IsPermutation xs ys → count_below ys p ≡ count_below xs p
count_moved xs ys p moved = counted_by ys p ∙ (sum_by-IsPermutation (λ v. cond (is_below v p) 1 0) xs ys moved ∙ sym (counted_by xs p))

-- if those below come first, their count is the index of the first other
pub count_parted : (vs : List Pair) (p : Pair) (i : ℕ) → i ≤ length vs → ((j : ℕ) (d : Pair) → j < i → is_below (get_or vs j d) p ≡ true)
    → ((j : ℕ) (d : Pair) → i ≤ j → j < length vs → is_below (get_or vs j d) p ≡ false) → i ≡ count_below vs p
count_parted [] p i within low high = omega arith
count_parted (v ∷ vs) p zero within low high =
    let rest : 0 ≡ count_below vs p = count_parted vs p zero (omega arith) (λ j d less. absurd (omega arith)) (λ j d from inside. high (suc j) d (omega arith) (omega arith)) in
    rest ∙ sym (ap (λ b. cond b (suc (count_below vs p)) (count_below vs p)) (high 0 v (omega arith) (omega arith)))
count_parted (v ∷ vs) p (suc i) within low high =
    let rest : i ≡ count_below vs p = count_parted vs p i (omega arith) (λ j d less. low (suc j) d (omega arith)) (λ j d from inside. high (suc j) d (omega arith) (omega arith)) in
    ap suc rest ∙ sym (ap (λ b. cond b (suc (count_below vs p)) (count_below vs p)) (low 0 v (omega arith)))

-- ---- sorted pairs

pair_total : IsTotalOrder pair_cmp
pair_total = then_total (on_total (λ (p : Pair). p.term) nat_cmp_total) (on_total (λ (p : Pair). p.seq) nat_cmp_total)

-- a pair that is below another comes before it
below_less : (p q : Pair) → IsBelow p q → is_lt (pair_cmp p q) ≡ true
below_less p q below = by_term (nat_cmp p.term q.term) refl below where
  by_seq : (t : Ordering) → t ≡ nat_cmp p.seq q.seq → p.seq < q.seq → is_lt t ≡ true
  by_seq Less is up = refl
  by_seq Equal is up = let same : p.seq ≡ q.seq = ranked p.seq q.seq Equal is in absurd (omega arith)
  by_seq Greater is up = let low : q.seq < p.seq = ranked p.seq q.seq Greater is in absurd (omega arith)

  by_term : (t : Ordering) → t ≡ nat_cmp p.term q.term → IsBelow p q → is_lt (ordering_then t (nat_cmp p.seq q.seq)) ≡ true
  by_term Less is up = refl
  by_term Equal is (inl up) = let equal : p.term ≡ q.term = ranked p.term q.term Equal is in absurd (omega arith)
  by_term Equal is (inr same) = by_seq (nat_cmp p.seq q.seq) refl same.1
  by_term Greater is (inl up) = let low : q.term < p.term = ranked p.term q.term Greater is in absurd (omega arith)
  by_term Greater is (inr same) = let low : q.term < p.term = ranked p.term q.term Greater is in let equal : p.term ≡ q.term = same.0 in absurd (omega arith)

-- no later pair is below an earlier one
pub later_not_below : (vs : List Pair) (i j : ℕ) (d : Pair) → IsSorted pair_cmp vs → i ≤ j → j < length vs → ¬ IsBelow (get_or vs j d) (get_or vs i d)
later_not_below vs i j d sorted less within below =
    let far : is_lt (pair_cmp (get_or vs j d) (get_or vs i d)) ≡ false = sorted_far (λ x y. is_lt (pair_cmp x y)) (ranks_by pair_total (λ (x : Pair). x)) vs sorted i j d less within in
    true≢false (sym (below_less (get_or vs j d) (get_or vs i d) below) ∙ far)

-- those below a pair come first
pub below_first : (vs : List Pair) (p : Pair) → IsSorted pair_cmp vs → IsPartitionedBy (λ v. is_below v p) vs
below_first vs p sorted i j d less within is = by_order (pair_order (get_or vs i d) (get_or vs j d)) where
  low : IsBelow (get_or vs j d) p
  low = tested_below (get_or vs j d) p is

  by_order : IsBelow (get_or vs i d) (get_or vs j d) ⊎ ((get_or vs i d ≡ get_or vs j d) ⊎ IsBelow (get_or vs j d) (get_or vs i d)) → is_below (get_or vs i d) p ≡ true
  by_order (inl below) = below_tested (get_or vs i d) p (below_trans (get_or vs i d) (get_or vs j d) p below low)
  by_order (inr (inl same)) = below_tested (get_or vs i d) p (subst (λ v. IsBelow v p) (sym same) low)
  by_order (inr (inr above)) = absurd (later_not_below vs i j d sorted less within above)

-- the point between those below a pair and the others is their count
pub count_is_point : (records : List Rec) (vs : List Pair) (p : Pair) (i : ℕ) → AreKnown records vs → i ≤ length vs → IsPartitionPoint (λ v. is_below v p ≡ true) (λ v. is_below v p ≡ false) vs i
    → i ≡ count_below (known_pairs records) p
count_is_point records vs p i known within point =
    count_parted vs p i within (λ j d less. point.0 j d (omega arith) less) (λ j d from inside. point.1 j d from inside) ∙ count_moved (known_pairs records) vs p known.all

-- ---- a list and its permutation

-- the pair is one of the list
abbrev pub Has : List Pair → Pair → Type 0
Has vs p = (i : ℕ) × (slice_get vs i ≡ Some p)

has_moved : (xs ys : List Pair) (p : Pair) → IsPermutation xs ys → Has xs p → Has ys p
has_moved xs ys p moved has =
    let there = Contains-permutation xs ys p moved (has.0, slice_get_within xs has.0 p has.1, get_or_from_slice_get xs has.0 p p has.1) in
    (there.0, slice_get-get_or ys there.0 p there.1 ∙ ap (λ y. Some y) there.2)

-- a known pair is one of the sorted ones, and each of these is known
pub known_there : (records : List Rec) (vs : List Pair) (p : Pair) → AreKnown records vs → IsKnown records p → Has vs p
known_there records vs p known is = has_moved (known_pairs records) vs p known.all is

pub there_known : (records : List Rec) (vs : List Pair) (p : Pair) → AreKnown records vs → Has vs p → IsKnown records p
there_known records vs p known has = has_moved vs (known_pairs records) p (IsPermutation-sym (known_pairs records) vs known.all) has

-- ---- the count splits the list

parted_rest : (v : Pair) (vs : List Pair) (p : Pair) → IsPartitionedBy (λ u. is_below u p) (v ∷ vs) → IsPartitionedBy (λ u. is_below u p) vs
parted_rest v vs p parted i j d less within is = parted (suc i) (suc j) d (omega arith) (omega arith) is

none_counted : (vs : List Pair) (p : Pair) → ((j : ℕ) (d : Pair) → j < length vs → is_below (get_or vs j d) p ≡ false) → count_below vs p ≡ 0
none_counted vs p none = sym (count_parted vs p 0 (omega arith) (λ j d less. absurd (omega arith)) (λ j d from inside. none j d inside))

-- those below the pair are before the index that is their count, and only those
pub below_inside : (vs : List Pair) (p : Pair) (j : ℕ) (d : Pair) → IsPartitionedBy (λ u. is_below u p) vs → j < length vs → is_below (get_or vs j d) p ≡ true → j < count_below vs p
below_inside [] p j d parted within is = absurd (omega arith)
below_inside (v ∷ vs) p zero d parted within is =
    let one : count_below (v ∷ vs) p ≡ suc (count_below vs p) = ap (λ b. cond b (suc (count_below vs p)) (count_below vs p)) is in omega arith
below_inside (v ∷ vs) p (suc j) d parted within is =
    let first : is_below v p ≡ true = parted 0 (suc j) d (omega arith) within is in
    let one : count_below (v ∷ vs) p ≡ suc (count_below vs p) = ap (λ b. cond b (suc (count_below vs p)) (count_below vs p)) first in
    let rest : j < count_below vs p = below_inside vs p j d (parted_rest v vs p parted) (omega arith) is in
    omega arith

pub inside_below : (vs : List Pair) (p : Pair) (j : ℕ) (d : Pair) → IsPartitionedBy (λ u. is_below u p) vs → j < count_below vs p → is_below (get_or vs j d) p ≡ true
inside_below [] p j d parted less = absurd (omega arith)
inside_below (v ∷ vs) p j d parted less = by_first (cases_Bool (is_below v p)) j less (λ k low. inside_below vs p k d (parted_rest v vs p parted) low) where
  by_first : (is_below v p ≡ true) ⊎ (is_below v p ≡ false) → (j : ℕ) → j < count_below (v ∷ vs) p → ((k : ℕ) → k < count_below vs p → is_below (get_or vs k d) p ≡ true) → is_below (get_or (v ∷ vs) j d) p ≡ true
  by_first (inl first) zero less later = first
  by_first (inl first) (suc j) less later =
      let one : count_below (v ∷ vs) p ≡ suc (count_below vs p) = ap (λ b. cond b (suc (count_below vs p)) (count_below vs p)) first in
      later j (omega arith)
  by_first (inr not) j less later =
      let same : count_below (v ∷ vs) p ≡ count_below vs p = ap (λ b. cond b (suc (count_below vs p)) (count_below vs p)) not in
      let none : count_below vs p ≡ 0 = none_counted vs p (λ k d within. false_from_ne_true (is_below (get_or vs k d) p) (λ is. true≢false (sym (parted 0 (suc k) d (omega arith) (omega arith) is) ∙ not))) in
      absurd (omega arith)

-- ---- whether a pair is known

-- a known pair is at the index that is the count of those below it
pub known_at : (records : List Rec) (vs : List Pair) (p : Pair) (i : ℕ) (v : Pair) → AreKnown records vs → i ≡ count_below (known_pairs records) p → i < length vs → v ≡ get_or vs i v
    → IsKnown records p → v ≡ p
known_at records vs p i v known is within read has =
    by_order (pair_order v p) where
      there : Has vs p
      there = known_there records vs p known has

      count : i ≡ count_below vs p
      count = is ∙ sym (count_moved (known_pairs records) vs p known.all)

      inside : there.0 < length vs
      inside = slice_get_within vs there.0 p there.1

      here : get_or vs there.0 v ≡ p
      here = get_or_from_slice_get vs there.0 p v there.1

      from : i ≤ there.0
      from = by_place (cases_lt there.0 i) where
        by_place : ((there.0 < i) ⊎ (i ≤ there.0)) → i ≤ there.0
        by_place (inr not) = not
        by_place (inl less) =
            let low : is_below (get_or vs there.0 v) p ≡ true = inside_below vs p there.0 v (below_first vs p known.in_order) (let same : i ≡ count_below vs p = count in omega arith) in
            absurd (not_below_itself p (subst (λ u. IsBelow u p) here (tested_below (get_or vs there.0 v) p low)))

      by_order : IsBelow v p ⊎ ((v ≡ p) ⊎ IsBelow p v) → v ≡ p
      by_order (inl below) =
          let less : i < count_below vs p = below_inside vs p i v (below_first vs p known.in_order) within (below_tested (get_or vs i v) p (subst (λ u. IsBelow u p) read below)) in
          let same : i ≡ count_below vs p = count in
          absurd (omega arith)
      by_order (inr (inl same)) = same
      by_order (inr (inr above)) =
          absurd (later_not_below vs i there.0 v known.in_order from inside (subst (λ u. IsBelow u (get_or vs i v)) (sym here) (subst (IsBelow p) read above)))

-- a pair is not known if the count of those below it is past the list
pub none_past : (records : List Rec) (vs : List Pair) (p : Pair) (i : ℕ) → AreKnown records vs → i ≡ count_below (known_pairs records) p → length vs ≤ i → ¬ IsKnown records p
none_past records vs p i known is past has =
    let there = known_there records vs p known has in
    let inside : there.0 < length vs = slice_get_within vs there.0 p there.1 in
    let count : i ≡ count_below vs p = is ∙ sym (count_moved (known_pairs records) vs p known.all) in
    let here : get_or vs there.0 p ≡ p = get_or_from_slice_get vs there.0 p p there.1 in
    let low : is_below (get_or vs there.0 p) p ≡ true = inside_below vs p there.0 p (below_first vs p known.in_order) (omega arith) in
    not_below_itself p (subst (λ u. IsBelow u p) here (tested_below (get_or vs there.0 p) p low))

-- a test that holds of just the known pairs is this one
pub same_as_among : (records : List Rec) (p : Pair) (b : Bool) → (b ≡ true → IsKnown records p) → (IsKnown records p → b ≡ true) → b ≡ is_among (known_pairs records) p
same_as_among records p true to back = sym (known_among records p (to refl))
same_as_among records p false to back = sym (false_from_ne_true (is_among (known_pairs records) p) (λ is. true≢false (sym (back (among_known records p is)))))
