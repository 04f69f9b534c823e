-- How many of some pairs are below a pair; and known pairs, as a list and by the replies that show them.
use Rattle.std.proofs.Common.{ℕ, zero, suc, ◌≡◌, ◌<◌, ◌≤◌, ◌*◌, ◌⊎◌, ◌++◌, ◌==◌, ◌&&◌, inl, inr, List, [], ◌∷◌, refl, sym, ap, subst, arith, Bool, true, false, cond, nat_lt, true≢false, Option, Some, None, slice_get, length}
use Rattle.std.specs.Option.{option_to_list}
use Rattle.std.proofs.lemmas.Bool.{or_left, or_right, and_from, and_parts, cases_lt, lt-ltb, ltb-true, eq-eqb, eqb-true, or_cases, false_from_ne_true}
use Rattle.version_pair.specs.declared.pair.Pair.{Pair}
use Rattle.version_pair.specs.PairOrder.{IsBelow}
use Rattle.version_pair.proofs.PairLemmas.{same_pair}
use Rattle.doc_register.proofs.RunLemmas.{below_trans, not_below_itself}
use Rattle.events.specs.declared.record.Rec.{Rec}
use Rattle.version_pair.proofs.ListLemmas.{get_front, none_is_not_some, same_some}
use Rattle.deciding.specs.Reported.{IsKnown, IsListed, condition_met, known_pairs, pair_shown}
use Rattle.deciding.specs.Positions.{count_below, taking_position, is_below, version_of}

-- ---- the test

pub below_tested : (p q : Pair) → IsBelow p q → is_below p q ≡ true
below_tested p q (inl less) = or_left (nat_lt p.term q.term) (p.term == q.term && nat_lt p.seq q.seq) (lt-ltb p.term q.term less)
below_tested p q (inr (same, less)) =
    or_right (nat_lt p.term q.term) (p.term == q.term && nat_lt p.seq q.seq) (and_from (p.term == q.term) (nat_lt p.seq q.seq) (eq-eqb p.term q.term same) (lt-ltb p.seq q.seq less))

pub tested_below : (p q : Pair) → is_below p q ≡ true → IsBelow p q
tested_below p q is = by_part (or_cases (nat_lt p.term q.term) (p.term == q.term && nat_lt p.seq q.seq) is) where
  by_part : (nat_lt p.term q.term ≡ true) ⊎ ((p.term == q.term && nat_lt p.seq q.seq) ≡ true) → IsBelow p q
  by_part (inl less) = inl (ltb-true p.term q.term less)
  by_part (inr both) =
      let parts = and_parts (p.term == q.term) (nat_lt p.seq q.seq) both in
      inr (eqb-true p.term q.term parts.0, ltb-true p.seq q.seq parts.1)

-- of two pairs one is below the other, or they are the same
pub pair_order : (p q : Pair) → IsBelow p q ⊎ ((p ≡ q) ⊎ IsBelow q p)
pair_order p q = by_term (cases_lt p.term q.term) (cases_lt q.term p.term) (cases_lt p.seq q.seq) (cases_lt q.seq p.seq) where
  by_term : ((p.term < q.term) ⊎ (q.term ≤ p.term)) → ((q.term < p.term) ⊎ (p.term ≤ q.term)) → ((p.seq < q.seq) ⊎ (q.seq ≤ p.seq)) → ((q.seq < p.seq) ⊎ (p.seq ≤ q.seq))
      → IsBelow p q ⊎ ((p ≡ q) ⊎ IsBelow q p)
  by_term (inl less) b c d = inl (inl less)
  by_term (inr not) (inl more) c d = inr (inr (inl more))
  by_term (inr not) (inr nor) (inl less) d = inl (inr (omega arith, less))
  by_term (inr not) (inr nor) (inr low) (inl more) = inr (inr (inr (omega arith, more)))
  by_term (inr not) (inr nor) (inr low) (inr high) = inr (inl (same_pair p q (omega arith) (omega arith)))

-- ---- counts

counted : (a b : Bool) (m n : ℕ) → (a ≡ true → b ≡ true) → m ≤ n → cond a (suc m) m ≤ cond b (suc n) n
counted true true m n only within = omega arith
counted true false m n only within = absurd (true≢false (sym (only refl)))
counted false true m n only within = omega arith
counted false false m n only within = within

pub counted_less : (a b : Bool) (m n : ℕ) → (a ≡ true → b ≡ true) → m < n → cond a (suc m) m < cond b (suc n) n
counted_less true true m n only less = omega arith
counted_less true false m n only less = absurd (true≢false (sym (only refl)))
counted_less false true m n only less = omega arith
counted_less false false m n only less = less

pub counted_here : (a b : Bool) (m n : ℕ) → a ≡ false → b ≡ true → m ≤ n → cond a (suc m) m < cond b (suc n) n
counted_here true b m n isnt is within = absurd (true≢false isnt)
counted_here false true m n isnt is within = omega arith
counted_here false false m n isnt is within = absurd (true≢false (sym is))

-- what is below the lesser pair is below the greater one
only_more : (v p q : Pair) → IsBelow p q → is_below v p ≡ true → is_below v q ≡ true
only_more v p q below is = below_tested v q (below_trans v p q (tested_below v p is) below)

-- no more pairs are below a pair than there are
pub count_at_most : (vs : List Pair) (p : Pair) → count_below vs p ≤ length vs
count_at_most [] p = omega arith
count_at_most (v ∷ vs) p = counted (is_below v p) true (count_below vs p) (length vs) (λ _. refl) (count_at_most vs p)

pub count_grows : (vs : List Pair) (p q : Pair) → IsBelow p q → count_below vs p ≤ count_below vs q
count_grows [] p q below = omega arith
count_grows (v ∷ vs) p q below = counted (is_below v p) (is_below v q) (count_below vs p) (count_below vs q) (only_more v p q below) (count_grows vs p q below)

pub count_passes : (vs : List Pair) (i : ℕ) (p q : Pair) → slice_get vs i ≡ Some p → IsBelow p q → count_below vs p < count_below vs q
count_passes [] i p q at below = absurd (none_is_not_some p at)
count_passes (v ∷ vs) zero p q at below =
    let same : v ≡ p = same_some v p at in
    counted_here (is_below v p) (is_below v q) (count_below vs p) (count_below vs q)
    (false_from_ne_true (is_below v p) (λ is. not_below_itself p (subst (λ x. IsBelow x p) same (tested_below v p is))))
    (below_tested v q (subst (λ x. IsBelow x q) (sym same) below)) (count_grows vs p q below)
count_passes (v ∷ vs) (suc i) p q at below =
    counted_less (is_below v p) (is_below v q) (count_below vs p) (count_below vs q) (only_more v p q below) (count_passes vs i p q at below)

-- where no pair of the list lies between two pairs, as many are below the one as below the other
count_within : (vs : List Pair) (q p : Pair) → ((i : ℕ) (v : Pair) → slice_get vs i ≡ Some v → IsBelow v p → IsBelow v q) → count_below vs p ≤ count_below vs q
count_within [] q p within = omega arith
count_within (v ∷ vs) q p within =
    counted (is_below v p) (is_below v q) (count_below vs p) (count_below vs q)
    (λ is. below_tested v q (within 0 v refl (tested_below v p is)))
    (count_within vs q p (λ i u at below. within (suc i) u at below))

pub count_same : (vs : List Pair) (q p : Pair) → IsBelow q p → ((i : ℕ) (v : Pair) → slice_get vs i ≡ Some v → IsBelow v p → IsBelow v q) → count_below vs p ≡ count_below vs q
count_same vs q p below within =
    let more : count_below vs q ≤ count_below vs p = count_grows vs q p below in
    let less : count_below vs p ≤ count_below vs q = count_within vs q p within in
    omega arith

-- ---- positions

pub gap_grows : (records : List Rec) (p q : Pair) → IsBelow p q → taking_position records p ≤ taking_position records q
gap_grows records p q below = let within : count_below (known_pairs records) p ≤ count_below (known_pairs records) q = count_grows (known_pairs records) p q below in omega arith

pub version_before_gap : (records : List Rec) (p q : Pair) → IsKnown records p → IsBelow p q → version_of records p < taking_position records q
version_before_gap records p q known below =
    let less : count_below (known_pairs records) p < count_below (known_pairs records) q = count_passes (known_pairs records) known.0 p q known.1 below in omega arith

pub no_gap_is_version : (records : List Rec) (p q : Pair) → taking_position records p ≡ version_of records q → ⊥
no_gap_is_version records p q same = odd (count_below (known_pairs records) p) (count_below (known_pairs records) q) same where
  odd : (m n : ℕ) → suc (2 * m) ≡ suc (suc (2 * n)) → ⊥
  odd m n same = omega arith

-- known pairs at one position are one
pub same_version : (records : List Rec) (p q : Pair) → IsKnown records p → IsKnown records q → version_of records p ≡ version_of records q → p ≡ q
same_version records p q known too same = by_order (pair_order p q) where
  by_order : IsBelow p q ⊎ ((p ≡ q) ⊎ IsBelow q p) → p ≡ q
  by_order (inl below) = let less : version_of records p < taking_position records q = version_before_gap records p q known below in absurd (omega arith)
  by_order (inr (inl is)) = is
  by_order (inr (inr below)) = let less : version_of records q < taking_position records p = version_before_gap records q p too below in absurd (omega arith)

-- ---- known pairs

pub record IsShown (records : List Rec) (p : Pair) : Type 0 where
  pub call : Rec
  pub listed : IsListed records call
  pub shows : (pair_shown call.heard ≡ Some p) ⊎ (condition_met call ≡ Some p)

in_option : (o : Option Pair) (i : ℕ) (p : Pair) → slice_get (option_to_list o) i ≡ Some p → o ≡ Some p
in_option None i p at = absurd (none_is_not_some p at)
in_option (Some q) zero p at = at
in_option (Some q) (suc i) p at = absurd (none_is_not_some p at)

-- what stands in a list with another one behind it stands in one of both
in_either : (xs ys : List Pair) (i : ℕ) (p : Pair) → slice_get (xs ++ ys) i ≡ Some p → ((j : ℕ) × (slice_get xs j ≡ Some p)) ⊎ ((j : ℕ) × (slice_get ys j ≡ Some p))
in_either [] ys i p at = inr (i, at)
in_either (x ∷ xs) ys zero p at = inl (zero, at)
in_either (x ∷ xs) ys (suc i) p at = by_rest (in_either xs ys i p at) where
  by_rest : ((j : ℕ) × (slice_get xs j ≡ Some p)) ⊎ ((j : ℕ) × (slice_get ys j ≡ Some p)) → ((j : ℕ) × (slice_get (x ∷ xs) j ≡ Some p)) ⊎ ((j : ℕ) × (slice_get ys j ≡ Some p))
  by_rest (inl front) = inl (suc front.0, front.1)
  by_rest (inr back) = inr back

in_back : (xs ys : List Pair) (j : ℕ) (p : Pair) → slice_get ys j ≡ Some p → (i : ℕ) × (slice_get (xs ++ ys) i ≡ Some p)
in_back [] ys j p at = (j, at)
in_back (x ∷ xs) ys j p at = let rest = in_back xs ys j p at in (suc rest.0, rest.1)

-- a known pair is shown by the reply to a call
pub known_shown : (records : List Rec) (p : Pair) → IsKnown records p → IsShown records p
known_shown [] p (i, at) = absurd (none_is_not_some p at)
known_shown (r ∷ rs) p (i, at) =
    by_part (in_either (option_to_list (pair_shown r.heard) ++ option_to_list (condition_met r)) (known_pairs rs) i p at) (λ j bt. known_shown rs p (j, bt)) where
      by_own : ((j : ℕ) × (slice_get (option_to_list (pair_shown r.heard)) j ≡ Some p)) ⊎ ((j : ℕ) × (slice_get (option_to_list (condition_met r)) j ≡ Some p)) → IsShown (r ∷ rs) p
      by_own (inl (j, at)) = record { call = r; listed = (zero, refl); shows = inl (in_option (pair_shown r.heard) j p at) }
      by_own (inr (j, at)) = record { call = r; listed = (zero, refl); shows = inr (in_option (condition_met r) j p at) }

      by_part : ((j : ℕ) × (slice_get (option_to_list (pair_shown r.heard) ++ option_to_list (condition_met r)) j ≡ Some p)) ⊎ ((j : ℕ) × (slice_get (known_pairs rs) j ≡ Some p))
          → ((j : ℕ) → slice_get (known_pairs rs) j ≡ Some p → IsShown rs p) → IsShown (r ∷ rs) p
      by_part (inl (j, at)) later = by_own (in_either (option_to_list (pair_shown r.heard)) (option_to_list (condition_met r)) j p at)
      by_part (inr (j, at)) later = let s = later j at in record { call = s.call; listed = (suc s.listed.0, s.listed.1); shows = s.shows }

-- what the reply to a call shows is known
pub shown_known : (records : List Rec) (p : Pair) → IsShown records p → IsKnown records p
shown_known [] p s = absurd (none_is_not_some s.call s.listed.1)
shown_known (r ∷ rs) p s = by_place s.listed.0 s.listed.1 (λ i at. shown_known rs p (record { call = s.call; listed = (i, at); shows = s.shows })) where
  own : (pair_shown r.heard ≡ Some p) ⊎ (condition_met r ≡ Some p) → IsKnown (r ∷ rs) p
  own (inl is) =
      let first = get_front (option_to_list (pair_shown r.heard)) (option_to_list (condition_met r)) 0 p (ap (λ o. slice_get (option_to_list o) 0) is) in
      (0, get_front (option_to_list (pair_shown r.heard) ++ option_to_list (condition_met r)) (known_pairs rs) 0 p first)
  own (inr is) =
      let second = in_back (option_to_list (pair_shown r.heard)) (option_to_list (condition_met r)) 0 p (ap (λ o. slice_get (option_to_list o) 0) is) in
      (second.0, get_front (option_to_list (pair_shown r.heard) ++ option_to_list (condition_met r)) (known_pairs rs) second.0 p second.1)

  by_place : (i : ℕ) → slice_get (r ∷ rs) i ≡ Some s.call → ((j : ℕ) → slice_get rs j ≡ Some s.call → IsKnown rs p) → IsKnown (r ∷ rs) p
  by_place zero at later = own (subst (λ (x : Rec). (pair_shown x.heard ≡ Some p) ⊎ (condition_met x ≡ Some p)) (sym (same_some r s.call at)) s.shows)
  by_place (suc i) at later =
      let rest = later i at in
      in_back (option_to_list (pair_shown r.heard) ++ option_to_list (condition_met r)) (known_pairs rs) rest.0 p rest.1

-- ---- whether a pair is known

-- the pair is in the list, or it isn't
listed_or_not : (vs : List Pair) (p : Pair) → ((i : ℕ) × (slice_get vs i ≡ Some p)) ⊎ ((i : ℕ) → slice_get vs i ≡ Some p → ⊥)
listed_or_not [] p = inr (λ i at. none_is_not_some p at)
listed_or_not (v ∷ vs) p = by_first (pair_order v p) (listed_or_not vs p) where
  apart : ((v ≡ p) → ⊥) → ((i : ℕ) → slice_get vs i ≡ Some p → ⊥) → (i : ℕ) → slice_get (v ∷ vs) i ≡ Some p → ⊥
  apart other none zero at = other (same_some v p at)
  apart other none (suc i) at = none i at

  by_first : IsBelow v p ⊎ ((v ≡ p) ⊎ IsBelow p v) → ((i : ℕ) × (slice_get vs i ≡ Some p)) ⊎ ((i : ℕ) → slice_get vs i ≡ Some p → ⊥)
      → ((i : ℕ) × (slice_get (v ∷ vs) i ≡ Some p)) ⊎ ((i : ℕ) → slice_get (v ∷ vs) i ≡ Some p → ⊥)
  by_first (inr (inl same)) rest = inl (zero, ap (λ x. Some x) same)
  by_first (inl below) (inl (i, at)) = inl (suc i, at)
  by_first (inl below) (inr none) = inr (apart (λ same. not_below_itself p (subst (λ x. IsBelow x p) same below)) none)
  by_first (inr (inr above)) (inl (i, at)) = inl (suc i, at)
  by_first (inr (inr above)) (inr none) = inr (apart (λ same. not_below_itself p (subst (λ x. IsBelow p x) same above)) none)

pub known_or_not : (records : List Rec) (p : Pair) → IsKnown records p ⊎ (¬ IsKnown records p)
known_or_not records p = by_case (listed_or_not (known_pairs records) p) where
  by_case : ((i : ℕ) × (slice_get (known_pairs records) i ≡ Some p)) ⊎ ((i : ℕ) → slice_get (known_pairs records) i ≡ Some p → ⊥) → IsKnown records p ⊎ (¬ IsKnown records p)
  by_case (inl known) = inl known
  by_case (inr none) = inr (λ known. none known.0 known.1)

-- ---- another test

-- a test that holds of just the pairs below is this one
pub same_as_tested : (p q : Pair) (b : Bool) → (b ≡ true → IsBelow p q) → (IsBelow p q → b ≡ true) → b ≡ is_below p q
same_as_tested p q true to back = sym (below_tested p q (to refl))
same_as_tested p q false to back = sym (false_from_ne_true (is_below p q) (λ is. true≢false (sym (back (tested_below p q is)))))
