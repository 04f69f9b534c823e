-- The known pairs and the unknown ones above another pair.
use Rattle.std.proofs.Common.{◌≡◌, ◌<◌, ◌≤◌, ◌⊎◌, inl, inr, List, length, sym, subst, ◌∙◌, arith, true, false, true≢false, Option, Some, None, slice_get, get_or}
use Rattle.std.proofs.lemmas.Bool.{cases_lt}
use Rattle.std.proofs.lemmas.Option.{get_or_from_slice_get, slice_get-get_or, slice_get_within}
use Rattle.version_pair.specs.declared.pair.Pair.{Pair}
use Rattle.version_pair.specs.PairOrder.{IsBelow}
use Rattle.version_pair.proofs.ListLemmas.{none_is_not_some}
use Rattle.doc_register.proofs.RunLemmas.{below_trans, not_below_itself, not_both_below}
use Rattle.events.specs.declared.record.Rec.{Rec}
use Rattle.std.specs.BTreeMap.{BTreeMap}
use Rattle.std.proofs.Common.{refl, ap}
use Rattle.deciding.specs.Facts.{Facts}
use Rattle.deciding.specs.Elsewhere.{is_kept}
use Rattle.deciding.specs.aids.Ends.{IsFreeFrom, IsFrom}
use Rattle.deciding.proofs.Counts.{pair_order}
use Rattle.deciding.specs.Reported.{IsKnown, known_pairs}
use Rattle.deciding.specs.Positions.{count_below}
use Rattle.deciding.specs.Branches.{IsAbove}
use Rattle.deciding.specs.Above.{IsLeastAbove}
use Rattle.deciding.specs.aids.KnownPairs.{AreKnown, IsFreeAbove, IsNextKnown}
use Rattle.deciding.proofs.Counts.{below_tested, pair_order, tested_below}
use Rattle.deciding.proofs.KnownLemmas.{Has, below_first, below_inside, count_moved, inside_below, known_there, later_not_below, there_known}

-- a pair that is not below one above the lower one is above the lower one
above_from : (lower : Option Pair) (p v : Pair) → IsAbove lower p → (p ≡ v) ⊎ IsBelow p v → IsAbove lower v
above_from None p v above order = tt
above_from (Some c) p v above (inl same) = subst (IsBelow c) same above
above_from (Some c) p v above (inr over) = below_trans c p v above over

not_below : (p v : Pair) → (p ≡ v) ⊎ IsBelow p v → ¬ IsBelow v p
not_below p v (inl same) below = not_below_itself p (subst (λ u. IsBelow u p) (sym same) below)
not_below p v (inr over) below = not_both_below v p below over

-- ---- the next known pair

-- the pair at the count of those below p is the first that is not below p
at_count : (records : List Rec) (vs : List Pair) (p v : Pair) → AreKnown records vs → slice_get vs (count_below (known_pairs records) p) ≡ Some v → ¬ IsBelow v p
at_count records vs p v known at below =
    let within : count_below (known_pairs records) p < length vs = slice_get_within vs (count_below (known_pairs records) p) v at in
    let here : get_or vs (count_below (known_pairs records) p) v ≡ v = get_or_from_slice_get vs (count_below (known_pairs records) p) v v at in
    let inside : count_below (known_pairs records) p < count_below vs p = below_inside vs p (count_below (known_pairs records) p) v (below_first vs p known.in_order) within (below_tested (get_or vs (count_below (known_pairs records) p) v) p (subst (λ u. IsBelow u p) (sym here) below)) in
    let same : count_below vs p ≡ count_below (known_pairs records) p = count_moved (known_pairs records) vs p known.all in
    omega arith

-- a known pair that is not below p is at the count or behind it
behind_count : (records : List Rec) (vs : List Pair) (p u : Pair) (known : AreKnown records vs) (is : IsKnown records u) → ¬ IsBelow u p → count_below (known_pairs records) p ≤ (known_there records vs u known is).0
behind_count records vs p u known is not = by_place (cases_lt there.0 (count_below (known_pairs records) p)) where
  there : Has vs u
  there = known_there records vs u known is

  by_place : ((there.0 < count_below (known_pairs records) p) ⊎ (count_below (known_pairs records) p ≤ there.0)) → count_below (known_pairs records) p ≤ there.0
  by_place (inr far) = far
  by_place (inl near) =
      let same : count_below vs p ≡ count_below (known_pairs records) p = count_moved (known_pairs records) vs p known.all in
      let low = inside_below vs p there.0 u (below_first vs p known.in_order) (omega arith) in
      let here : get_or vs there.0 u ≡ u = get_or_from_slice_get vs there.0 u u there.1 in
      absurd (not (subst (λ x. IsBelow x p) here (tested_below (get_or vs there.0 u) p low)))

-- if no pair is above the lower one, no known pair is
pub no_next : (records : List Rec) (lower : Option Pair) → IsLeastAbove lower None → IsNextKnown records lower None
no_next records lower least v known above = least v above

pub next_known : (records : List Rec) (vs : List Pair) (lower : Option Pair) (p : Pair) (o : Option Pair) → AreKnown records vs → IsLeastAbove lower (Some p) → o ≡ slice_get vs (count_below (known_pairs records) p)
    → IsNextKnown records lower o
next_known records vs lower p None known least is = λ v has above. none_there v has (least.1 v above) where
  none_there : (v : Pair) → IsKnown records v → (p ≡ v) ⊎ IsBelow p v → ⊥
  none_there v has order =
      let there = known_there records vs v known has in
      let from : count_below (known_pairs records) p ≤ there.0 = behind_count records vs p v known has (not_below p v order) in
      let inside : there.0 < length vs = slice_get_within vs there.0 v there.1 in
      let got = slice_get-get_or vs (count_below (known_pairs records) p) v (omega arith) in
      none_is_not_some (get_or vs (count_below (known_pairs records) p) v) (is ∙ got)
next_known records vs lower p (Some v) known least is =
    (there_known records vs v known (count_below (known_pairs records) p, sym is), above_from lower p v least.0 (over (pair_order v p)), λ u has above below. between u has below (least.1 u above)) where
      over : IsBelow v p ⊎ ((v ≡ p) ⊎ IsBelow p v) → (p ≡ v) ⊎ IsBelow p v
      over (inl below) = absurd (at_count records vs p v known (sym is) below)
      over (inr (inl same)) = inl (sym same)
      over (inr (inr above)) = inr above

      between : (u : Pair) → IsKnown records u → IsBelow u v → (p ≡ u) ⊎ IsBelow p u → ⊥
      between u has below order =
          let there = known_there records vs u known has in
          let far = behind_count records vs p u known has (not_below p u order) in
          let inside : there.0 < length vs = slice_get_within vs there.0 u there.1 in
          let here : get_or vs there.0 u ≡ u = get_or_from_slice_get vs there.0 u u there.1 in
          let first : get_or vs (count_below (known_pairs records) p) u ≡ v = get_or_from_slice_get vs (count_below (known_pairs records) p) v u (sym is) in
          later_not_below vs (count_below (known_pairs records) p) there.0 u known.in_order far inside
          (subst (λ x. IsBelow x (get_or vs (count_below (known_pairs records) p) u)) (sym here) (subst (IsBelow u) (sym first) below))

-- ---- the least pair that is free

-- each pair above the lower one is from the least of these on
pub from_least : (lower : Option Pair) (c r : Pair) → IsLeastAbove lower (Some c) → IsAbove lower r → IsFrom c r
from_least lower c r least above low = by_order (least.1 r above) where
  by_order : (c ≡ r) ⊎ IsBelow c r → ⊥
  by_order (inl same) = not_below_itself c (subst (λ p. IsBelow p c) (sym same) low)
  by_order (inr over) = not_both_below c r over low

-- a pair from the least one on is above the lower one
above_least : (lower : Option Pair) (c f : Pair) → IsLeastAbove lower (Some c) → IsFrom c f → IsAbove lower f
above_least lower c f least from = by_order (pair_order c f) where
  by_pair : (o : Option Pair) → IsAbove o c → IsBelow c f → IsAbove o f
  by_pair None above over = tt
  by_pair (Some l) above over = below_trans l c f above over

  by_order : IsBelow c f ⊎ ((c ≡ f) ⊎ IsBelow f c) → IsAbove lower f
  by_order (inl over) = by_pair lower least.0 over
  by_order (inr (inl same)) = subst (IsAbove lower) same least.0
  by_order (inr (inr low)) = absurd (from low)

-- a pair that may be free isn't kept
not_kept : (facts : Facts) (ends : BTreeMap Pair (Option Pair)) (r : Pair) → facts.elsewhere ≡ is_kept ends → facts.elsewhere r ≡ false → is_kept ends r ≡ true → ⊥
not_kept facts ends r same own kept = true≢false (sym kept ∙ (ap (λ is. is r) (sym same) ∙ own))

-- each pair above it is kept
pub all_kept : (facts : Facts) (records : List Rec) (ends : BTreeMap Pair (Option Pair)) (lower : Option Pair) (c : Pair) → facts.elsewhere ≡ is_kept ends
    → IsLeastAbove lower (Some c) → IsFreeFrom ends c None → IsFreeAbove facts records lower None
all_kept facts records ends lower c same least all r above unknown own = absurd (not_kept facts ends r same own (all r (from_least lower c r least above)))

-- a known pair comes before the free one
pub known_first : (facts : Facts) (records : List Rec) (ends : BTreeMap Pair (Option Pair)) (lower : Option Pair) (c f v : Pair) → facts.elsewhere ≡ is_kept ends
    → IsLeastAbove lower (Some c) → IsFreeFrom ends c (Some f) → IsNextKnown records lower (Some v) → (¬ IsBelow f v) → IsFreeAbove facts records lower None
known_first facts records ends lower c f v same least free next not r above unknown own = (v, next.0, next.1, below) where
  high : IsBelow r f → ⊥
  high low = not_kept facts ends r same own (free.2 r (from_least lower c r least above) low)

  by_free : IsBelow r v → IsBelow f r ⊎ ((f ≡ r) ⊎ IsBelow r f) → IsBelow v r
  by_free over (inl less) = absurd (not (below_trans f r v less over))
  by_free over (inr (inl one)) = absurd (not (subst (λ p. IsBelow p v) (sym one) over))
  by_free over (inr (inr low)) = absurd (high low)

  by_order : IsBelow v r ⊎ ((v ≡ r) ⊎ IsBelow r v) → IsBelow v r
  by_order (inl is) = is
  by_order (inr (inl one)) = absurd (unknown (subst (IsKnown records) one next.0))
  by_order (inr (inr over)) = by_free over (pair_order f r)

  below : IsBelow v r
  below = by_order (pair_order v r)

-- the free one comes before all known pairs
pub free_first : (facts : Facts) (records : List Rec) (ends : BTreeMap Pair (Option Pair)) (lower : Option Pair) (c f : Pair) (o : Option Pair) → facts.elsewhere ≡ is_kept ends
    → IsLeastAbove lower (Some c) → IsFreeFrom ends c (Some f) → IsNextKnown records lower o → ((v : Pair) → o ≡ Some v → IsBelow f v) → IsFreeAbove facts records lower (Some f)
free_first facts records ends lower c f o same least free next first = (unknown o refl next, ap (λ is. is f) same ∙ free.1, above, lesser) where
  above : IsAbove lower f
  above = above_least lower c f least free.0

  unknown : (v : Option Pair) → o ≡ v → IsNextKnown records lower v → ¬ IsKnown records f
  unknown None is none known = none f known above
  unknown (Some v) is (listed, over, least_one) known = least_one f known above (first v is)

  lesser : (r : Pair) → IsAbove lower r → facts.elsewhere r ≡ false → (f ≡ r) ⊎ IsBelow f r
  lesser r over own = by_order (pair_order f r) where
    by_order : IsBelow f r ⊎ ((f ≡ r) ⊎ IsBelow r f) → (f ≡ r) ⊎ IsBelow f r
    by_order (inl is) = inr is
    by_order (inr (inl one)) = inl one
    by_order (inr (inr low)) = absurd (not_kept facts ends r same own (free.2 r (from_least lower c r least over) low))
