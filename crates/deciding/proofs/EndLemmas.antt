-- Pairs that are kept with the least pairs above them that are not.
use Rattle.std.proofs.Common.{ℕ, ◌≡◌, ◌≢◌, ◌<◌, ◌≤◌, ◌⊎◌, inl, inr, List, refl, sym, ap, subst, ◌∙◌, true, false, true≢false, Option, Some, None, get_or, is_some, slice_get, arith, suc}
use Rattle.std.specs.BTreeMap.{BTreeMap, Updates, get}
use Rattle.std.specs.Cmp.{Equal-is}
use Rattle.std.specs.Prelude.{IfSome, IsSorted}
use Rattle.std.specs.Result.{OnOk}
use Rattle.std.proofs.Common.{Result, Ok, Err}
use Rattle.std.specs.Ordering.{is_eq, nat_cmp}
use Rattle.std.specs.declared.cmp.Ordering.TheVariants.{Equal}
use Rattle.std.proofs.lemmas.Bool.{cases_lt, false_from_ne_true}
use Rattle.std.proofs.lemmas.Option.{get_or_from_slice_get, slice_get_within}
use Rattle.std.proofs.lemmas.Map.Lookups.{exact_pairs, exact_unsigned}
use Rattle.version_pair.specs.declared.pair.Pair.{Pair}
use Rattle.version_pair.specs.PairOrder.{IsBelow}
use Rattle.version_pair.proofs.ListLemmas.{same_some}
use Rattle.version_pair.proofs.PairLemmas.{same_pair}
use Rattle.doc_register.proofs.RunLemmas.{below_trans, not_below_itself, not_both_below}
use Rattle.deciding.specs.Above.{IsLeastAbove}
use Rattle.deciding.specs.Elsewhere.{is_kept}
use Rattle.deciding.specs.aids.Ends.{AreAbove, HasEnds, IsFreeFrom, IsFrom}
use Rattle.write_chain.specs.Chain.{pair_cmp}
use Rattle.deciding.proofs.BesideLemmas.{from_least}
use Rattle.deciding.proofs.Counts.{pair_order}
use Rattle.deciding.proofs.KnownLemmas.{later_not_below}

-- two pairs that don't differ by their order are one
apart : (p q : Pair) → q ≢ p → is_eq (pair_cmp p q) ≡ false
apart p q differs = false_from_ne_true (is_eq (pair_cmp p q)) (λ same. differs (sym (one ((Equal-is (pair_cmp p q)).0 same)))) where
  one : pair_cmp p q ≡ Equal → p ≡ q
  one equal =
      let parts = exact_pairs nat_cmp nat_cmp exact_unsigned exact_unsigned (p.term, p.seq) (q.term, q.seq) equal in
      same_pair p q (ap (λ (x : ℕ × ℕ). x.0) parts) (ap (λ (x : ℕ × ℕ). x.1) parts)

-- with one more pair, each other pair has beside it what it had
pub others_stay : (old new : BTreeMap Pair (Option Pair)) (pair : Pair) (end : Option Pair) → Updates pair_cmp old new pair (Some end)
    → (q : Pair) → q ≢ pair → get pair_cmp new q ≡ get pair_cmp old q
others_stay old new pair end updates q differs = updates.2 q (apart pair q differs)

-- what stands with a pair
pub end_of : (ends : BTreeMap Pair (Option Pair)) (p : Pair) (end : Option Pair) → HasEnds ends → get pair_cmp ends p ≡ Some end → IsFreeFrom ends p end
end_of ends p None has at = has.0 p at
end_of ends p (Some f) has at = has.1 p f at

-- a pair that is not kept is free itself
pub free_itself : (ends : BTreeMap Pair (Option Pair)) (p : Pair) → get pair_cmp ends p ≡ None → IsFreeFrom ends p (Some p)
free_itself ends p at = (not_below_itself p, ap is_some at, λ r from below. absurd (from below))

-- one more pair is kept, with this one beside it
pub record IsKeptToo (old new : BTreeMap Pair (Option Pair)) (pair : Pair) (end : Option Pair) : Type 0 where
  pub own : get pair_cmp new pair ≡ Some end
  pub others : (q : Pair) → q ≢ pair → get pair_cmp new q ≡ get pair_cmp old q

-- if the pair was added
pub kept_too : {T E : Type 0} (r : Result T E) (old new : BTreeMap Pair (Option Pair)) (pair : Pair) (end : Option Pair) → OnOk r (get pair_cmp new pair ≡ Some end)
    → OnOk r ((q : Pair) → q ≢ pair → get pair_cmp new q ≡ get pair_cmp old q) → OnOk r (IsKeptToo old new pair end)
kept_too (Ok x) old new pair end own others = record { own = own; others = others }
kept_too (Err e) old new pair end own others = tt

-- the pair itself, or one that was kept
pub kept_or_itself : (old new : BTreeMap Pair (Option Pair)) (pair : Pair) (end : Option Pair) (q : Pair) → IsKeptToo old new pair end → is_kept new q ≡ true
    → (q ≡ pair) ⊎ (is_kept old q ≡ true)
kept_or_itself old new pair end q too is = by_order (pair_order q pair) where
  other : q ≢ pair → is_kept old q ≡ true
  other differs = ap is_some (sym (too.others q differs)) ∙ is

  by_order : IsBelow q pair ⊎ ((q ≡ pair) ⊎ IsBelow pair q) → (q ≡ pair) ⊎ (is_kept old q ≡ true)
  by_order (inl low) = inr (other (λ same. not_below_itself pair (subst (λ p. IsBelow p pair) same low)))
  by_order (inr (inl same)) = inl same
  by_order (inr (inr high)) = inr (other (λ same. not_below_itself pair (subst (IsBelow pair) same high)))

still_kept : (old new : BTreeMap Pair (Option Pair)) (pair : Pair) (end : Option Pair) (q : Pair) → IsKeptToo old new pair end → is_kept old q ≡ true → is_kept new q ≡ true
still_kept old new pair end q too is = by_order (pair_order q pair) where
  other : q ≢ pair → is_kept new q ≡ true
  other differs = ap is_some (too.others q differs) ∙ is

  by_order : IsBelow q pair ⊎ ((q ≡ pair) ⊎ IsBelow pair q) → is_kept new q ≡ true
  by_order (inl low) = other (λ same. not_below_itself pair (subst (λ p. IsBelow p pair) same low))
  by_order (inr (inl same)) = ap (is_kept new) same ∙ ap is_some too.own
  by_order (inr (inr high)) = other (λ same. not_below_itself pair (subst (IsBelow pair) same high))

-- the pair itself and those that were kept are
pub stays_kept : (old new : BTreeMap Pair (Option Pair)) (pair : Pair) (end : Option Pair) (q : Pair) → IsKeptToo old new pair end
    → (q ≡ pair) ⊎ (is_kept old q ≡ true) → is_kept new q ≡ true
stays_kept old new pair end q too (inl same) = ap (is_kept new) same ∙ ap is_some too.own
stays_kept old new pair end q too (inr is) = still_kept old new pair end q too is

-- from a pair on: itself, or from the least one above it on
itself_or_above : (pair r : Pair) → IsFrom pair r → (r ≡ pair) ⊎ IsBelow pair r
itself_or_above pair r from = by_order (pair_order r pair) where
  by_order : IsBelow r pair ⊎ ((r ≡ pair) ⊎ IsBelow pair r) → (r ≡ pair) ⊎ IsBelow pair r
  by_order (inl low) = absurd (from low)
  by_order (inr (inl same)) = inl same
  by_order (inr (inr high)) = inr high

-- the least free pair from the next one on is that from the pair on, once the pair is kept
pub end_after : (old new : BTreeMap Pair (Option Pair)) (pair : Pair) (end next : Option Pair) → IsKeptToo old new pair end → IsLeastAbove (Some pair) next
    → ((n : Pair) → next ≡ Some n → IsFreeFrom old n end) → (next ≡ None → end ≡ None) → IsFreeFrom new pair end
end_after old new pair end None too least free none = subst (IsFreeFrom new pair) (sym (none refl)) (λ r from. by_place r (itself_or_above pair r from)) where
  by_place : (r : Pair) → (r ≡ pair) ⊎ IsBelow pair r → is_kept new r ≡ true
  by_place r (inl same) = ap (is_kept new) same ∙ ap is_some too.own
  by_place r (inr high) = absurd (least r high)
end_after old new pair None (Some n) too least free none = λ r from. by_place r (itself_or_above pair r from) where
  by_place : (r : Pair) → (r ≡ pair) ⊎ IsBelow pair r → is_kept new r ≡ true
  by_place r (inl same) = ap (is_kept new) same ∙ ap is_some too.own
  by_place r (inr high) = still_kept old new pair None r too (free n refl r (from_least (Some pair) n r least high))
end_after old new pair (Some f) (Some n) too least free none = (λ low. by_order low (pair_order n f), ap is_some (too.others f other) ∙ from.1, λ r from below. by_place r below (itself_or_above pair r from)) where
  from : IsFreeFrom old n (Some f)
  from = free n refl

  by_order : IsBelow f pair → IsBelow n f ⊎ ((n ≡ f) ⊎ IsBelow f n) → ⊥
  by_order low (inl over) = not_both_below pair n least.0 (below_trans n f pair over low)
  by_order low (inr (inl same)) = not_both_below pair n least.0 (subst (λ p. IsBelow p pair) (sym same) low)
  by_order low (inr (inr under)) = from.0 under

  other : f ≢ pair
  other same = from.0 (subst (λ p. IsBelow p n) (sym same) least.0)

  by_place : (r : Pair) → IsBelow r f → (r ≡ pair) ⊎ IsBelow pair r → is_kept new r ≡ true
  by_place r below (inl same) = ap (is_kept new) same ∙ ap is_some too.own
  by_place r below (inr high) = still_kept old new pair (Some f) r too (from.2 r (from_least (Some pair) n r least high) below)

-- with the pair all have their ends, if it is below those that were kept
pub ends_too : (old new : BTreeMap Pair (Option Pair)) (pair : Pair) (end : Option Pair) → IsKeptToo old new pair end → HasEnds old
    → ((p : Pair) → is_kept old p ≡ true → IsBelow pair p) → IsFreeFrom new pair end → HasEnds new
ends_too old new pair end too has above free = (λ p at. by_none p at (pair_order p pair), λ p f at. by_some p f at (pair_order p pair)) where
  here : (p : Pair) (o : Option Pair) → p ≡ pair → get pair_cmp new p ≡ Some o → IsFreeFrom new p o
  here p o same at =
      let one : end ≡ o = same_some end o (sym too.own ∙ (ap (get pair_cmp new) (sym same) ∙ at)) in
      subst (λ q. IsFreeFrom new q o) (sym same) (subst (IsFreeFrom new pair) one free)

  none_there : (p : Pair) → p ≢ pair → get pair_cmp new p ≡ Some None → IsFreeFrom new p None
  none_there p differs at r from = still_kept old new pair end r too (has.0 p (sym (too.others p differs) ∙ at) r from)

  some_there : (p f : Pair) → p ≢ pair → get pair_cmp new p ≡ Some (Some f) → IsFreeFrom new p (Some f)
  some_there p f differs at =
      let was = sym (too.others p differs) ∙ at in
      let was_free = has.1 p f was in
      (was_free.0, ap is_some (too.others f (beyond p f was was_free.0)) ∙ was_free.1, λ r from below. still_kept old new pair end r too (was_free.2 r from below)) where
        beyond : (p f : Pair) → get pair_cmp old p ≡ Some (Some f) → IsFrom p f → f ≢ pair
        beyond p f was from same = from (subst (λ q. IsBelow q p) (sym same) (above p (ap is_some was)))

  by_none : (p : Pair) → get pair_cmp new p ≡ Some None → IsBelow p pair ⊎ ((p ≡ pair) ⊎ IsBelow pair p) → IsFreeFrom new p None
  by_none p at (inl low) = none_there p (λ same. not_below_itself pair (subst (λ q. IsBelow q pair) same low)) at
  by_none p at (inr (inl same)) = here p None same at
  by_none p at (inr (inr high)) = none_there p (λ same. not_below_itself pair (subst (IsBelow pair) same high)) at

  by_some : (p f : Pair) → get pair_cmp new p ≡ Some (Some f) → IsBelow p pair ⊎ ((p ≡ pair) ⊎ IsBelow pair p) → IsFreeFrom new p (Some f)
  by_some p f at (inl low) = some_there p f (λ same. not_below_itself pair (subst (λ q. IsBelow q pair) same low)) at
  by_some p f at (inr (inl same)) = here p (Some f) same at
  by_some p f at (inr (inr high)) = some_there p f (λ same. not_below_itself pair (subst (IsBelow pair) same high)) at

-- a pair that is below the last one is below all that are kept
pub above_lower : (ends : BTreeMap Pair (Option Pair)) (last : Option Pair) (pair p : Pair) → AreAbove ends last → IfSome last (IsBelow pair) → is_kept ends p ≡ true → IsBelow pair p
above_lower ends None pair p above below kept = absurd (true≢false (sym kept ∙ above p))
above_lower ends (Some l) pair p above below kept = by_order (pair_order l p) where
  by_order : IsBelow l p ⊎ ((l ≡ p) ⊎ IsBelow p l) → IsBelow pair p
  by_order (inl over) = below_trans pair l p below over
  by_order (inr (inl same)) = subst (IsBelow pair) same below
  by_order (inr (inr low)) = absurd (above p kept low)

-- a pair that is the first or above it is not below it
pub from_itself : (pair p : Pair) → (p ≡ pair) ⊎ IsBelow pair p → IsFrom pair p
from_itself pair p (inl same) low = not_below_itself pair (subst (λ q. IsBelow q pair) same low)
from_itself pair p (inr high) low = not_both_below pair p high low

-- ---- the pairs of a list that rises

-- one of the list at this place or behind it
pub record IsInFrom (pairs : List Pair) (from : ℕ) (q : Pair) : Type 0 where
  pub index : ℕ
  pub after : from ≤ index
  pub at : slice_get pairs index ≡ Some q

-- the last one is kept, if there is one
abbrev pub IsLastKept : BTreeMap Pair (Option Pair) → Option Pair → Type 0
IsLastKept ends last = (l : Pair) → last ≡ Some l → is_kept ends l ≡ true

-- a pair of the list that is not below the last one, which stands behind it, is the last one
pub last_itself : (pairs : List Pair) (i : ℕ) (p : Pair) (ends : BTreeMap Pair (Option Pair)) (last : Option Pair) → IsSorted pair_cmp pairs
    → slice_get pairs i ≡ Some p → (¬ IfSome last (IsBelow p)) → IsLastKept ends last
    → ((q : Pair) → is_kept ends q ≡ true → IsInFrom pairs i q) → is_kept ends p ≡ true
last_itself pairs i p ends None sorted at not kept behind = absurd (not tt)
last_itself pairs i p ends (Some l) sorted at not kept behind = by_order (pair_order p l) where
  there : IsInFrom pairs i l
  there = behind l (kept l refl)

  by_order : IsBelow p l ⊎ ((p ≡ l) ⊎ IsBelow l p) → is_kept ends p ≡ true
  by_order (inl low) = absurd (not low)
  by_order (inr (inl same)) = ap (is_kept ends) same ∙ kept l refl
  by_order (inr (inr high)) =
      let first : get_or pairs i p ≡ p = get_or_from_slice_get pairs i p p at in
      let second : get_or pairs there.index p ≡ l = get_or_from_slice_get pairs there.index l p there.at in
      absurd (later_not_below pairs i there.index p sorted there.after (slice_get_within pairs there.index l there.at)
      (subst (λ x. IsBelow x (get_or pairs i p)) (sym second) (subst (IsBelow l) (sym first) high)))

-- one from a place on stands there, or is one from the next place on
pub here_or_later : (pairs : List Pair) (j i : ℕ) (p q : Pair) → i ≤ suc j → slice_get pairs j ≡ Some p → IsInFrom pairs j q → (q ≡ p) ⊎ IsInFrom pairs i q
here_or_later pairs j i p q next at is = by_place (cases_lt j is.index) where
  by_place : ((j < is.index) ⊎ (is.index ≤ j)) → (q ≡ p) ⊎ IsInFrom pairs i q
  by_place (inl later) = inr (record { index = is.index; after = omega arith; at = is.at })
  by_place (inr within) =
      let after : j ≤ is.index = is.after in
      let one : is.index ≡ j = omega arith in
      inl (same_some q p (sym is.at ∙ (ap (slice_get pairs) one ∙ at)))

-- one from a place on is one from an earlier place on
pub from_earlier : (pairs : List Pair) (j i : ℕ) (q : Pair) → j ≤ i → IsInFrom pairs i q → IsInFrom pairs j q
from_earlier pairs j i q less is =
    let after : i ≤ is.index = is.after in
    record { index = is.index; after = omega arith; at = is.at }
