-- Rows behind the steps of a row.
use Rattle.std.proofs.Common.{false, ℕ, suc, ◌≡◌, ◌<◌, ◌≤◌, ◌⊎◌, ◌++◌, ◌==◌, ◌*◌, inl, inr, List, [], ◌∷◌, length, refl, sym, ap, subst, ◌∙◌, arith, Option, Some, None, slice_get}
use Rattle.version_pair.specs.declared.pair.Pair.{Pair}
use Rattle.version_pair.proofs.ListLemmas.{get_front, get_last, get_snoc, none_is_not_some, same_some}
use Rattle.deciding.specs.Facts.{Facts}
use Rattle.events.specs.declared.record.Rec.{Rec}
use Rattle.deciding.specs.declared.row.Row.{Row}
use Rattle.version_pair.specs.PairOrder.{IsBelow}
use Rattle.std.proofs.lemmas.Bool.{cases_lt}
use Rattle.deciding.specs.Reported.{IsFoundWith, IsKnown, IsListed, known_pairs, pair_shown}
use Rattle.deciding.specs.Positions.{taking_position, version_of}
use Rattle.deciding.specs.Branches.{Branch, Covers, IsAbove, IsAtMost, position}
use Rattle.deciding.specs.aids.Candidates.{AreCandidates}
use Rattle.deciding.specs.aids.KnownPairs.{IsFreeAbove, IsNextKnown}
use Rattle.doc_register.specs.declared.reply.Reply.{Reply}
use Rattle.doc_register.specs.declared.reply.Reply.TheVariants.{Indexed, Deleted, Found, Missing, Conflict}
use Rattle.doc_register.proofs.RunLemmas.{below_trans}
use Rattle.events.specs.Heard.{pair_of}
use Rattle.deciding.proofs.FittingBranches.{at_most_on}
use Rattle.deciding.proofs.Counts.{count_same, known_or_not, pair_order, shown_known}
use Rattle.deciding.proofs.OrderedPositions.{position_before, position_unknown}
use Rattle.deciding.specs.Steps.{MayHaveTaken, MayPerform, moved_at, performed}
use Rattle.deciding.specs.aids.Rows.{IsPositioned, branch_of}
use Rattle.deciding.specs.aids.StepsOf.{ArePositioned, AreSteps, HasRowFor, HasStepsWith, HasStepsWithSome, IsRowOf, IsTried, KeepsRows}

-- a list keeps its own rows
pub same_rows : (records : List Rec) (rows : List Row) → KeepsRows records rows rows
same_rows records rows = record { rows = λ row has. has; positioned = λ placed. placed }

-- and those of a list that kept them
pub kept_on : (records : List Rec) (a b c : List Row) → KeepsRows records a b → KeepsRows records b c → KeepsRows records a c
kept_on records a b c one two = record { rows = λ row has. two.rows row (one.rows row has); positioned = λ placed. two.positioned (one.positioned placed) }

-- with one more row that is positioned it keeps them
pub more_rows : (records : List Rec) (old new : List Row) (row : Row) → new ≡ old ++ row ∷ [] → IsPositioned records row → KeepsRows records old new
more_rows records old new row is placed = record {
  rows = λ r has. (has.0, ap (λ xs. slice_get xs has.0) is ∙ get_front old (row ∷ []) has.0 r has.1);
  positioned = λ all r has. by_place all r (get_snoc old row r has.0 (sym (ap (λ xs. slice_get xs has.0) is) ∙ has.1));
} where
  by_place : ArePositioned records old → (r : Row) → {i : ℕ} → (slice_get old i ≡ Some r) ⊎ ((i ≡ length old) × (row ≡ r)) → IsPositioned records r
  by_place all r {i} (inl at) = all r (i, at)
  by_place all r (inr (here, same)) = subst (IsPositioned records) same placed

pub last_row : (old new : List Row) (row : Row) → new ≡ old ++ row ∷ [] → IsRowOf new row
last_row old new row is = (length old, ap (λ xs. slice_get xs (length old)) is ∙ get_last old row)

-- what a list of rows covers is covered by one that kept them
pub branch_kept : (records : List Rec) (old new : List Row) (b : Branch) → KeepsRows records old new → HasRowFor records old b → HasRowFor records new b
branch_kept records old new b keeps (row, has, covers) = (row, keeps.rows row has, covers)

-- one more call was tried
pub tried_more : (facts : Facts) (records : List Rec) (event : ℕ) (b : Branch) (q : Pair) (numbers : List ℕ) (i n : ℕ) (old new : List Row) → slice_get numbers i ≡ Some n
    → ((k m : ℕ) → k < i → slice_get numbers k ≡ Some m → IsTried facts records event b m q old) → KeepsRows records old new → IsTried facts records event b n q new
    → (k m : ℕ) → k < suc i → slice_get numbers k ≡ Some m → IsTried facts records event b m q new
tried_more facts records event b q numbers i n old new at before keeps tried k m within is r may = by_order (cases_lt k i) where
  by_order : ((k < i) ⊎ (i ≤ k)) → HasRowFor records new (performed records event b m r q)
  by_order (inl first) = branch_kept records old new (performed records event b m r q) keeps (before k m first is r may)
  by_order (inr not) =
      let here : i ≡ k = omega (arith, within, not) in
      let same : n ≡ m = same_some n m (sym at ∙ (ap (slice_get numbers) here ∙ is)) in
      subst (λ o. HasRowFor records new (performed records event b o r q)) same (tried r (subst (λ o. MayPerform facts records event b o r q) (sym same) may))

-- if each candidate was tried, each call that may be performed has its step
pub all_tried : (facts : Facts) (records : List Rec) (event : ℕ) (b : Branch) (q : Pair) (numbers : List ℕ) (rows : List Row) → AreCandidates facts records event b q numbers
    → ((k m : ℕ) → slice_get numbers k ≡ Some m → IsTried facts records event b m q rows) → HasStepsWith facts records event b q rows
all_tried facts records event b q numbers rows candidates tried j s may =
    let r = candidates j s may in
    subst (HasRowFor records rows) r.same (tried r.listed.0 r.number r.listed.1 r.call r.may)

-- ---- the pairs that are tried

-- no known pair above the least is passed
not_passed : (records : List Rec) (least : Option Pair) (v : Pair) → IsAbove least v → version_of records v ≤ position records least → ⊥
not_passed records None v above within = omega (arith, within)
not_passed records (Some l) v above within = let before = position_before records l v above in omega (arith, within, before)

-- a pair that a call may take is the next known one, or an unknown one before it
known_next : (facts : Facts) (records : List Rec) (event : ℕ) (b : Branch) (j : ℕ) (s : Rec) (q v : Pair) → MayPerform facts records event b j s q → IsKnown records q
    → IsKnown records v → IsAbove b.least v → ((u : Pair) → IsKnown records u → IsAbove b.least u → ¬ IsBelow u v) → v ≡ q
known_next facts records event b j s q v may known is above least = by_order (pair_order v q) where
  by_order : IsBelow v q ⊎ ((v ≡ q) ⊎ IsBelow q v) → v ≡ q
  by_order (inr (inl same)) = same
  by_order (inr (inr lower)) = absurd (least q known may.rises lower)
  by_order (inl lower) = absurd (not_passed records b.least v above (may.passed v is lower))

-- a pair that the reply to a write shows is known
reported_known : (records : List Rec) (r : Rec) (q : Pair) → IsListed records r → pair_of r.heard ≡ Some q → IsKnown records q
reported_known records r q listed is = shown_known records q (record { call = r; listed = listed; shows = inl (by_heard r.heard is) }) where
  by_reply : (y : ℕ) (reply : Reply) → pair_of (Some (y, reply)) ≡ Some q → pair_shown (Some (y, reply)) ≡ Some q
  by_reply y (Indexed v created) is = is
  by_reply y (Deleted v found) is = is
  by_reply y (Found v k) is = absurd (none_is_not_some q is)
  by_reply y Missing is = absurd (none_is_not_some q is)
  by_reply y Conflict is = absurd (none_is_not_some q is)

  by_heard : (o : Option (ℕ × Reply)) → pair_of o ≡ Some q → pair_shown o ≡ Some q
  by_heard None is = absurd (none_is_not_some q is)
  by_heard (Some (y, reply)) is = by_reply y reply is

-- a pair that was found is known
found_known : (records : List Rec) (q : Pair) (k : ℕ) → IsFoundWith records q k → IsKnown records q
found_known records q k f = shown_known records q (record { call = f.call; listed = f.listed; shows = inl (ap pair_shown f.heard) })

-- The least pair above that of a branch is free if an unknown one may be taken. So it may be taken too, and the branch
-- behind that is no worse.
record IsLower (facts : Facts) (records : List Rec) (event : ℕ) (b : Branch) (j : ℕ) (s : Rec) (q f : Pair) : Type 0 where
  pub may : MayPerform facts records event b j s f
  pub covers : Covers records (performed records event b j s f) (performed records event b j s q)

lower_free : (facts : Facts) (records : List Rec) (event : ℕ) (b : Branch) (j : ℕ) (s : Rec) (q f : Pair) → MayPerform facts records event b j s q → (¬ IsKnown records q)
    → (¬ IsKnown records f) → facts.elsewhere f ≡ false → IsAbove b.least f → ((f ≡ q) ⊎ IsBelow f q) → IsLower facts records event b j s q f
lower_free facts records event b j s q f may unknown free own above lower = record {
  may = record {
    at = may.at;
    write = may.write;
    called = may.called;
    pending = may.pending;
    takes = inr (record {
      silent = taken.silent;
      unreported = λ (r, listed, is). free (reported_known records r f listed is);
      gives = λ known. absurd (free known);
    });
    found = λ k found. absurd (free (found_known records f k found));
    own = own;
    rises = above;
    before = by_least b.least above;
    passed = λ v known below. may.passed v known (below_too v below lower);
    condition = may.condition;
    missing = may.missing;
    agrees = may.agrees;
    unspent = may.unspent;
    deletes = may.deletes;
    makes = may.makes;
  };
  covers = record {
    place = same;
    exists = refl;
    least = lower;
    flipped = omega arith;
    arrived = (let one : moved_at (position records b.least == position records (Some q)) b.arrived_at event ≡ moved_at (position records b.least == position records (Some f)) b.arrived_at event =
        ap (λ n. moved_at (position records b.least == n) b.arrived_at event) (sym same) in omega (arith, one));
    owed = λ i is. is;
    spent = λ i is. is;
    deletes = omega arith;
    makes = omega arith;
  };
} where
  taken : MayHaveTaken facts.conflicts records s q
  taken = by_reply may.takes where
    by_reply : (pair_of s.heard ≡ Some q) ⊎ MayHaveTaken facts.conflicts records s q → MayHaveTaken facts.conflicts records s q
    by_reply (inl shows) = absurd (unknown (reported_known records s q (j, may.at) shows))
    by_reply (inr is) = is

  by_least : (o : Option Pair) → IsAbove o f → position records o ≤ taking_position records f
  by_least None above = omega arith
  by_least (Some l) above = position_before records l f above

  below_too : (v : Pair) → IsBelow v f → ((f ≡ q) ⊎ IsBelow f q) → IsBelow v q
  below_too v below (inl one) = subst (IsBelow v) one below
  below_too v below (inr on) = below_trans v f q below on

  above_too : (v : Pair) → IsBelow f v → (o : Option Pair) → IsAbove o f → IsAbove o v
  above_too v below None over = tt
  above_too v below (Some l) over = below_trans l f v over below

  between : (v : Pair) → IsKnown records v → IsBelow v q → IsBelow v f
  between v known below = by_order (pair_order v f) where
    by_order : IsBelow v f ⊎ ((v ≡ f) ⊎ IsBelow f v) → IsBelow v f
    by_order (inl is) = is
    by_order (inr (inl one)) = absurd (free (subst (IsKnown records) one known))
    by_order (inr (inr over)) = absurd (not_passed records b.least v (above_too v over b.least above) (may.passed v known below))

  counted : ((f ≡ q) ⊎ IsBelow f q) → taking_position records f ≡ taking_position records q
  counted (inl one) = ap (taking_position records) one
  counted (inr below) =
      ap (λ n. suc (2 * n)) (sym (count_same (known_pairs records) f q below (λ i v at lesser. between v (i, at) lesser)))

  same : position records (Some f) ≡ position records (Some q)
  same = position_unknown records f free ∙ (counted lower ∙ sym (position_unknown records q unknown))

-- a branch covers itself
pub covers_itself : (records : List Rec) (b : Branch) → Covers records b b
covers_itself records b = record {
  place = refl;
  exists = refl;
  least = by_pair b.least;
  flipped = omega arith;
  arrived = omega arith;
  owed = λ i is. is;
  spent = λ i is. is;
  deletes = omega arith;
  makes = omega arith;
} where
  by_pair : (o : Option Pair) → IsAtMost o o
  by_pair None = tt
  by_pair (Some p) = inl refl

-- what covers a branch covers what that branch covers
pub covers_on : (records : List Rec) (a b c : Branch) → Covers records a b → Covers records b c → Covers records a c
covers_on records a b c one two = record {
  place = one.place ∙ two.place;
  exists = one.exists ∙ two.exists;
  least = at_most_on a.least b.least c.least one.least two.least;
  flipped = (let first : b.flipped_at ≤ a.flipped_at = one.flipped in let second : c.flipped_at ≤ b.flipped_at = two.flipped in omega (arith, first, second));
  arrived = (let first : b.arrived_at ≤ a.arrived_at = one.arrived in let second : c.arrived_at ≤ b.arrived_at = two.arrived in omega (arith, first, second));
  owed = λ i is. two.owed i (one.owed i is);
  spent = λ i is. two.spent i (one.spent i is);
  deletes = (let first : a.deletes ≤ b.deletes = one.deletes in let second : b.deletes ≤ c.deletes = two.deletes in omega (arith, first, second));
  makes = (let first : a.makes ≤ b.makes = one.makes in let second : b.makes ≤ c.makes = two.makes in omega (arith, first, second));
}

-- if the steps with the next known pair and with the least free one are in the list, all steps are covered
pub all_steps : (facts : Facts) (records : List Rec) (event : ℕ) (b : Branch) (known free : Option Pair) (rows : List Row) → IsNextKnown records b.least known
    → IsFreeAbove facts records b.least free → HasStepsWithSome facts records event b known rows → HasStepsWithSome facts records event b free rows
    → AreSteps facts records event b rows
all_steps facts records event b known free rows next least with_known with_free j s q may = by_case (known_or_not records q) where
  covered : (f : Pair) → HasRowFor records rows (performed records event b j s f) → Covers records (performed records event b j s f) (performed records event b j s q)
      → HasRowFor records rows (performed records event b j s q)
  covered f (row, has, is) covers = (row, has, covers_on records (branch_of row) (performed records event b j s f) (performed records event b j s q) is covers)

  itself : Covers records (performed records event b j s q) (performed records event b j s q)
  itself = covers_itself records (performed records event b j s q)

  by_known : IsKnown records q → (o : Option Pair) → IsNextKnown records b.least o → HasStepsWithSome facts records event b o rows
      → HasRowFor records rows (performed records event b j s q)
  by_known is None none steps = absurd (none q is may.rises)
  by_known is (Some v) (listed, above, first) steps =
      let same : v ≡ q = known_next facts records event b j s q v may is listed above first in
      covered q (subst (λ p. HasRowFor records rows (performed records event b j s p)) same (steps j s (subst (MayPerform facts records event b j s) (sym same) may))) itself

  by_free : (¬ IsKnown records q) → (o : Option Pair) → IsFreeAbove facts records b.least o → HasStepsWithSome facts records event b o rows
      → HasRowFor records rows (performed records event b j s q)
  by_free unknown None none steps =
      let v = none q may.rises unknown may.own in
      absurd (not_passed records b.least v.0 v.2 (may.passed v.0 v.1 v.3))
  by_free unknown (Some f) (is_free, own, above, first) steps =
      let l = lower_free facts records event b j s q f may unknown is_free own above (first q may.rises may.own) in
      covered f (steps j s l.may) l.covers

  by_case : IsKnown records q ⊎ (¬ IsKnown records q) → HasRowFor records rows (performed records event b j s q)
  by_case (inl is) = by_known is known next with_known
  by_case (inr unknown) = by_free unknown free least with_free

-- steps that are in a list are in one that kept its rows
pub some_kept : (facts : Facts) (records : List Rec) (event : ℕ) (b : Branch) (o : Option Pair) (old new : List Row) → KeepsRows records old new
    → HasStepsWithSome facts records event b o old → HasStepsWithSome facts records event b o new
some_kept facts records event b None old new keeps steps = tt
some_kept facts records event b (Some q) old new keeps steps = λ j r may. branch_kept records old new (performed records event b j r q) keeps (steps j r may)

-- no row is in a list without rows
pub none_positioned : (records : List Rec) (rows : List Row) → rows ≡ [] → ArePositioned records rows
none_positioned records rows is row has = absurd (none_is_not_some row (sym (ap (λ xs. slice_get xs has.0) is) ∙ has.1))
