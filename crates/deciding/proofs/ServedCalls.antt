-- Answered calls at a place of an order behind which they stand: a branch that fits there served them.
use Rattle.std.proofs.Common.{ℕ, suc, ◌≡◌, ◌≢◌, ◌<◌, ◌≤◌, ◌⊎◌, ◌==◌, ◌&&◌, ◌||◌, inl, inr, refl, sym, ap, subst, ◌∙◌, arith, Bool, true, false, not, true≢false, Option, Some, None, slice_get, nat_le, nat_lt}
use Rattle.std.proofs.lemmas.Bool.{cases_lt, cases_Bool, and_parts, or_left, or_right, eqb-true, false_from_ne_true, le-leb, lt-ltb, not_from_false, true_from_ne_false}
use Rattle.version_pair.specs.declared.pair.Pair.{Pair}
use Rattle.version_pair.specs.PairOrder.{IsBelow}
use Rattle.version_pair.proofs.ListLemmas.{none_is_not_some, same_some}
use Rattle.doc_register.specs.declared.op.Op.{Op}
use Rattle.doc_register.specs.declared.op.Op.TheVariants.{Get, Index, Delete, Create}
use Rattle.doc_register.specs.declared.reply.Reply.{Reply as Answer}
use Rattle.doc_register.specs.declared.reply.Reply.TheVariants.{Indexed, Deleted, Found, Missing, Conflict}
use Rattle.doc_register.specs.declared.state.DocState.{DocState}
use Rattle.doc_register.specs.declared.state.DocState.TheVariants.{Never, Gone, Here}
use Rattle.doc_register.specs.Register.{DocStep, HasPair, IsPerformed, condition_of, is_here, last_pair, value_of}
use Rattle.std.specs.Prelude.{is_some}
use Rattle.doc_register.specs.Run.{pair_taken}
use Rattle.doc_register.proofs.RunLemmas.{not_below_itself, not_both_below}
use Rattle.events.specs.declared.record.Rec.{Rec}
use Rattle.events.specs.Order.{Placed}
use Rattle.deciding.specs.Reported.{IsKnown, pair_shown, known_pairs}
use Rattle.deciding.specs.Positions.{version_of}
use Rattle.deciding.specs.Branches.{Branch, IsAtMost, is_among, is_in, position}
use Rattle.deciding.specs.Steps.{count_of, is_conflict, is_lost_delete, is_lost_make, is_owed, is_unconditional}
use Rattle.deciding.specs.Tables.{has_pair, is_refused, is_served_with}
use Rattle.deciding.proofs.Counts.{known_or_not, no_gap_is_version, same_version, shown_known}
use Rattle.deciding.proofs.DocumentSteps.{exceeds_above, meets, met_pair, reached_pair}
use Rattle.deciding.proofs.OrderedSteps.{Explained, IsAnswered, IsEntry, IsRecordOf, doc_at, place_in, reached_after, recs, same_reply, same_state, step_at}
use Rattle.deciding.proofs.OrderedPositions.{among_known, position_at, position_grows, position_known, position_unknown, reached_position}
use Rattle.deciding.proofs.ReportedStates.{found_has, reported_step}
use Rattle.deciding.proofs.FittingBranches.{Fits, Stays, is_kind_before}
use Rattle.deciding.proofs.LostCalls.{kinds_later}
use Rattle.deciding.proofs.PerformedCalls.{IsTakenAt, always_performed, leaves_at}

-- ---- a place at which the document stays

-- what is known to be a conflict was answered with one
conflict_heard : (heard : Option (ℕ × Answer)) → is_conflict heard ≡ true → (y : ℕ) × (heard ≡ Some (y, Conflict))
conflict_heard None is = absurd (true≢false (sym is))
conflict_heard (Some (y, Indexed q created)) is = absurd (true≢false (sym is))
conflict_heard (Some (y, Deleted q found)) is = absurd (true≢false (sym is))
conflict_heard (Some (y, Found p k)) is = absurd (true≢false (sym is))
conflict_heard (Some (y, Missing)) is = absurd (true≢false (sym is))
conflict_heard (Some (y, Conflict)) is = (y, refl)

-- a write that has to be performed takes a pair wherever it stands
owed_takes : (x : Explained) (i : ℕ) (p : Placed) (w : Rec) → IsRecordOf x i p w → is_owed w ≡ true → pair_taken p.entry.reply p.entry.hidden ≡ None → ⊥
owed_takes x i p w of owed none =
    let parts = and_parts (is_conflict w.heard) (is_unconditional w.op) owed in
    let heard = conflict_heard w.heard parts.0 in
    let reply : p.entry.reply ≡ Conflict = same_reply x i p w heard.0 Conflict of heard.1 in
    let hidden : p.entry.hidden ≡ None = ap (λ a. pair_taken a p.entry.hidden) (sym reply) ∙ none in
    let step = subst (λ o. DocStep (doc_at x i) o p.entry.reply p.entry.hidden (doc_at x (suc i))) of.op (step_at x i p of.entry) in
    let refused = subst (λ h. DocStep (doc_at x i) w.op Conflict h (doc_at x (suc i))) hidden (subst (λ a. DocStep (doc_at x i) w.op a p.entry.hidden (doc_at x (suc i))) reply step) in
    always_performed (doc_at x i) w.op (doc_at x (suc i)) parts.1 refused

-- a branch that fits at a place at which the document stays fits behind it
pub stays_fits : (x : Explained) (event z : ℕ) (b : Branch) → Stays x z → Fits x event z b → ((p : Placed) (w : Rec) → IsRecordOf x z p w → w.call_at < event)
    → Fits x event (suc z) b
stays_fits x event z b stays fits called = record {
  early = λ i p w of before. by_early i p w of before (cases_lt i z);
  late = λ i p w y reply q of behind takes heard. fits.late i p w y reply q of (omega (arith, behind)) takes heard;
  place = fits.place ∙ ap (λ s. position (recs x) (last_pair s)) (sym stays.same);
  least = subst (λ s. IsAtMost b.least (last_pair s)) (sym stays.same) fits.least;
  exists = fits.exists ∙ ap is_here (sym stays.same);
  flipped = λ i p w of before other. by_flip i p w of before other (cases_lt i z);
  arrived = λ i p w of before other. by_place i p w of before other (cases_lt i z);
  owes = fits.owes;
  owed = λ j w i p among at of. by_owed j w i p among at of (cases_lt z i) (fits.owed j w i p among at of);
  spent = λ j w i p among at of. (let less : i < z = fits.spent j w i p among at of in omega arith);
  deletes = (let fit : b.deletes ≤ count_of (is_kind_before x is_lost_delete z) (recs x) = fits.deletes in let more = kinds_later x is_lost_delete z in omega (arith, fit, more));
  makes = (let fit : b.makes ≤ count_of (is_kind_before x is_lost_make z) (recs x) = fits.makes in let more = kinds_later x is_lost_make z in omega (arith, fit, more));
} where
  by_early : (i : ℕ) (p : Placed) (w : Rec) → IsRecordOf x i p w → i < suc z → ((i < z) ⊎ (z ≤ i)) → w.call_at < event
  by_early i p w of before (inl first) = fits.early i p w of first
  by_early i p w of before (inr not) = called p w (subst (λ n. IsRecordOf x n p w) (omega (arith, before, not)) of)

  by_flip : (i : ℕ) (p : Placed) (w : Rec) → IsRecordOf x i p w → i < suc z → (is_here (doc_at x i) ≢ b.exists) ⊎ (is_here (doc_at x (suc i)) ≢ b.exists)
      → ((i < z) ⊎ (z ≤ i)) → w.call_at < b.flipped_at
  by_flip i p w of before other (inl first) = fits.flipped i p w of first other
  by_flip i p w of before (inl off) (inr not) =
      let at : i ≡ z = omega (arith, before, not) in absurd (off (ap (λ n. is_here (doc_at x n)) at ∙ sym fits.exists))
  by_flip i p w of before (inr off) (inr not) =
      let at : i ≡ z = omega (arith, before, not) in absurd (off (ap (λ n. is_here (doc_at x (suc n))) at ∙ (ap is_here stays.same ∙ sym fits.exists)))

  by_place : (i : ℕ) (p : Placed) (w : Rec) → IsRecordOf x i p w → i < suc z → position_at x i ≢ position (recs x) b.least → ((i < z) ⊎ (z ≤ i)) → w.call_at < b.arrived_at
  by_place i p w of before other (inl first) = fits.arrived i p w of first other
  by_place i p w of before other (inr not) =
      let at : i ≡ z = omega (arith, before, not) in absurd (other (ap (position_at x) at ∙ sym fits.place))

  by_owed : (j : ℕ) (w : Rec) (i : ℕ) (p : Placed) → is_in j b.owed ≡ true → slice_get (recs x) j ≡ Some w → IsRecordOf x i p w → ((z < i) ⊎ (i ≤ z)) → z ≤ i → suc z ≤ i
  by_owed j w i p among at of (inl later) from = omega (arith, later)
  by_owed j w i p among at of (inr not) from =
      let here : i ≡ z = omega (arith, not, from) in
      let entry : IsEntry x z p = subst (λ n. IsEntry x n p) here of.entry in
      absurd (owed_takes x i p w of (fits.owes j w among at) (stays.none p entry))

-- ---- what is found and what a condition asks for

-- the document's pair is the known one whose position it has
pub has_known : (x : Explained) (z : ℕ) (v : Pair) → IsKnown (recs x) v → position_at x z ≡ version_of (recs x) v → last_pair (doc_at x z) ≡ Some v
has_known x z v known same = by_pair (last_pair (doc_at x z)) refl where
  by_known : (p : Pair) → last_pair (doc_at x z) ≡ Some p → IsKnown (recs x) p ⊎ (¬ IsKnown (recs x) p) → Some p ≡ Some v
  by_known p is (inl too) =
      ap (λ q. Some q) (same_version (recs x) p v too known (sym (position_known (recs x) p too) ∙ (ap (position (recs x)) (sym is) ∙ same)))
  by_known p is (inr unknown) =
      absurd (no_gap_is_version (recs x) p v (sym (position_unknown (recs x) p unknown) ∙ (ap (position (recs x)) (sym is) ∙ same)))

  by_pair : (o : Option Pair) → last_pair (doc_at x z) ≡ o → last_pair (doc_at x z) ≡ Some v
  by_pair None is = let none : 0 ≡ version_of (recs x) v = sym (ap (position (recs x)) is) ∙ same in absurd (omega (arith, none))
  by_pair (Some p) is = is ∙ by_known p is (known_or_not (recs x) p)

-- a document that exists with a pair has it
exists_with : (s : DocState) (v : Pair) → last_pair s ≡ Some v → is_here s ≡ true → HasPair s v
exists_with Never v is here = absurd (none_is_not_some v is)
exists_with (Gone q) v is here = absurd (true≢false (sym here))
exists_with (Here q k) v is here = same_some q v is

-- the branch has the pair of a condition just if the document has it
pub pair_had : (x : Explained) (event z : ℕ) (b : Branch) (c : Pair) → Fits x event z b → has_pair (recs x) c b ≡ true
    → HasPair (doc_at x z) c × (IsKnown (recs x) c) × (position_at x z ≡ version_of (recs x) c)
pair_had x event z b c fits is =
    let known = and_parts (is_among (known_pairs (recs x)) c && b.exists) (position (recs x) b.least == version_of (recs x) c) is in
    let parts = and_parts (is_among (known_pairs (recs x)) c) b.exists known.0 in
    let place : position_at x z ≡ version_of (recs x) c = sym fits.place ∙ eqb-true (position (recs x) b.least) (version_of (recs x) c) known.1 in
    let listed : IsKnown (recs x) c = among_known (recs x) c parts.0 in
    (exists_with (doc_at x z) c (has_known x z c listed place) (sym fits.exists ∙ parts.1), listed, place)

-- ---- an answered call that stands before the place

-- An answered call of the document, which stands in the order.
pub record Stands (x : Explained) (index : ℕ) (c : Rec) (replied : ℕ) (reply : Answer) : Type 0 where
  pub at : slice_get (recs x) index ≡ Some c
  pub heard : c.heard ≡ Some (replied, reply)
  pub answered : IsAnswered x c reply

-- the place behind a call that stands at a place, if it takes a pair; otherwise the place itself
abbrev pub end_of : Option Pair → ℕ → ℕ
end_of None j = j
end_of (Some q) j = suc j

-- the pair that the call takes in the order
abbrev pub taken_in : (x : Explained) (index : ℕ) (c : Rec) (replied : ℕ) (reply : Answer) → Stands x index c replied reply → Option Pair
taken_in x index c replied reply s = pair_taken s.answered.placed.entry.reply s.answered.placed.entry.hidden

-- the call stands before the place, if it takes a pair, and otherwise not behind it
abbrev pub IsBehind : (x : Explained) (index : ℕ) (c : Rec) (replied : ℕ) (reply : Answer) → Stands x index c replied reply → ℕ → Type 0
IsBehind x index c replied reply s z = end_of (taken_in x index c replied reply s) (place_in x.order c.no) ≤ z

not_behind : (o : Option Pair) (j z : ℕ) → end_of o j ≤ z → j ≤ z
not_behind None j z within = within
not_behind (Some q) j z within = omega (arith, within)

pub before_place : (o : Option Pair) (j z : ℕ) (q : Pair) → o ≡ Some q → end_of o j ≤ z → j < z
before_place None j z q is within = absurd (none_is_not_some q is)
before_place (Some p) j z q is within = omega (arith, within)

-- a call that takes a pair in the order
abbrev pub taker : (x : Explained) (index : ℕ) (c : Rec) (replied : ℕ) (reply : Answer) (s : Stands x index c replied reply) (q : Pair)
    → taken_in x index c replied reply s ≡ Some q → IsTakenAt x (place_in x.order c.no) q
taker x index c replied reply s q takes = record { placed = s.answered.placed; call = c; own = s.answered.own; takes = takes }

-- behind a call that took a pair the document has reached its version
version_behind : (x : Explained) (event z : ℕ) (b : Branch) (j : ℕ) (p : Placed) (q : Pair) → IsEntry x j p → pair_taken p.entry.reply p.entry.hidden ≡ Some q → j < z
    → IsKnown (recs x) q → Fits x event z b → nat_le (version_of (recs x) q) (position (recs x) b.least) ≡ true
version_behind x event z b j p q e takes before known fits =
    let most = reached_position (recs x) (doc_at x z) q (reached_after x j z p q before e takes) in
    let same : position (recs x) (Some q) ≡ version_of (recs x) q = position_known (recs x) q known in
    let place : position (recs x) b.least ≡ position_at x z = fits.place in
    le-leb (version_of (recs x) q) (position (recs x) b.least) (omega (arith, most, same, place))

-- what a reply shows is known
shown_by : (x : Explained) (index : ℕ) (c : Rec) (replied : ℕ) (reply : Answer) (p : Pair) → Stands x index c replied reply → pair_shown (Some (replied, reply)) ≡ Some p → IsKnown (recs x) p
shown_by x index c replied reply p s shows = shown_known (recs x) p (record { call = c; listed = (index, s.at); shows = inl (ap pair_shown s.heard ∙ shows) })

-- a call that stands no later than the place and met the other state was made before the document flipped
met_other : (x : Explained) (event z : ℕ) (b : Branch) (j : ℕ) (p : Placed) (w : Rec) (exists : Bool) → Fits x event z b → IsRecordOf x j p w → j ≤ z → is_here (doc_at x j) ≡ exists
    → (b.exists ≡ exists → ⊥) → w.call_at < b.flipped_at
met_other x event z b j p w exists fits of within met other = by_order (cases_lt j z) where
  by_order : ((j < z) ⊎ (z ≤ j)) → w.call_at < b.flipped_at
  by_order (inl before) = fits.flipped j p w of before (inl (λ same. other (sym (sym met ∙ same))))
  by_order (inr not) =
      let here : j ≡ z = omega (arith, not, within) in
      absurd (other (fits.exists ∙ (ap (λ n. is_here (doc_at x n)) (sym here) ∙ met)))

-- a get that misses stands where the document is absent
missing_away : (s : DocState) (op : Op) (h : Option Pair) (t : DocState) → DocStep s op Missing h t → is_here s ≡ false
missing_away Never Get h t step = refl
missing_away (Gone p) Get h t step = refl
missing_away (Here p k) Get h t step = let impossible : Missing ≡ Found p k = step.0 in absurd (cc)
missing_away s (Index k c) h t step = absurd step
missing_away s (Delete c) h t step = absurd step
missing_away s (Create k) h t step = absurd step

-- a write that is refused isn't performed
refused : (s : DocState) (op : Op) (t : DocState) → DocStep s op Conflict None t → ¬ IsPerformed s op
refused s Get t step = λ performed. performed
refused s (Index k c) t step = step.0
refused s (Delete c) t step = step.0
refused s (Create k) t step = step.0

-- what is performed under a condition is performed on a document that has its pair
under_condition : (op : Op) (c : Pair) (s : DocState) → condition_of op ≡ Some c → HasPair s c → (op ≢ Get) → IsPerformed s op
under_condition Get c s is has write = absurd (write refl)
under_condition (Index k None) c s is has write = tt
under_condition (Index k (Some d)) c s is has write = subst (HasPair s) (sym (same_some d c is)) has
under_condition (Delete None) c s is has write = tt
under_condition (Delete (Some d)) c s is has write = subst (HasPair s) (sym (same_some d c is)) has
under_condition (Create k) c s is has write = absurd (none_is_not_some c is)

-- ---- conflicts

-- a write under a condition, answered with a conflict
under : (x : Explained) (event z : ℕ) (b : Branch) (index : ℕ) (c : Rec) (replied : ℕ) (s : Stands x index c replied Conflict) (d : Pair) → condition_of c.op ≡ Some d → Fits x event z b
    → IsBehind x index c replied Conflict s z → (not (has_pair (recs x) d b) || nat_lt c.call_at b.arrived_at) ≡ true
under x event z b index c replied s d asks fits behind = by_test (cases_Bool (has_pair (recs x) d b)) where
  j : ℕ
  j = place_in x.order c.no

  step : DocStep (doc_at x j) c.op Conflict s.answered.placed.entry.hidden (doc_at x (suc j))
  step = reported_step x c Conflict s.answered

  write : c.op ≢ Get
  write is = none_is_not_some d (sym (ap condition_of is) ∙ asks)

  -- if it was refused, the document had not the pair there; and if it was performed, it has another one behind it
  apart : HasPair (doc_at x z) d → (o : Option Pair) → s.answered.placed.entry.hidden ≡ o → (last_pair (doc_at x j) ≡ last_pair (doc_at x z)) → ⊥
  apart has None hidden same =
      let not_met = refused (doc_at x j) c.op (doc_at x (suc j)) (subst (λ h. DocStep (doc_at x j) c.op Conflict h (doc_at x (suc j))) hidden step) in
      not_met (under_condition c.op d (doc_at x j) asks (subst (λ t. HasPair t d) (sym (same_state x j z same)) has) write)
  apart has (Some q) hidden same =
      let takes : taken_in x index c replied Conflict s ≡ Some q = ap (λ a. pair_taken a s.answered.placed.entry.hidden) s.answered.replies ∙ hidden in
      let before : j < z = before_place (taken_in x index c replied Conflict s) j z q takes behind in
      let left = leaves_at x j q (taker x index c replied Conflict s q takes) in
      let old = met_pair (doc_at x j) d (meets (doc_at x j) c.op q (doc_at x (suc j)) d left.performs asks) in
      let lower = exceeds_above (doc_at x j) d q old.0 left.performs.rises in
      let reached = reached_pair (doc_at x z) q (reached_after x j z s.answered.placed q before s.answered.own.entry takes) in
      let now : Some reached.0 ≡ Some d = sym reached.1 ∙ (sym same ∙ old.0) in
      by_pair reached.0 (same_some reached.0 d now) reached.2 lower where
        by_pair : (r : Pair) → r ≡ d → ((q ≡ r) ⊎ IsBelow q r) → IsBelow d q → ⊥
        by_pair r is (inl one) lower = not_below_itself d (subst (IsBelow d) (one ∙ is) lower)
        by_pair r is (inr below) lower = not_both_below d q lower (subst (IsBelow q) is below)

  by_test : (has_pair (recs x) d b ≡ true) ⊎ (has_pair (recs x) d b ≡ false) → (not (has_pair (recs x) d b) || nat_lt c.call_at b.arrived_at) ≡ true
  by_test (inr none) = or_left (not (has_pair (recs x) d b)) (nat_lt c.call_at b.arrived_at) (not_from_false (has_pair (recs x) d b) none)
  by_test (inl is) =
      let had = pair_had x event z b d fits is in
      let now : last_pair (doc_at x z) ≡ Some d = has_known x z d had.1 had.2 in
      let other : position_at x j ≢ position (recs x) b.least =
      (λ same. apart had.0 s.answered.placed.entry.hidden refl (has_known x j d had.1 (same ∙ (fits.place ∙ had.2)) ∙ sym now)) in
      or_right (not (has_pair (recs x) d b)) (nat_lt c.call_at b.arrived_at)
      (lt-ltb c.call_at b.arrived_at (by_order other (cases_lt j z))) where
        by_order : position_at x j ≢ position (recs x) b.least → ((j < z) ⊎ (z ≤ j)) → c.call_at < b.arrived_at
        by_order other (inl before) = fits.arrived j s.answered.placed c s.answered.own before other
        by_order other (inr not) =
            let here : j ≡ z = (let within : j ≤ z = not_behind (taken_in x index c replied Conflict s) j z behind in omega (arith, not, within)) in
            absurd (other (ap (position_at x) here ∙ sym fits.place))

-- a create that was answered with a conflict
create_refused : (x : Explained) (event z : ℕ) (b : Branch) (index : ℕ) (c : Rec) (replied : ℕ) (s : Stands x index c replied Conflict) (k : ℕ) → c.op ≡ Create k → Fits x event z b
    → IsBehind x index c replied Conflict s z → (b.exists || nat_lt c.call_at b.flipped_at) ≡ true
create_refused x event z b index c replied s k is fits behind = by_test (cases_Bool b.exists) where
  j : ℕ
  j = place_in x.order c.no

  step : DocStep (doc_at x j) c.op Conflict s.answered.placed.entry.hidden (doc_at x (suc j))
  step = reported_step x c Conflict s.answered

  -- it was refused, and the document existed; or it was performed, and the document existed then
  by_hidden : b.exists ≡ false → (o : Option Pair) → s.answered.placed.entry.hidden ≡ o → c.call_at < b.flipped_at
  by_hidden away None hidden =
      let not_met = refused (doc_at x j) c.op (doc_at x (suc j)) (subst (λ h. DocStep (doc_at x j) c.op Conflict h (doc_at x (suc j))) hidden step) in
      met_other x event z b j s.answered.placed c true fits s.answered.own (not_behind (taken_in x index c replied Conflict s) j z behind)
      (true_from_ne_false (is_here (doc_at x j)) (λ missing. not_met (subst (IsPerformed (doc_at x j)) (sym is) missing)))
      (λ there. true≢false (sym there ∙ away))
  by_hidden away (Some q) hidden =
      let takes : taken_in x index c replied Conflict s ≡ Some q = ap (λ a. pair_taken a s.answered.placed.entry.hidden) s.answered.replies ∙ hidden in
      let before : j < z = before_place (taken_in x index c replied Conflict s) j z q takes behind in
      let left = leaves_at x j q (taker x index c replied Conflict s q takes) in
      fits.flipped j s.answered.placed c s.answered.own before
      (inr (λ same. true≢false (sym (left.exists ∙ ap (λ o. is_some (value_of o)) is) ∙ (same ∙ away))))

  by_test : (b.exists ≡ true) ⊎ (b.exists ≡ false) → (b.exists || nat_lt c.call_at b.flipped_at) ≡ true
  by_test (inl there) = or_left b.exists (nat_lt c.call_at b.flipped_at) there
  by_test (inr away) = or_right b.exists (nat_lt c.call_at b.flipped_at) (lt-ltb c.call_at b.flipped_at (by_hidden away s.answered.placed.entry.hidden refl))

-- a write without a condition, answered with a conflict: it was performed
not_owed : (x : Explained) (event z : ℕ) (b : Branch) (index : ℕ) (c : Rec) (replied : ℕ) (s : Stands x index c replied Conflict) → is_unconditional c.op ≡ true → Fits x event z b
    → IsBehind x index c replied Conflict s z → not (is_in index b.owed) ≡ true
not_owed x event z b index c replied s always fits behind = not_from_false (is_in index b.owed) (false_from_ne_true (is_in index b.owed) (λ among. by_hidden among s.answered.placed.entry.hidden refl)) where
  j : ℕ
  j = place_in x.order c.no

  by_hidden : is_in index b.owed ≡ true → (o : Option Pair) → s.answered.placed.entry.hidden ≡ o → ⊥
  by_hidden among None hidden =
      always_performed (doc_at x j) c.op (doc_at x (suc j)) always
      (subst (λ h. DocStep (doc_at x j) c.op Conflict h (doc_at x (suc j))) hidden (reported_step x c Conflict s.answered))
  by_hidden among (Some q) hidden =
      let takes : taken_in x index c replied Conflict s ≡ Some q = ap (λ a. pair_taken a s.answered.placed.entry.hidden) s.answered.replies ∙ hidden in
      let before : j < z = before_place (taken_in x index c replied Conflict s) j z q takes behind in
      let from : z ≤ j = fits.owed index c j s.answered.placed among s.at s.answered.own in
      omega (arith, before, from)

conflict_served : (x : Explained) (event z : ℕ) (b : Branch) (index : ℕ) (c : Rec) (replied : ℕ) (s : Stands x index c replied Conflict) → Fits x event z b
    → IsBehind x index c replied Conflict s z → (op : Op) → c.op ≡ op → is_refused (recs x) index c.call_at op b ≡ true
conflict_served x event z b index c replied s fits behind Get is = refl
conflict_served x event z b index c replied s fits behind (Index k None) is = not_owed x event z b index c replied s (ap is_unconditional is) fits behind
conflict_served x event z b index c replied s fits behind (Index k (Some d)) is = under x event z b index c replied s d (ap condition_of is) fits behind
conflict_served x event z b index c replied s fits behind (Delete None) is = not_owed x event z b index c replied s (ap is_unconditional is) fits behind
conflict_served x event z b index c replied s fits behind (Delete (Some d)) is = under x event z b index c replied s d (ap condition_of is) fits behind
conflict_served x event z b index c replied s fits behind (Create k) is = create_refused x event z b index c replied s k is fits behind

-- ---- any reply

-- a branch that fits at a place behind which no answered call of this kind stands served it
pub served_behind : (x : Explained) (event z : ℕ) (b : Branch) (index : ℕ) (c : Rec) (replied : ℕ) (reply : Answer) (s : Stands x index c replied reply) → Fits x event z b
    → IsBehind x index c replied reply s z → is_served_with (recs x) index c b (Some (replied, reply)) ≡ true
served_behind x event z b index c replied (Indexed q created) s fits behind =
    let takes : taken_in x index c replied (Indexed q created) s ≡ Some q = ap (λ a. pair_taken a s.answered.placed.entry.hidden) s.answered.replies in
    version_behind x event z b (place_in x.order c.no) s.answered.placed q s.answered.own.entry takes
    (before_place (taken_in x index c replied (Indexed q created) s) (place_in x.order c.no) z q takes behind) (shown_by x index c replied (Indexed q created) q s refl) fits
served_behind x event z b index c replied (Deleted q found) s fits behind =
    let takes : taken_in x index c replied (Deleted q found) s ≡ Some q = ap (λ a. pair_taken a s.answered.placed.entry.hidden) s.answered.replies in
    version_behind x event z b (place_in x.order c.no) s.answered.placed q s.answered.own.entry takes
    (before_place (taken_in x index c replied (Deleted q found) s) (place_in x.order c.no) z q takes behind) (shown_by x index c replied (Deleted q found) q s refl) fits
served_behind x event z b index c replied (Found p k) s fits behind =
    let j : ℕ = place_in x.order c.no in
    let here = found_has (doc_at x j) c.op s.answered.placed.entry.hidden (doc_at x (suc j)) p k (reported_step x c (Found p k) s.answered) in
    let known : IsKnown (recs x) p = shown_by x index c replied (Found p k) p s refl in
    let there : position_at x j ≡ version_of (recs x) p = ap (λ t. position (recs x) (last_pair t)) here ∙ position_known (recs x) p known in
    let grows = position_grows x j z (not_behind (taken_in x index c replied (Found p k) s) j z behind) in
    let place : position (recs x) b.least ≡ position_at x z = fits.place in
    le-leb (version_of (recs x) p) (position (recs x) b.least) (omega (arith, there, grows, place))
served_behind x event z b index c replied Missing s fits behind = by_test (cases_Bool b.exists) where
  j : ℕ
  j = place_in x.order c.no

  away : is_here (doc_at x j) ≡ false
  away = missing_away (doc_at x j) c.op s.answered.placed.entry.hidden (doc_at x (suc j)) (reported_step x c Missing s.answered)

  by_test : (b.exists ≡ true) ⊎ (b.exists ≡ false) → (not b.exists || nat_lt c.call_at b.flipped_at) ≡ true
  by_test (inr none) = or_left (not b.exists) (nat_lt c.call_at b.flipped_at) (not_from_false b.exists none)
  by_test (inl there) =
      or_right (not b.exists) (nat_lt c.call_at b.flipped_at) (lt-ltb c.call_at b.flipped_at
      (met_other x event z b j s.answered.placed c false fits s.answered.own (not_behind (taken_in x index c replied Missing s) j z behind) away (λ off. true≢false (sym there ∙ off))))
served_behind x event z b index c replied Conflict s fits behind = conflict_served x event z b index c replied s fits behind c.op refl
