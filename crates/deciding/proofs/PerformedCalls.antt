-- Calls that take a pair at a place of an order that explains a document: each is a step of a branch that fits there.
use Rattle.std.proofs.Common.{ℕ, suc, ◌≡◌, ◌≢◌, ◌<◌, ◌≤◌, ◌⊎◌, ◌==◌, inl, inr, List, refl, sym, ap, subst, ◌∙◌, arith, Bool, true, false, cond, not, true≢false, Option, Some, None, slice_get}
use Rattle.std.specs.Prelude.{is_some}
use Rattle.std.proofs.lemmas.Bool.{and_parts, cases_lt, eqb-true, false_from_ne_true}
use Rattle.version_pair.specs.declared.pair.Pair.{Pair}
use Rattle.version_pair.specs.PairOrder.{IsBelow}
use Rattle.version_pair.proofs.ListLemmas.{none_is_not_some, same_some}
use Rattle.doc_register.specs.declared.op.Op.{Op}
use Rattle.doc_register.specs.declared.op.Op.TheVariants.{Get, Index, Delete, Create}
use Rattle.doc_register.specs.declared.reply.Reply.{Reply as Answer}
use Rattle.doc_register.specs.declared.reply.Reply.TheVariants.{Indexed, Deleted, Found, Missing, Conflict}
use Rattle.doc_register.specs.declared.state.Conflicts.{Conflicts}
use Rattle.doc_register.specs.declared.state.Conflicts.TheVariants.{Plain, Maybe}
use Rattle.doc_register.specs.declared.state.DocState.{DocState}
use Rattle.doc_register.specs.declared.state.DocState.TheVariants.{Never, Gone, Here}
use Rattle.doc_register.specs.Register.{DocStep, Exceeds, IsPerformed, Performs, is_here, last_pair, performed_state, value_of}
use Rattle.doc_register.specs.Run.{pair_taken}
use Rattle.doc_register.proofs.RunLemmas.{below_trans}
use Rattle.events.specs.declared.record.Rec.{Rec}
use Rattle.events.specs.Heard.{pair_of}
use Rattle.events.specs.Order.{Placed}
use Rattle.deciding.specs.Reported.{IsReportedOf}
use Rattle.deciding.specs.Positions.{taking_position, version_of}
use Rattle.deciding.specs.Branches.{Branch, IsAbove, IsAtMost, is_in, position}
use Rattle.deciding.specs.Steps.{AgreesWith, IsSilent, MayHaveTaken, MayPerform, count_of, is_conflict, is_hidden, is_lost_delete, is_lost_make, is_owed, is_same_bool, is_unconditional, moved_at, performed, without}
use Rattle.deciding.proofs.DocumentSteps.{exceeds_above, leaves_it, meets, met_pair}
use Rattle.deciding.proofs.OrderedSteps.{Explained, IsRecordOf, doc_at, performs_at, place_in, reached_after, recs, same_index, same_place, same_record, same_reply, same_state, step_at}
use Rattle.deciding.proofs.OrderedPositions.{position_at, position_below, position_known, reached_position, taken_below}
use Rattle.deciding.proofs.ReportedStates.{did_delete, did_index, known_taken, state_at, state_shown, takes_reported, unreported_here}
use Rattle.deciding.proofs.FittingBranches.{Fits, in_some, in_without, is_kind_before}
use Rattle.deciding.proofs.LostCalls.{kinds_made, kinds_step}

-- a call of the document takes a pair at a place
pub record IsTakenAt (x : Explained) (z : ℕ) (q : Pair) : Type 0 where
  pub placed : Placed
  pub call : Rec
  pub own : IsRecordOf x z placed call
  pub takes : pair_taken placed.entry.reply placed.entry.hidden ≡ Some q

-- ---- what the reply shows

-- a reply to a write that took a pair in the order shows the pair, or hides it
pub shown_or_silent : (x : Explained) (z : ℕ) (q : Pair) (t : IsTakenAt x z q) → (pair_of t.call.heard ≡ Some q) ⊎ (IsSilent x.facts.conflicts t.call.heard × (pair_of t.call.heard ≡ None))
shown_or_silent x z q t = by_heard t.call.heard refl where
  shows : (y : ℕ) (reply : Answer) → t.call.heard ≡ Some (y, reply) → pair_taken reply t.placed.entry.hidden ≡ Some q
  shows y reply heard = ap (λ a. pair_taken a t.placed.entry.hidden) (sym (same_reply x z t.placed t.call y reply t.own heard)) ∙ t.takes

  hides : (c : Conflicts) → x.facts.conflicts ≡ c → (y : ℕ) → t.call.heard ≡ Some (y, Conflict) → is_hidden c (Some (y, Conflict)) ≡ true
  hides Plain is y heard =
      let plain : t.placed.entry.hidden ≡ None = x.explains.is_order.plain is z t.placed t.own.entry.at in
      absurd (none_is_not_some q (sym plain ∙ shows y Conflict heard))
  hides Maybe is y heard = refl

  by_heard : (o : Option (ℕ × Answer)) → t.call.heard ≡ o → (pair_of o ≡ Some q) ⊎ (IsSilent x.facts.conflicts o × (pair_of o ≡ None))
  by_heard None heard = inr (inl refl, refl)
  by_heard (Some (y, Indexed v created)) heard = inl (shows y (Indexed v created) heard)
  by_heard (Some (y, Deleted v found)) heard = inl (shows y (Deleted v found) heard)
  by_heard (Some (y, Found v k)) heard = absurd (none_is_not_some q (shows y (Found v k) heard))
  by_heard (Some (y, Missing)) heard = absurd (none_is_not_some q (shows y Missing heard))
  by_heard (Some (y, Conflict)) heard = inr (inr (hides x.facts.conflicts refl y heard), refl)

-- ---- what a write leaves

-- a write leaves the document there just if it gives a number
pub exists_after : (op : Op) (q : Pair) → is_here (performed_state Never op q) ≡ is_some (value_of op)
exists_after Get q = refl
exists_after (Index k c) q = refl
exists_after (Delete c) q = refl
exists_after (Create k) q = refl

-- an operation that leaves the document there with a number gives it
pub gives_number : (op : Op) (p q : Pair) (n : ℕ) → Here q n ≡ performed_state Never op p → value_of op ≡ Some n
gives_number Get p q n is = let impossible : Here q n ≡ Never = is in absurd (cc)
gives_number (Index k c) p q n is = let same : Here q n ≡ Here p k = is in let one : k ≡ n = cc in ap (λ v. Some v) one
gives_number (Delete c) p q n is = let impossible : Here q n ≡ Gone p = is in absurd (cc)
gives_number (Create k) p q n is = let same : Here q n ≡ Here p k = is in let one : k ≡ n = cc in ap (λ v. Some v) one

-- what a call does at the place at which it takes a pair
pub record Leaves (x : Explained) (z : ℕ) (q : Pair) (op : Op) : Type 0 where
  pub performs : Performs (doc_at x z) op q (doc_at x (suc z))
  pub state : doc_at x (suc z) ≡ performed_state Never op q
  pub pair : last_pair (doc_at x (suc z)) ≡ Some q
  pub exists : is_here (doc_at x (suc z)) ≡ is_some (value_of op)

pub leaves_at : (x : Explained) (z : ℕ) (q : Pair) (t : IsTakenAt x z q) → Leaves x z q t.call.op
leaves_at x z q t =
    let performs = subst (λ op. Performs (doc_at x z) op q (doc_at x (suc z))) t.own.op (performs_at x z t.placed q t.own.entry t.takes) in
    let left = leaves_it (doc_at x z) t.call.op q (doc_at x (suc z)) performs in
    record { performs = performs; state = left.0; pair = left.1; exists = ap is_here left.0 ∙ exists_after t.call.op q }

-- ---- a call whose reply shows no pair

-- a call that is silent about the pair that it took in the order may have taken it
may_have_taken : (x : Explained) (z : ℕ) (q : Pair) (t : IsTakenAt x z q) → IsSilent x.facts.conflicts t.call.heard → pair_of t.call.heard ≡ None
    → MayHaveTaken x.facts.conflicts (recs x) t.call q
may_have_taken x z q t silent none = record {
  silent = silent;
  unreported = unreported;
  gives = λ known. sym left.exists ∙ unreported_here x q (suc z) known unreported left.pair;
} where
  left : Leaves x z q t.call.op
  left = leaves_at x z q t

  unreported : ¬ IsReportedOf (recs x) q
  unreported (r, listed, is) =
      let s = takes_reported x r q listed is in
      let place = same_place x z (place_in x.order r.no) t.placed s.placed q t.own.entry s.own.entry t.takes s.takes in
      let one : t.placed ≡ s.placed = same_some t.placed s.placed (sym t.own.entry.at ∙ (ap (slice_get x.order) place ∙ s.own.entry.at)) in
      let number : t.call.no ≡ r.no = sym t.own.number ∙ (ap (λ (y : Placed). y.no) one ∙ s.own.number) in
      let same : t.call ≡ r = same_record x t.own.listed.0 listed.0 t.call r t.own.listed.1 listed.1 number in
      none_is_not_some q (sym none ∙ (ap (λ (y : Rec). pair_of y.heard) same ∙ is))

-- ---- a step

agrees : (x : Explained) (z : ℕ) (q : Pair) (t : IsTakenAt x z q) (exists : Bool) → exists ≡ is_here (doc_at x z) → AgreesWith exists t.call.heard
agrees x z q t exists is = by_heard t.call.heard refl where
  step : (y : ℕ) (reply : Answer) → t.call.heard ≡ Some (y, reply) → DocStep (doc_at x z) t.placed.entry.op reply t.placed.entry.hidden (doc_at x (suc z))
  step y reply heard =
      subst (λ s. DocStep (doc_at x z) t.placed.entry.op s t.placed.entry.hidden (doc_at x (suc z))) (same_reply x z t.placed t.call y reply t.own heard)
      (step_at x z t.placed t.own.entry)

  by_heard : (o : Option (ℕ × Answer)) → t.call.heard ≡ o → AgreesWith exists o
  by_heard None heard = tt
  by_heard (Some (y, Indexed v created)) heard =
      (did_index (doc_at x z) t.placed.entry.op v created t.placed.entry.hidden (doc_at x (suc z)) (step y (Indexed v created) heard)).flag ∙ ap not (sym is)
  by_heard (Some (y, Deleted v found)) heard =
      (did_delete (doc_at x z) t.placed.entry.op v found t.placed.entry.hidden (doc_at x (suc z)) (step y (Deleted v found) heard)).flag ∙ sym is
  by_heard (Some (y, Found v k)) heard = tt
  by_heard (Some (y, Missing)) heard = tt
  by_heard (Some (y, Conflict)) heard = tt

-- a pair that exceeds the document is above what is at most its last
above_least : (x : Explained) (z : ℕ) (q : Pair) (least : Option Pair) → IsAtMost least (last_pair (doc_at x z)) → Exceeds q (doc_at x z) → IsAbove least q
above_least x z q None most exceeds = tt
above_least x z q (Some l) most exceeds = by_pair (last_pair (doc_at x z)) refl most where
  by_pair : (o : Option Pair) → last_pair (doc_at x z) ≡ o → IsAtMost (Some l) o → IsBelow l q
  by_pair None is most = absurd most
  by_pair (Some r) is (inl same) = subst (λ v. IsBelow v q) (sym same) (exceeds_above (doc_at x z) r q is exceeds)
  by_pair (Some r) is (inr below) = below_trans l r q below (exceeds_above (doc_at x z) r q is exceeds)

missing_before : (op : Op) (s : DocState) (k : ℕ) → op ≡ Create k → IsPerformed s op → is_here s ≡ false
missing_before op s k is allowed = subst (IsPerformed s) is allowed

no_get : (op : Op) (s : DocState) → IsPerformed s op → op ≢ Get
no_get op s allowed is = subst (IsPerformed s) is allowed

-- what takes a pair at a place at which a branch fits may be performed on it
pub may_perform : (x : Explained) (event z : ℕ) (b : Branch) (q : Pair) (t : IsTakenAt x z q) → Fits x event z b → t.call.call_at < event
    → MayPerform x.facts (recs x) event b t.own.listed.0 t.call q
may_perform x event z b q t fits called = record {
  at = t.own.listed.1;
  write = no_get t.call.op (doc_at x z) left.performs.allowed;
  called = called;
  pending = λ y reply heard. fits.late z t.placed t.call y reply q t.own (omega arith) t.takes heard;
  takes = by_reply (shown_or_silent x z q t);
  found = λ k f. (
      let a = state_at x f.call (Here q k) f.listed (ap (state_shown f.call.op) f.heard) in
      gives_number t.call.op q q k (sym (same_state x (suc z) a.0 (left.pair ∙ ap last_pair (sym a.1)) ∙ a.1) ∙ left.state)
      );
  own = x.apart z t.placed q t.own.entry.at t.own.entry.doc t.takes;
  rises = above_least x z q b.least fits.least left.performs.rises;
  before = (let low : position_at x z ≤ taking_position (recs x) q = position_below x z q left.performs.rises in let same : position (recs x) b.least ≡ position_at x z = fits.place in omega arith);
  passed = λ v known below. (
      let k = known_taken x v known in
      let first : k.place < z = taken_below x z t.placed q v k t.own.entry t.takes below in
      let most = reached_position (recs x) (doc_at x z) v (reached_after x k.place z k.placed v first k.entry k.takes) in
      let same : position (recs x) b.least ≡ position_at x z = fits.place in
      let version : position (recs x) (Some v) ≡ version_of (recs x) v = position_known (recs x) v known in
      omega (arith, most, same, version)
      );
  condition = λ c is. (
      let met = met_pair (doc_at x z) c (meets (doc_at x z) t.call.op q (doc_at x (suc z)) c left.performs is) in
      (fits.exists ∙ met.1, fits.place ∙ ap (position (recs x)) met.0, subst (IsAtMost b.least) met.0 fits.least)
      );
  missing = λ k is. fits.exists ∙ missing_before t.call.op (doc_at x z) k is left.performs.allowed;
  agrees = agrees x z q t b.exists fits.exists;
  unspent = λ hides. false_from_ne_true (is_in t.own.listed.0 b.spent) (λ is. absurd (let less : z < z = fits.spent t.own.listed.0 t.call z t.placed is t.own.listed.1 t.own in omega arith));
  deletes = λ lost. (
      let few : b.deletes ≤ count_of (is_kind_before x is_lost_delete z) (recs x) = fits.deletes in
      let more = kinds_made x event z b is_lost_delete t.placed t.call fits t.own lost called in
      omega (arith, few, more)
      );
  makes = λ lost. (
      let few : b.makes ≤ count_of (is_kind_before x is_lost_make z) (recs x) = fits.makes in
      let more = kinds_made x event z b is_lost_make t.placed t.call fits t.own lost called in
      omega (arith, few, more)
      );
} where
  left : Leaves x z q t.call.op
  left = leaves_at x z q t

  by_reply : (pair_of t.call.heard ≡ Some q) ⊎ (IsSilent x.facts.conflicts t.call.heard × (pair_of t.call.heard ≡ None)) → (pair_of t.call.heard ≡ Some q) ⊎ MayHaveTaken x.facts.conflicts (recs x) t.call q
  by_reply (inl shown) = inl shown
  by_reply (inr (silent, none)) = inr (may_have_taken x z q t silent none)

-- ---- the branch behind the step

still_owed : (b : Bool) (j i : ℕ) (js : List ℕ) → is_in j (cond b (without i js) js) ≡ true → (is_in j js ≡ true) × ((b ≡ false) ⊎ (j ≢ i))
still_owed true j i js is = let still = in_without j i js is in (still.0, inr still.1)
still_owed false j i js is = (is, inl refl)

same_bools : (a b : Bool) → is_same_bool a b ≡ true → a ≡ b
same_bools true true is = refl
same_bools true false is = absurd (true≢false (sym is))
same_bools false true is = absurd (true≢false (sym is))
same_bools false false is = refl

-- a branch on which the call was performed fits behind the place
pub performed_fits : (x : Explained) (event z : ℕ) (b : Branch) (q : Pair) (t : IsTakenAt x z q) → Fits x event z b → t.call.call_at < event
    → Fits x event (suc z) (performed (recs x) event b t.own.listed.0 t.call q)
performed_fits x event z b q t fits called = record {
  early = early;
  late = λ i p w y reply r of behind takes heard. fits.late i p w y reply r of (omega (arith, behind)) takes heard;
  place = ap (position (recs x)) (sym left.pair);
  least = subst (IsAtMost (Some q)) (sym left.pair) (inl refl);
  exists = sym left.exists;
  flipped = λ i p w of before other. by_flip (is_same_bool b.exists is) refl i p w of before other;
  arrived = λ i p w of before other. by_place (position (recs x) b.least == position (recs x) (Some q)) refl i p w of before other;
  owes = λ j w among at. fits.owes j w (still_owed (is_conflict t.call.heard) j own b.owed among).0 at;
  owed = λ j w i p among at of. (
      let still = still_owed (is_conflict t.call.heard) j own b.owed among in
      let from : z ≤ i = fits.owed j w i p still.0 at of in
      by_order j w i p at of (apart j w still.0 at still.1) (cases_lt z i) from
      );
  spent = λ j w i p among at of. by_spent j w i p at of (in_some (is_owed t.call) j own b.spent among);
  deletes = kinds_step x is_lost_delete z t.placed t.call b.deletes t.own fits.deletes;
  makes = kinds_step x is_lost_make z t.placed t.call b.makes t.own fits.makes;
} where
  left : Leaves x z q t.call.op
  left = leaves_at x z q t

  own : ℕ
  own = t.own.listed.0

  is : Bool
  is = is_some (value_of t.call.op)

  -- what is owed behind the step is another call
  apart : (j : ℕ) (w : Rec) → is_in j b.owed ≡ true → slice_get (recs x) j ≡ Some w → ((is_conflict t.call.heard ≡ false) ⊎ (j ≢ own)) → j ≢ own
  apart j w among at (inr other) same = other same
  apart j w among at (inl shows) same =
      let one : t.call ≡ w = same_some t.call w (sym t.own.listed.1 ∙ (ap (slice_get (recs x)) (sym same) ∙ at)) in
      let parts = and_parts (is_conflict w.heard) (is_unconditional w.op) (fits.owes j w among at) in
      true≢false (sym parts.0 ∙ (ap (λ (r : Rec). is_conflict r.heard) (sym one) ∙ shows))

  -- what stands at the place is the call
  here : (i : ℕ) (p : Placed) (w : Rec) → IsRecordOf x i p w → i ≡ z → t.call.no ≡ w.no
  here i p w of at =
      let one : p ≡ t.placed = same_some p t.placed (sym of.entry.at ∙ (ap (slice_get x.order) at ∙ t.own.entry.at)) in
      sym t.own.number ∙ (ap (λ (y : Placed). y.no) (sym one) ∙ of.number)

  early : (i : ℕ) (p : Placed) (w : Rec) → IsRecordOf x i p w → i < suc z → w.call_at < event
  early i p w of before = by_part (cases_lt i z) where
    by_part : ((i < z) ⊎ (z ≤ i)) → w.call_at < event
    by_part (inl first) = fits.early i p w of first
    by_part (inr not) =
        let at : i ≡ z = omega (arith, before, not) in
        let same : t.call ≡ w = same_record x t.own.listed.0 of.listed.0 t.call w t.own.listed.1 of.listed.1 (here i p w of at) in
        subst (λ (r : Rec). r.call_at < event) same called

  by_flip : (c : Bool) → is_same_bool b.exists is ≡ c → (i : ℕ) (p : Placed) (w : Rec) → IsRecordOf x i p w → i < suc z
      → (is_here (doc_at x i) ≢ is) ⊎ (is_here (doc_at x (suc i)) ≢ is) → w.call_at < moved_at c b.flipped_at event
  by_flip false flips i p w of before other = early i p w of before
  by_flip true flips i p w of before other = by_part (cases_lt i z) where
    same : b.exists ≡ is
    same = same_bools b.exists is flips

    never : i ≡ z → (is_here (doc_at x i) ≢ is) ⊎ (is_here (doc_at x (suc i)) ≢ is) → ⊥
    never at (inl off) = off (ap (λ n. is_here (doc_at x n)) at ∙ (sym fits.exists ∙ same))
    never at (inr off) = off (ap (λ n. is_here (doc_at x (suc n))) at ∙ left.exists)

    by_part : ((i < z) ⊎ (z ≤ i)) → w.call_at < b.flipped_at
    by_part (inl first) = fits.flipped i p w of first (subst (λ e. (is_here (doc_at x i) ≢ e) ⊎ (is_here (doc_at x (suc i)) ≢ e)) (sym same) other)
    by_part (inr not) = absurd (never (omega (arith, before, not)) other)

  by_place : (c : Bool) → (position (recs x) b.least == position (recs x) (Some q)) ≡ c → (i : ℕ) (p : Placed) (w : Rec) → IsRecordOf x i p w → i < suc z
      → position_at x i ≢ position (recs x) (Some q) → w.call_at < moved_at c b.arrived_at event
  by_place false moves i p w of before other = early i p w of before
  by_place true moves i p w of before other = by_part (cases_lt i z) where
    same : position (recs x) b.least ≡ position (recs x) (Some q)
    same = eqb-true (position (recs x) b.least) (position (recs x) (Some q)) moves

    by_part : ((i < z) ⊎ (z ≤ i)) → w.call_at < b.arrived_at
    by_part (inl first) = fits.arrived i p w of first (λ there. other (there ∙ same))
    by_part (inr not) =
        let at : i ≡ z = omega (arith, before, not) in
        absurd (other (ap (position_at x) at ∙ (sym fits.place ∙ same)))

  by_order : (j : ℕ) (w : Rec) (i : ℕ) (p : Placed) → slice_get (recs x) j ≡ Some w → IsRecordOf x i p w → j ≢ own → ((z < i) ⊎ (i ≤ z)) → z ≤ i → suc z ≤ i
  by_order j w i p at of other (inl later) from = omega (arith, later)
  by_order j w i p at of other (inr not) from =
      let there : i ≡ z = omega (arith, not, from) in
      absurd (other (sym (same_index x own j t.call w t.own.listed.1 at (here i p w of there))))

  by_spent : (j : ℕ) (w : Rec) (i : ℕ) (p : Placed) → slice_get (recs x) j ≡ Some w → IsRecordOf x i p w
      → ((is_owed t.call ≡ true) × (own ≡ j)) ⊎ (is_in j b.spent ≡ true) → i < suc z
  by_spent j w i p at of (inr before) = let less : i < z = fits.spent j w i p before at of in omega arith
  by_spent j w i p at of (inl (always, same)) =
      let one : t.call ≡ w = same_some t.call w (sym t.own.listed.1 ∙ (ap (slice_get (recs x)) same ∙ at)) in
      let place : i ≡ z = x.explains.is_order.once i z p t.placed of.entry.at t.own.entry.at (of.number ∙ (ap (λ (r : Rec). r.no) (sym one) ∙ sym t.own.number)) in
      omega arith

-- ---- a place at which the document stays

-- an index or a delete without a condition is never refused
pub always_performed : (s : DocState) (op : Op) (t : DocState) → is_unconditional op ≡ true → DocStep s op Conflict None t → ⊥
always_performed s Get t is step = true≢false (sym is)
always_performed s (Index k None) t is step = step.0 tt
always_performed s (Index k (Some c)) t is step = true≢false (sym is)
always_performed s (Delete None) t is step = step.0 tt
always_performed s (Delete (Some c)) t is step = true≢false (sym is)
always_performed s (Create k) t is step = true≢false (sym is)
