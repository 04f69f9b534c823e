-- What replies say of a document, against what it is at the places of an order that explains its history.
use Rattle.std.proofs.Common.{ℕ, suc, ◌≡◌, ◌⊎◌, inl, inr, refl, sym, ap, subst, ◌∙◌, Bool, true, not, Option, Some, None, option_and_then}
use Rattle.version_pair.specs.declared.pair.Pair.{Pair}
use Rattle.doc_register.specs.declared.op.Op.{Op}
use Rattle.doc_register.specs.declared.op.Op.TheVariants.{Get, Index, Delete, Create}
use Rattle.doc_register.specs.declared.reply.Reply.{Reply as Answer}
use Rattle.doc_register.specs.declared.reply.Reply.TheVariants.{Indexed, Deleted, Found, Missing, Conflict}
use Rattle.doc_register.specs.declared.state.DocState.{DocState}
use Rattle.doc_register.specs.declared.state.DocState.TheVariants.{Never, Gone, Here}
use Rattle.doc_register.specs.Register.{DocStep, HasPair, condition_of, is_here, last_pair, performed_state, shown, value_of}
use Rattle.doc_register.specs.Run.{pair_taken}
use Rattle.doc_register.proofs.RunLemmas.{shown_takes_none}
use Rattle.events.specs.declared.record.Rec.{Rec}
use Rattle.events.specs.Heard.{pair_of}
use Rattle.events.specs.Order.{Placed}
use Rattle.version_pair.proofs.ListLemmas.{none_is_not_some, same_some}
use Rattle.deciding.specs.Reported.{IsKnown, IsListed, IsReportedOf, condition_met, pair_shown}
use Rattle.deciding.proofs.Counts.{IsShown, known_shown}
use Rattle.deciding.proofs.DocumentSteps.{leaves_it, meets, met_pair}
use Rattle.deciding.proofs.OrderedSteps.{Explained, IsAnswered, IsRecordOf, IsTaken, answered, doc_at, performs_at, place_in, recs, same_state, step_at, taken_for}

-- ---- what replies say

-- what the document was, as a reply shows: after a write that was performed, or at a get that found it
abbrev pub state_shown : Op → Option (ℕ × Answer) → Option DocState
state_shown op None = None
state_shown op (Some (at, Indexed q created)) = Some (performed_state Never op q)
state_shown op (Some (at, Deleted q found)) = Some (performed_state Never op q)
state_shown op (Some (at, Found p k)) = Some (Here p k)
state_shown op (Some (at, Missing)) = None
state_shown op (Some (at, Conflict)) = None

-- the value from which another one comes
and_then_from : {X Y : Type 0} (f : X → Option Y) (o : Option X) (y : Y) → option_and_then f o ≡ Some y → (x : X) × (o ≡ Some x) × (f x ≡ Some y)
and_then_from f None y is = absurd (none_is_not_some y is)
and_then_from f (Some x) y is = (x, refl, is)

-- the reply that shows a pair which was taken
pair_heard : (heard : Option (ℕ × Answer)) (q : Pair) → pair_of heard ≡ Some q → (y : ℕ) × (r : Answer) × (heard ≡ Some (y, r)) × (pair_taken r None ≡ Some q)
pair_heard None q is = absurd (none_is_not_some q is)
pair_heard (Some (y, r)) q is = (y, r, refl, is)

-- a reply that shows a pair shows it whatever is hidden
pub shown_taken : (r : Answer) (h : Option Pair) (q : Pair) → pair_taken r None ≡ Some q → pair_taken r h ≡ Some q
shown_taken (Indexed p created) h q is = is
shown_taken (Deleted p found) h q is = is
shown_taken (Found p k) h q is = absurd (none_is_not_some q is)
shown_taken Missing h q is = absurd (none_is_not_some q is)
shown_taken Conflict h q is = absurd (none_is_not_some q is)

-- a get that finds a pair stands where the document has it
pub found_has : (s : DocState) (op : Op) (h : Option Pair) (t : DocState) (p : Pair) (k : ℕ) → DocStep s op (Found p k) h t → s ≡ Here p k
found_has s Get h t p k step = by_state s step.0 where
  by_state : (x : DocState) → Found p k ≡ shown x → x ≡ Here p k
  by_state Never is = let impossible : Found p k ≡ Missing = is in absurd (cc)
  by_state (Gone q) is = let impossible : Found p k ≡ Missing = is in absurd (cc)
  by_state (Here q n) is = let same : Found p k ≡ Found q n = is in let one : p ≡ q = cc in let two : k ≡ n = cc in cc
found_has s (Index n c) h t p k step = absurd step
found_has s (Delete c) h t p k step = absurd step
found_has s (Create n) h t p k step = absurd step

-- no get shows what a write answers
no_write_shown : (s : DocState) (r : Answer) (q : Pair) → r ≡ shown s → pair_taken r None ≡ Some q → ⊥
no_write_shown s r q is takes = none_is_not_some q (sym (shown_takes_none s) ∙ (ap (λ a. pair_taken a None) (sym is) ∙ takes))

-- what an index or a create did whose reply says that it was performed
pub record DidIndex (s : DocState) (op : Op) (q : Pair) (created : Bool) (t : DocState) : Type 0 where
  pub flag : created ≡ not (is_here s)
  pub value : ℕ
  pub gives : value_of op ≡ Some value
  pub left : t ≡ Here q value

pub did_index : (s : DocState) (op : Op) (q : Pair) (created : Bool) (h : Option Pair) (t : DocState) → DocStep s op (Indexed q created) h t → DidIndex s op q created t
did_index s Get q created h t step = absurd (no_write_shown s (Indexed q created) q step.0 refl)
did_index s (Index k c) q created None t step = let same : Indexed q created ≡ Indexed q (not (is_here s)) = step.1 in record { flag = cc; value = k; gives = refl; left = step.0.leaves }
did_index s (Index k c) q created (Some p) t step = absurd step
did_index s (Delete c) q created None t step = let impossible : Indexed q created ≡ Deleted q (is_here s) = step.1 in absurd (cc)
did_index s (Delete c) q created (Some p) t step = absurd step
did_index s (Create k) q created None t step = let same : Indexed q created ≡ Indexed q (not (is_here s)) = step.1 in record { flag = cc; value = k; gives = refl; left = step.0.leaves }
did_index s (Create k) q created (Some p) t step = absurd step

-- and a delete
pub record DidDelete (s : DocState) (q : Pair) (found : Bool) (t : DocState) : Type 0 where
  pub flag : found ≡ is_here s
  pub left : t ≡ Gone q

pub did_delete : (s : DocState) (op : Op) (q : Pair) (found : Bool) (h : Option Pair) (t : DocState) → DocStep s op (Deleted q found) h t → DidDelete s q found t
did_delete s Get q found h t step = absurd (no_write_shown s (Deleted q found) q step.0 refl)
did_delete s (Index k c) q found None t step = let impossible : Deleted q found ≡ Indexed q (not (is_here s)) = step.1 in absurd (cc)
did_delete s (Index k c) q found (Some p) t step = absurd step
did_delete s (Delete c) q found None t step = let same : Deleted q found ≡ Deleted q (is_here s) = step.1 in record { flag = cc; left = step.0.leaves }
did_delete s (Delete c) q found (Some p) t step = absurd step
did_delete s (Create k) q found None t step = let impossible : Deleted q found ≡ Indexed q (not (is_here s)) = step.1 in absurd (cc)
did_delete s (Create k) q found (Some p) t step = absurd step

-- an answered call is a step with its reply
pub reported_step : (x : Explained) (r : Rec) (reply : Answer) (a : IsAnswered x r reply)
    → DocStep (doc_at x (place_in x.order r.no)) r.op reply a.placed.entry.hidden (doc_at x (suc (place_in x.order r.no)))
reported_step x r reply a =
    subst (λ o. DocStep (doc_at x (place_in x.order r.no)) o reply a.placed.entry.hidden (doc_at x (suc (place_in x.order r.no)))) a.own.op
    (subst (λ s. DocStep (doc_at x (place_in x.order r.no)) a.placed.entry.op s a.placed.entry.hidden (doc_at x (suc (place_in x.order r.no)))) a.replies
    (step_at x (place_in x.order r.no) a.placed a.own.entry))

-- a write whose reply shows a pair stands in the order, and takes it there
pub record TakesShown (x : Explained) (r : Rec) (q : Pair) : Type 0 where
  pub placed : Placed
  pub own : IsRecordOf x (place_in x.order r.no) placed r
  pub takes : pair_taken placed.entry.reply placed.entry.hidden ≡ Some q

pub takes_shown : (x : Explained) (r : Rec) (y : ℕ) (reply : Answer) (q : Pair) → IsListed (recs x) r → r.heard ≡ Some (y, reply) → pair_taken reply None ≡ Some q → TakesShown x r q
takes_shown x r y reply q listed heard is =
    let a = answered x r y reply listed heard in
    record {
      placed = a.placed;
      own = a.own;
      takes = ap (λ s. pair_taken s a.placed.entry.hidden) a.replies ∙ shown_taken reply a.placed.entry.hidden q is;
    }

pub takes_reported : (x : Explained) (r : Rec) (q : Pair) → IsListed (recs x) r → pair_of r.heard ≡ Some q → TakesShown x r q
takes_reported x r q listed is = let h = pair_heard r.heard q is in takes_shown x r h.0 h.1 q listed h.2 h.3

-- the document is what a reply shows at some place
pub state_at : (x : Explained) (r : Rec) (t : DocState) → IsListed (recs x) r → state_shown r.op r.heard ≡ Some t → (j : ℕ) × (doc_at x j ≡ t)
state_at x r t listed is = by_heard r.heard refl is where
  wrote : (y : ℕ) (reply : Answer) (q : Pair) → r.heard ≡ Some (y, reply) → pair_taken reply None ≡ Some q → Some (performed_state Never r.op q) ≡ Some t → (j : ℕ) × (doc_at x j ≡ t)
  wrote y reply q heard takes is =
      let a = takes_shown x r y reply q listed heard takes in
      let k : ℕ = place_in x.order r.no in
      let left = leaves_it (doc_at x k) a.placed.entry.op q (doc_at x (suc k)) (performs_at x k a.placed q a.own.entry a.takes) in
      (suc k, left.0 ∙ (ap (λ o. performed_state Never o q) a.own.op ∙ same_some (performed_state Never r.op q) t is))

  by_heard : (o : Option (ℕ × Answer)) → r.heard ≡ o → state_shown r.op o ≡ Some t → (j : ℕ) × (doc_at x j ≡ t)
  by_heard None heard is = absurd (none_is_not_some t is)
  by_heard (Some (y, Indexed q created)) heard is = wrote y (Indexed q created) q heard refl is
  by_heard (Some (y, Deleted q found)) heard is = wrote y (Deleted q found) q heard refl is
  by_heard (Some (y, Found p k)) heard is =
      let a = answered x r y (Found p k) listed heard in
      let i : ℕ = place_in x.order r.no in
      let step = subst (λ s. DocStep (doc_at x i) a.placed.entry.op s a.placed.entry.hidden (doc_at x (suc i))) a.replies (step_at x i a.placed a.own.entry) in
      (i, found_has (doc_at x i) a.placed.entry.op a.placed.entry.hidden (doc_at x (suc i)) p k step ∙ same_some (Here p k) t is)
  by_heard (Some (y, Missing)) heard is = absurd (none_is_not_some t is)
  by_heard (Some (y, Conflict)) heard is = absurd (none_is_not_some t is)

-- where a write was performed under a condition the document had its pair
pub met_at : (x : Explained) (r : Rec) (p : Pair) → IsListed (recs x) r → condition_met r ≡ Some p → (j : ℕ) × HasPair (doc_at x j) p
met_at x r p listed is =
    let c = and_then_from (λ (q : Pair). condition_of r.op) (pair_of r.heard) p is in
    let a = takes_reported x r c.0 listed c.1 in
    let k : ℕ = place_in x.order r.no in
    (k, meets (doc_at x k) a.placed.entry.op c.0 (doc_at x (suc k)) p (performs_at x k a.placed c.0 a.own.entry a.takes) (ap condition_of a.own.op ∙ c.2))

-- ---- known pairs

-- where a reply shows a pair it shows the document with it
record ShowsState (r : Rec) (p : Pair) : Type 0 where
  pub state : DocState
  pub shown : state_shown r.op r.heard ≡ Some state
  pub pair : last_pair state ≡ Some p

-- the reply to a call that took a pair in the order shows the document with it
shows_state : (x : Explained) (r : Rec) (p : Pair) → IsListed (recs x) r → pair_shown r.heard ≡ Some p → ShowsState r p
shows_state x r p listed is = by_heard r.heard refl is where
  wrote : (y : ℕ) (reply : Answer) (q : Pair) → r.heard ≡ Some (y, reply) → pair_taken reply None ≡ Some q → state_shown r.op r.heard ≡ Some (performed_state Never r.op q) → ShowsState r q
  wrote y reply q heard takes is =
      let a = takes_shown x r y reply q listed heard takes in
      let k : ℕ = place_in x.order r.no in
      let left = leaves_it (doc_at x k) a.placed.entry.op q (doc_at x (suc k)) (performs_at x k a.placed q a.own.entry a.takes) in
      record {
        state = performed_state Never r.op q;
        shown = is;
        pair = ap (λ o. last_pair (performed_state Never o q)) (sym a.own.op) ∙ (ap last_pair (sym left.0) ∙ left.1);
      }

  by_heard : (o : Option (ℕ × Answer)) → r.heard ≡ o → pair_shown o ≡ Some p → ShowsState r p
  by_heard None heard is = absurd (none_is_not_some p is)
  by_heard (Some (y, Indexed q created)) heard is = subst (ShowsState r) (same_some q p is) (wrote y (Indexed q created) q heard refl (ap (state_shown r.op) heard))
  by_heard (Some (y, Deleted q found)) heard is = subst (ShowsState r) (same_some q p is) (wrote y (Deleted q found) q heard refl (ap (state_shown r.op) heard))
  by_heard (Some (y, Found q k)) heard is = subst (ShowsState r) (same_some q p is) (record { state = Here q k; shown = ap (state_shown r.op) heard; pair = refl })
  by_heard (Some (y, Missing)) heard is = absurd (none_is_not_some p is)
  by_heard (Some (y, Conflict)) heard is = absurd (none_is_not_some p is)

-- a known pair is taken somewhere
pub known_taken : (x : Explained) (v : Pair) → IsKnown (recs x) v → IsTaken x v
known_taken x v known = by_reply (known_shown (recs x) v known) where
  by_part : (s : IsShown (recs x) v) → (pair_shown s.call.heard ≡ Some v) ⊎ (condition_met s.call ≡ Some v) → IsTaken x v
  by_part s (inl is) =
      let t = shows_state x s.call v s.listed is in
      let a = state_at x s.call t.state s.listed t.shown in
      (taken_for x a.0 v (ap last_pair a.1 ∙ t.pair)).own
  by_part s (inr is) =
      let a = met_at x s.call v s.listed is in
      (taken_for x a.0 v (met_pair (doc_at x a.0) v a.1).0).own

  by_reply : IsShown (recs x) v → IsTaken x v
  by_reply s = by_part s s.shows

-- where a known pair has no reported writer the document was there with it
pub unreported_here : (x : Explained) (v : Pair) (j : ℕ) → IsKnown (recs x) v → (¬ IsReportedOf (recs x) v) → last_pair (doc_at x j) ≡ Some v → is_here (doc_at x j) ≡ true
unreported_here x v j known unreported is = by_part (known_shown (recs x) v known) (known_shown (recs x) v known).shows where
  by_heard : (s : IsShown (recs x) v) (o : Option (ℕ × Answer)) → s.call.heard ≡ o → pair_shown o ≡ Some v → is_here (doc_at x j) ≡ true
  by_heard s None heard shows = absurd (none_is_not_some v shows)
  by_heard s (Some (y, Indexed q created)) heard shows = absurd (unreported (s.call, s.listed, ap pair_of heard ∙ shows))
  by_heard s (Some (y, Deleted q found)) heard shows = absurd (unreported (s.call, s.listed, ap pair_of heard ∙ shows))
  by_heard s (Some (y, Found q k)) heard shows =
      let a = state_at x s.call (Here q k) s.listed (ap (state_shown s.call.op) heard) in
      ap is_here (same_state x j a.0 (is ∙ (sym shows ∙ ap last_pair (sym a.1))) ∙ a.1)
  by_heard s (Some (y, Missing)) heard shows = absurd (none_is_not_some v shows)
  by_heard s (Some (y, Conflict)) heard shows = absurd (none_is_not_some v shows)

  by_part : (s : IsShown (recs x) v) → (pair_shown s.call.heard ≡ Some v) ⊎ (condition_met s.call ≡ Some v) → is_here (doc_at x j) ≡ true
  by_part s (inl shows) = by_heard s s.call.heard refl shows
  by_part s (inr met) =
      let a = met_at x s.call v s.listed met in
      let had = met_pair (doc_at x a.0) v a.1 in
      ap is_here (same_state x j a.0 (is ∙ sym had.0)) ∙ had.1
