-- Tables of branches along a history that an order explains: in each table a branch fits. So a document that is ruled out
-- has no order.
use Rattle.std.proofs.Common.{ℕ, zero, suc, ◌≡◌, ◌≢◌, ◌<◌, ◌≤◌, ◌+◌, ◌⊎◌, ◌&&◌, inl, inr, List, [], ◌∷◌, refl, sym, ap, subst, ◌∙◌, arith, true, false, not, true≢false, Option, Some, None, slice_get, nat_le, nat_lt}
use Rattle.std.proofs.lemmas.Bool.{false_from_ne_true, cases_lt, cases_Bool, cases_eq, and_parts, and_cases, leb-true, leb-false, le-ltb, not-true, not-false}
use Rattle.version_pair.specs.declared.pair.Pair.{Pair}
use Rattle.version_pair.proofs.ListLemmas.{none_is_not_some, same_some}
use Rattle.doc_register.specs.declared.reply.Reply.{Reply as Answer}
use Rattle.doc_register.specs.declared.reply.Reply.TheVariants.{Indexed, Deleted, Found, Missing, Conflict}
use Rattle.doc_register.specs.declared.state.Conflicts.{Conflicts}
use Rattle.doc_register.specs.Register.{condition_of, last_pair}
use Rattle.doc_register.specs.Run.{pair_taken}
use Rattle.events.specs.declared.event.Event.{Event}
use Rattle.events.specs.declared.record.Rec.{Rec}
use Rattle.events.specs.Heard.{pair_of}
use Rattle.events.specs.Order.{Explains, Placed}
use Rattle.deciding.specs.Reported.{IsKnown, pair_shown}
use Rattle.deciding.specs.Records.{AreInOrder}
use Rattle.deciding.specs.Positions.{version_of}
use Rattle.deciding.specs.Branches.{Branch, IsBranchOf, is_in, never_changed, position}
use Rattle.deciding.specs.Steps.{is_hidden, is_owed, performed}
use Rattle.deciding.specs.Tables.{AreLeftAtCall, AreLeftAtReply, IsNextTable, IsPlaced, IsTableAt, is_past, is_reachable, is_served, is_served_with, may_come_later, owing, settled}
use Rattle.deciding.specs.Laws.{IsElsewhere, RuledOutHaveNoOrder}
use Rattle.doc_register.proofs.RunLaws.{no_pair_twice}
use Rattle.deciding.proofs.ReportedStates.{known_taken}
use Rattle.std.specs.Prelude.{option_map, option_and_then}
use Rattle.events.specs.Order.{Explains, IsOfCall, run_of}
use Rattle.events.specs.Events.{IsCallAt, IsHistory}
use Rattle.deciding.proofs.OrderedSteps.{entry_at}
use Rattle.doc_register.specs.Run.{taken, taken_at}
use Rattle.deciding.proofs.Counts.{shown_known}
use Rattle.deciding.proofs.DocumentSteps.{meets, met_pair}
use Rattle.deciding.proofs.OrderedSteps.{Explained, explained_by, IsRecordOf, IsTaken, answered, doc_at, place_in, record_of, recs, same_record, same_reply}
use Rattle.deciding.proofs.OrderedPositions.{called_before, position_at, position_grows, position_known, taken_earlier}
use Rattle.deciding.proofs.RecordOrder.{records_in_order}
use Rattle.deciding.proofs.ReportedStates.{found_has, reported_step}
use Rattle.deciding.proofs.FittingBranches.{Fits, Stays, Takes, covers_fits, in_some, in_without, never_fits, stays_or_takes}
use Rattle.deciding.proofs.PerformedCalls.{IsTakenAt, leaves_at, may_perform, performed_fits, shown_or_silent}
use Rattle.deciding.proofs.ServedCalls.{IsBehind, Stands, before_place, end_of, served_behind, stays_fits, taken_in}

-- ---- the records of one event

in_order : (x : Explained) → AreInOrder (recs x)
in_order x = records_in_order x.events x.doc x.history

-- no call is made at a reply
never_both : (x : Explained) (i j : ℕ) (r s : Rec) (y : ℕ) (reply : Answer) → slice_get (recs x) i ≡ Some r → slice_get (recs x) j ≡ Some s → r.heard ≡ Some (y, reply) → s.call_at ≢ y
never_both x = (in_order x).apart

-- one event answers one call
one_answered : (x : Explained) (i j : ℕ) (r s : Rec) (y : ℕ) (a b : Answer) → slice_get (recs x) i ≡ Some r → slice_get (recs x) j ≡ Some s → r.heard ≡ Some (y, a) → s.heard ≡ Some (y, b) → r ≡ s
one_answered x i j r s y a b at bt heard other =
    same_some r s (sym at ∙ (ap (slice_get (recs x)) ((in_order x).once i j r s y a b at bt heard other) ∙ bt))

-- a call is made before its reply
called_first : (x : Explained) (i : ℕ) (r : Rec) (y : ℕ) (reply : Answer) → slice_get (recs x) i ≡ Some r → r.heard ≡ Some (y, reply) → r.call_at < y
called_first x = (in_order x).replies

-- ---- behind a reply

-- a branch that fits behind an event
record FitsBehind (x : Explained) (event : ℕ) (next : List Branch) : Type 0 where
  pub place : ℕ
  pub branch : Branch
  pub listed : IsBranchOf next branch
  pub fits : Fits x event place branch

-- the call takes no pair at the place or behind it
abbrev IsOver : (x : Explained) → Rec → ℕ → Type 0
IsOver x c z = (i : ℕ) (p : Placed) (q : Pair) → IsRecordOf x i p c → z ≤ i → pair_taken p.entry.reply p.entry.hidden ≡ Some q → ⊥

settled_fits : (x : Explained) (index : ℕ) (c : Rec) (event : ℕ) (reply : Answer) (s : Stands x index c event reply) (z : ℕ) (b : Branch) → Fits x event z b → IsOver x c z
    → Fits x (suc event) z (settled index b)
settled_fits x index c event reply s z b fits over = record {
  early = λ i p w of before. (let less : w.call_at < event = fits.early i p w of before in omega arith);
  late = λ i p w y answer q of behind takes heard. (
      let from : event ≤ y = fits.late i p w y answer q of behind takes heard in
      by_order i p w y answer q of behind takes heard (cases_lt event y) from
      );
  place = fits.place;
  least = fits.least;
  exists = fits.exists;
  flipped = fits.flipped;
  arrived = fits.arrived;
  owes = λ j w among at. fits.owes j w (in_without j index b.owed among).0 at;
  owed = λ j w i p among at of. fits.owed j w i p (in_without j index b.owed among).0 at of;
  spent = λ j w i p among at of. fits.spent j w i p (in_without j index b.spent among).0 at of;
  deletes = fits.deletes;
  makes = fits.makes;
} where
  by_order : (i : ℕ) (p : Placed) (w : Rec) (y : ℕ) (answer : Answer) (q : Pair) → IsRecordOf x i p w → z ≤ i → pair_taken p.entry.reply p.entry.hidden ≡ Some q
      → w.heard ≡ Some (y, answer) → ((event < y) ⊎ (y ≤ event)) → event ≤ y → suc event ≤ y
  by_order i p w y answer q of behind takes heard (inl later) from = omega (arith, later)
  by_order i p w y answer q of behind takes heard (inr not) from =
      let here : y ≡ event = omega (arith, not, from) in
      let same : w ≡ c = one_answered x of.listed.0 index w c event answer reply of.listed.1 s.at (heard ∙ ap (λ n. Some (n, answer)) here) s.heard in
      absurd (over i p q (subst (IsRecordOf x i p) same of) behind takes)

-- what served the call is left behind its reply
served_left : (x : Explained) (index : ℕ) (c : Rec) (event : ℕ) (reply : Answer) (s : Stands x index c event reply) (table next : List Branch)
    → (left : AreLeftAtReply x.facts (recs x) event index c table next) → (z : ℕ) (b : Branch) → IsPlaced x.facts.conflicts (recs x) index c left.served left.waiting b
    → is_served (recs x) index c b ≡ true → Fits x event z b → IsOver x c z → FitsBehind x (suc event) next
served_left x index c event reply s table next left z b placed served fits over =
    let a = placed.serves served in
    let still = settled_fits x index c event reply s z a.0 (covers_fits x event z a.0 b a.2 fits) over in
    let d = left.left a.0 a.1 in
    record { place = z; branch = d.0; listed = d.1; fits = covers_fits x (suc event) z d.0 (settled index a.0) d.2 still }

-- ---- calls that are over

-- a call behind which the place lies takes no pair there
behind_over : (x : Explained) (index : ℕ) (c : Rec) (event : ℕ) (reply : Answer) (s : Stands x index c event reply) (z : ℕ) → IsBehind x index c event reply s z → IsOver x c z
behind_over x index c event reply s z behind i p q of from takes =
    let j : ℕ = place_in x.order c.no in
    let here : i ≡ j = x.explains.is_order.once i j p s.answered.placed of.entry.at s.answered.own.entry.at (of.number ∙ sym s.answered.own.number) in
    let one : p ≡ s.answered.placed = same_some p s.answered.placed (sym of.entry.at ∙ (ap (slice_get x.order) here ∙ s.answered.own.entry.at)) in
    let own : taken_in x index c event reply s ≡ Some q = ap (λ (y : Placed). pair_taken y.entry.reply y.entry.hidden) (sym one) ∙ takes in
    let before : j < z = before_place (taken_in x index c event reply s) j z q own behind in
    omega (arith, before, here, from)

-- a pair that a reply shows was taken before the place, if the branch has reached it
shown_over : (x : Explained) (event z : ℕ) (b : Branch) (v : Pair) (i : ℕ) (p : Placed) (c : Rec) → Fits x event z b → IsKnown (recs x) v
    → nat_le (version_of (recs x) v) (position (recs x) b.least) ≡ true → IsRecordOf x i p c → z ≤ i → pair_taken p.entry.reply p.entry.hidden ≡ Some v → ⊥
shown_over x event z b v i p c fits known served of from takes =
    let within : version_of (recs x) v ≤ position (recs x) b.least = leb-true (version_of (recs x) v) (position (recs x) b.least) served in
    let same : position (recs x) b.least ≡ position_at x z = fits.place in
    let taken : IsTaken x v = record { place = i; placed = p; entry = of.entry; takes = takes } in
    let before : i < z = taken_earlier x v taken z (omega (arith, within, same)) in
    omega (arith, before, from)

-- a conflict that can't be performed any more is over
conflict_over : (x : Explained) (index : ℕ) (c : Rec) (event z : ℕ) (b : Branch) → slice_get (recs x) index ≡ Some c → c.heard ≡ Some (event, Conflict) → Fits x event z b
    → may_come_later x.facts.conflicts (recs x) index c b ≡ false → IsOver x c z
conflict_over x index c event z b at heard fits done i p q of from takes =
    by_hidden (shown_or_silent x i q t) where
      t : IsTakenAt x i q
      t = record { placed = p; call = c; own = of; takes = takes }

      by_condition : (o : Option Pair) → condition_of c.op ≡ o → is_reachable (recs x) o b ≡ false → ⊥
      by_condition None is none = true≢false none
      by_condition (Some d) is none =
          let past : position (recs x) (Some d) < position (recs x) b.least = leb-false (position (recs x) b.least) (position (recs x) (Some d)) none in
          let left = leaves_at x i q t in
          let met = met_pair (doc_at x i) d (meets (doc_at x i) c.op q (doc_at x (suc i)) d left.performs is) in
          let here : position_at x i ≡ position (recs x) (Some d) = ap (position (recs x)) met.0 in
          let grows = position_grows x z i from in
          let same : position (recs x) b.least ≡ position_at x z = fits.place in
          omega (arith, past, here, grows, same)

      by_part : (not (is_in index b.spent) ≡ false) ⊎ (is_reachable (recs x) (condition_of c.op) b ≡ false) → ⊥
      by_part (inl spent) = let before : i < z = fits.spent index c i p (not-false (is_in index b.spent) spent) at of in omega (arith, before, from)
      by_part (inr none) = by_condition (condition_of c.op) refl none

      by_cases : is_hidden x.facts.conflicts c.heard ≡ true
          → (is_hidden x.facts.conflicts c.heard ≡ false) ⊎ ((not (is_in index b.spent) && is_reachable (recs x) (condition_of c.op) b) ≡ false) → ⊥
      by_cases hides (inl shows) = true≢false (sym hides ∙ shows)
      by_cases hides (inr none) = by_part (and_cases (not (is_in index b.spent)) (is_reachable (recs x) (condition_of c.op) b) none)

      by_silence : ((c.heard ≡ None) ⊎ (is_hidden x.facts.conflicts c.heard ≡ true)) → ⊥
      by_silence (inl none) = none_is_not_some (event, Conflict) (sym none ∙ heard)
      by_silence (inr hides) = by_cases hides (and_cases (is_hidden x.facts.conflicts c.heard) (not (is_in index b.spent) && is_reachable (recs x) (condition_of c.op) b) done)

      by_hidden : (pair_of c.heard ≡ Some q) ⊎ (((c.heard ≡ None) ⊎ (is_hidden x.facts.conflicts c.heard ≡ true)) × (pair_of c.heard ≡ None)) → ⊥
      by_hidden (inl shown) = none_is_not_some q (sym (ap pair_of heard) ∙ shown)
      by_hidden (inr (silent, none)) = by_silence silent

-- a call that a branch served, and that can't be performed later, is over
call_over : (x : Explained) (index : ℕ) (c : Rec) (event : ℕ) (reply : Answer) (s : Stands x index c event reply) (z : ℕ) (b : Branch) → Fits x event z b
    → is_served_with (recs x) index c b (Some (event, reply)) ≡ true → may_come_later x.facts.conflicts (recs x) index c b ≡ false → IsOver x c z
call_over x index c event (Indexed v created) s z b fits served done i p q of from takes =
    let known : IsKnown (recs x) v = shown_known (recs x) v (record { call = c; listed = (index, s.at); shows = inl (ap pair_shown s.heard) }) in
    shown_over x event z b v i p c fits known served of from (ap (λ a. pair_taken a p.entry.hidden) (same_reply x i p c event (Indexed v created) of s.heard))
call_over x index c event (Deleted v found) s z b fits served done i p q of from takes =
    let known : IsKnown (recs x) v = shown_known (recs x) v (record { call = c; listed = (index, s.at); shows = inl (ap pair_shown s.heard) }) in
    shown_over x event z b v i p c fits known served of from (ap (λ a. pair_taken a p.entry.hidden) (same_reply x i p c event (Deleted v found) of s.heard))
call_over x index c event (Found v k) s z b fits served done i p q of from takes =
    none_is_not_some q (sym (ap (λ a. pair_taken a p.entry.hidden) (same_reply x i p c event (Found v k) of s.heard)) ∙ takes)
call_over x index c event Missing s z b fits served done i p q of from takes =
    none_is_not_some q (sym (ap (λ a. pair_taken a p.entry.hidden) (same_reply x i p c event Missing of s.heard)) ∙ takes)
call_over x index c event Conflict s z b fits served done i p q of from takes = conflict_over x index c event z b s.at s.heard fits done i p q of from takes

-- ---- along the order up to an answered call

-- what stands before the end of the call was called before its reply
called_before_end : (x : Explained) (index : ℕ) (c : Rec) (event : ℕ) (reply : Answer) (s : Stands x index c event reply) (z : ℕ) (p : Placed) (w : Rec) → IsRecordOf x z p w
    → z < end_of (taken_in x index c event reply s) (place_in x.order c.no) → w.call_at < event
called_before_end x index c event reply s z p w of before = by_order (cases_lt z j) where
  j : ℕ
  j = place_in x.order c.no

  at_end : (o : Option Pair) → z < end_of o j → j ≤ z → z ≡ j
  at_end None before not = absurd (omega (arith, before, not))
  at_end (Some q) before not = omega (arith, before, not)

  by_order : ((z < j) ⊎ (j ≤ z)) → w.call_at < event
  by_order (inl first) = called_before x z j p s.answered.placed w c event reply of s.answered.own s.heard first
  by_order (inr not) =
      let here : z ≡ j = at_end (taken_in x index c event reply s) before not in
      let one : p ≡ s.answered.placed = same_some p s.answered.placed (sym of.entry.at ∙ (ap (slice_get x.order) here ∙ s.answered.own.entry.at)) in
      let number : w.no ≡ c.no = sym of.number ∙ (ap (λ (y : Placed). y.no) one ∙ s.answered.own.number) in
      let same : w ≡ c = same_record x of.listed.0 index w c of.listed.1 s.at number in
      subst (λ (r : Rec). r.call_at < event) (sym same) (called_first x index c event reply s.at s.heard)

-- the call at a place that takes a pair
taken_here : (x : Explained) (z : ℕ) (t : Takes x z) → IsTakenAt x z t.pair
taken_here x z t = let w = record_of x z t.placed t.entry in record { placed = t.placed; call = w.0; own = w.1; takes = t.takes }

-- a branch that fits at the end of the call served it
ends_here : (x : Explained) (index : ℕ) (c : Rec) (event : ℕ) (reply : Answer) (s : Stands x index c event reply) (table next : List Branch)
    (left : AreLeftAtReply x.facts (recs x) event index c table next) (z : ℕ) (b : Branch) → IsBehind x index c event reply s z
    → IsPlaced x.facts.conflicts (recs x) index c left.served left.waiting b → Fits x event z b → FitsBehind x (suc event) next
ends_here x index c event reply s table next left z b behind placed fits =
    let served : is_served (recs x) index c b ≡ true = ap (is_served_with (recs x) index c b) s.heard ∙ served_behind x event z b index c event reply s fits behind in
    served_left x index c event reply s table next left z b placed served fits (behind_over x index c event reply s z behind)

-- what the walk goes on with behind a place
abbrev GoesOn : (x : Explained) (index : ℕ) (c : Rec) (event z : ℕ) (served waiting next : List Branch) → Type 0
GoesOn x index c event z served waiting next = (a : Branch) → IsPlaced x.facts.conflicts (recs x) index c served waiting a → Fits x event (suc z) a → FitsBehind x (suc event) next

-- a call is performed at a place before the end: the branch served the answered call and it is over, or it waits and makes this step
at_step : (x : Explained) (index : ℕ) (c : Rec) (event : ℕ) (reply : Answer) (s : Stands x index c event reply) (table next : List Branch)
    (left : AreLeftAtReply x.facts (recs x) event index c table next) (z : ℕ) (b : Branch) → z < end_of (taken_in x index c event reply s) (place_in x.order c.no)
    → IsPlaced x.facts.conflicts (recs x) index c left.served left.waiting b → Fits x event z b → Takes x z → GoesOn x index c event z left.served left.waiting next → FitsBehind x (suc event) next
at_step x index c event reply s table next left z b before placed fits taken on =
    by_test (cases_Bool (is_served (recs x) index c b && not (may_come_later x.facts.conflicts (recs x) index c b))) where
      t : IsTakenAt x z taken.pair
      t = taken_here x z taken

      called : t.call.call_at < event
      called = called_before_end x index c event reply s z t.placed t.call t.own before

      by_test : ((is_served (recs x) index c b && not (may_come_later x.facts.conflicts (recs x) index c b)) ≡ true)
          ⊎ ((is_served (recs x) index c b && not (may_come_later x.facts.conflicts (recs x) index c b)) ≡ false) → FitsBehind x (suc event) next
      by_test (inl ends) =
          let parts = and_parts (is_served (recs x) index c b) (not (may_come_later x.facts.conflicts (recs x) index c b)) ends in
          let served : is_served_with (recs x) index c b (Some (event, reply)) ≡ true = sym (ap (is_served_with (recs x) index c b) s.heard) ∙ parts.0 in
          served_left x index c event reply s table next left z b placed parts.0 fits
          (call_over x index c event reply s z b fits served (not-true (may_come_later x.facts.conflicts (recs x) index c b) parts.1))
      by_test (inr goes) =
          let a = placed.waits goes in
          let fitting = covers_fits x event z a.0 b a.2 fits in
          let met = left.steps a.0 a.1 t.own.listed.0 t.call taken.pair (may_perform x event z a.0 taken.pair t fitting called) in
          on met.0 met.2 (covers_fits x event (suc z) met.0 (performed (recs x) event a.0 t.own.listed.0 t.call taken.pair) met.1 (performed_fits x event z a.0 taken.pair t fitting called))

-- from a branch that fits at a place, along the order, to one that is left behind the reply
along : (x : Explained) (index : ℕ) (c : Rec) (event : ℕ) (reply : Answer) (s : Stands x index c event reply) (table next : List Branch)
    (left : AreLeftAtReply x.facts (recs x) event index c table next) (n z : ℕ) (b : Branch) → end_of (taken_in x index c event reply s) (place_in x.order c.no) ≤ z + n
    → IsPlaced x.facts.conflicts (recs x) index c left.served left.waiting b → Fits x event z b → FitsBehind x (suc event) next
along x index c event reply s table next left zero z b within placed fits = ends_here x index c event reply s table next left z b (omega (arith, within)) placed fits
along x index c event reply s table next left (suc n) z b within placed fits =
    by_order (cases_lt z (end_of (taken_in x index c event reply s) (place_in x.order c.no))) (λ a on fitting. along x index c event reply s table next left n (suc z) a (omega (arith, within)) on fitting) where
      by_change : z < end_of (taken_in x index c event reply s) (place_in x.order c.no) → (Stays x z ⊎ Takes x z) → GoesOn x index c event z left.served left.waiting next → FitsBehind x (suc event) next
      by_change before (inl stays) on = on b placed (stays_fits x event z b stays fits (λ p w of. called_before_end x index c event reply s z p w of before))
      by_change before (inr taken) on = at_step x index c event reply s table next left z b before placed fits taken on

      by_order : ((z < end_of (taken_in x index c event reply s) (place_in x.order c.no)) ⊎ (end_of (taken_in x index c event reply s) (place_in x.order c.no) ≤ z))
          → GoesOn x index c event z left.served left.waiting next → FitsBehind x (suc event) next
      by_order (inl before) on = by_change before (stays_or_takes x z) on
      by_order (inr behind) on = ends_here x index c event reply s table next left z b behind placed fits

-- ---- from table to table

-- an answered call stands in the order
stands : (x : Explained) (index : ℕ) (c : Rec) (event : ℕ) (reply : Answer) → slice_get (recs x) index ≡ Some c → c.heard ≡ Some (event, reply) → Stands x index c event reply
stands x index c event reply at heard = record { at = at; heard = heard; answered = answered x c event reply (index, at) heard }

behind_reply : (x : Explained) (index : ℕ) (c : Rec) (event : ℕ) (reply : Answer) (table next : List Branch) → slice_get (recs x) index ≡ Some c → c.heard ≡ Some (event, reply)
    → AreLeftAtReply x.facts (recs x) event index c table next → FitsBehind x event table → FitsBehind x (suc event) next
behind_reply x index c event reply table next at heard left before =
    let s = stands x index c event reply at heard in
    let end : ℕ = end_of (taken_in x index c event reply s) (place_in x.order c.no) in
    let met = left.first before.branch before.listed in
    along x index c event reply s table next left end before.place met.0 (omega arith) met.2 (covers_fits x event before.place met.0 before.branch met.1 before.fits)

-- a get that is made finds a pair that the branch is not past
not_past : (x : Explained) (index : ℕ) (c : Rec) (event z : ℕ) (b : Branch) → slice_get (recs x) index ≡ Some c → c.call_at ≡ event → Fits x event z b
    → (o : Option (ℕ × Answer)) → c.heard ≡ o → is_past (recs x) (position (recs x) b.least) o ≡ false
not_past x index c event z b at called fits None heard = refl
not_past x index c event z b at called fits (Some (y, Indexed q created)) heard = refl
not_past x index c event z b at called fits (Some (y, Deleted q found)) heard = refl
not_past x index c event z b at called fits (Some (y, Found p k)) heard = by_order (cases_lt j z) where
  s : Stands x index c y (Found p k)
  s = stands x index c y (Found p k) at heard

  j : ℕ
  j = place_in x.order c.no

  there : position_at x j ≡ version_of (recs x) p
  there =
      ap (λ t. position (recs x) (last_pair t)) (found_has (doc_at x j) c.op s.answered.placed.entry.hidden (doc_at x (suc j)) p k (reported_step x c (Found p k) s.answered))
      ∙ position_known (recs x) p (shown_known (recs x) p (record { call = c; listed = (index, at); shows = inl (ap pair_shown heard) }))

  by_order : ((j < z) ⊎ (z ≤ j)) → nat_lt (version_of (recs x) p) (position (recs x) b.least) ≡ false
  by_order (inl before) = let early : c.call_at < event = fits.early j s.answered.placed c s.answered.own before in absurd (omega (arith, early, called))
  by_order (inr not) =
      let grows = position_grows x z j not in
      let place : position (recs x) b.least ≡ position_at x z = fits.place in
      le-ltb (version_of (recs x) p) (position (recs x) b.least) (omega (arith, there, grows, place))
not_past x index c event z b at called fits (Some (y, Missing)) heard = refl
not_past x index c event z b at called fits (Some (y, Conflict)) heard = refl

-- a branch that fits before an event at which no call is answered fits behind it
quiet_fits : (x : Explained) (event z : ℕ) (b : Branch) → ((i : ℕ) (w : Rec) (reply : Answer) → slice_get (recs x) i ≡ Some w → w.heard ≢ Some (event, reply)) → Fits x event z b
    → Fits x (suc event) z b
quiet_fits x event z b quiet fits = record {
  early = λ i p w of before. (let less : w.call_at < event = fits.early i p w of before in omega arith);
  late = λ i p w y reply q of behind takes heard. by_order of.listed.0 w y reply of.listed.1 heard (cases_lt event y) (fits.late i p w y reply q of behind takes heard);
  place = fits.place;
  least = fits.least;
  exists = fits.exists;
  flipped = fits.flipped;
  arrived = fits.arrived;
  owes = fits.owes;
  owed = fits.owed;
  spent = fits.spent;
  deletes = fits.deletes;
  makes = fits.makes;
} where
  by_order : (i : ℕ) (w : Rec) (y : ℕ) (reply : Answer) → slice_get (recs x) i ≡ Some w → w.heard ≡ Some (y, reply) → ((event < y) ⊎ (y ≤ event)) → event ≤ y → suc event ≤ y
  by_order i w y reply at heard (inl later) from = omega (arith, later)
  by_order i w y reply at heard (inr not) from =
      let here : y ≡ event = omega (arith, not, from) in
      absurd (quiet i w reply at (heard ∙ ap (λ n. Some (n, reply)) here))

-- a branch that fits before a call is made owes it behind that, if it has to be performed
owing_fits : (x : Explained) (index : ℕ) (c : Rec) (event z : ℕ) (b : Branch) → slice_get (recs x) index ≡ Some c → c.call_at ≡ event → Fits x event z b → Fits x (suc event) z b
    → Fits x (suc event) z (owing index c b)
owing_fits x index c event z b at called before fits = record {
  early = fits.early;
  late = fits.late;
  place = fits.place;
  least = fits.least;
  exists = fits.exists;
  flipped = fits.flipped;
  arrived = fits.arrived;
  owes = λ j w among there. by_owes j w there (in_some (is_owed c) j index b.owed among);
  owed = λ j w i p among there of. by_owed j w i p there of (in_some (is_owed c) j index b.owed among);
  spent = fits.spent;
  deletes = fits.deletes;
  makes = fits.makes;
} where
  by_owes : (j : ℕ) (w : Rec) → slice_get (recs x) j ≡ Some w → ((is_owed c ≡ true) × (index ≡ j)) ⊎ (is_in j b.owed ≡ true) → is_owed w ≡ true
  by_owes j w there (inr among) = fits.owes j w among there
  by_owes j w there (inl (is, same)) = ap is_owed (same_some w c (sym there ∙ (ap (slice_get (recs x)) (sym same) ∙ at))) ∙ is

  by_order : (w : Rec) (i : ℕ) (p : Placed) → IsRecordOf x i p w → w ≡ c → ((i < z) ⊎ (z ≤ i)) → z ≤ i
  by_order w i p of same (inr behind) = behind
  by_order w i p of same (inl first) =
      let early : w.call_at < event = before.early i p w of first in
      let now : w.call_at ≡ event = ap (λ (r : Rec). r.call_at) same ∙ called in
      absurd (omega (arith, early, now))

  by_owed : (j : ℕ) (w : Rec) (i : ℕ) (p : Placed) → slice_get (recs x) j ≡ Some w → IsRecordOf x i p w → ((is_owed c ≡ true) × (index ≡ j)) ⊎ (is_in j b.owed ≡ true) → z ≤ i
  by_owed j w i p there of (inr among) = fits.owed j w i p among there of
  by_owed j w i p there of (inl (is, same)) =
      by_order w i p of (same_some w c (sym there ∙ (ap (slice_get (recs x)) (sym same) ∙ at))) (cases_lt i z)

behind_call : (x : Explained) (index : ℕ) (c : Rec) (event : ℕ) (table next : List Branch) → slice_get (recs x) index ≡ Some c → c.call_at ≡ event
    → AreLeftAtCall (recs x) index c table next → FitsBehind x event table → FitsBehind x (suc event) next
behind_call x index c event table next at called left before =
    let quiet = quiet_fits x event before.place before.branch (λ i w reply there heard. never_both x i index w c event reply there at heard called) before.fits in
    let owing_too = owing_fits x index c event before.place before.branch at called before.fits quiet in
    let d = left before.branch before.listed (not_past x index c event before.place before.branch at called before.fits c.heard refl) in
    record { place = before.place; branch = d.0; listed = d.1; fits = covers_fits x (suc event) before.place d.0 (owing index c before.branch) d.2 owing_too }

-- ---- what an event is

-- a call of the list is made at the event
record IsMadeAt (records : List Rec) (event : ℕ) : Type 0 where
  pub index : ℕ
  pub call : Rec
  pub at : slice_get records index ≡ Some call
  pub called : call.call_at ≡ event

-- or one is answered
record IsHeardAt (records : List Rec) (event : ℕ) : Type 0 where
  pub index : ℕ
  pub call : Rec
  pub reply : Answer
  pub at : slice_get records index ≡ Some call
  pub heard : call.heard ≡ Some (event, reply)

made_or_not : (records : List Rec) (event : ℕ) → IsMadeAt records event ⊎ ((i : ℕ) (r : Rec) → slice_get records i ≡ Some r → r.call_at ≢ event)
made_or_not [] event = inr (λ i r at same. none_is_not_some r at)
made_or_not (r ∷ rs) event = by_first (cases_eq r.call_at event) (made_or_not rs event) where
  apart : (r.call_at ≢ event) → ((i : ℕ) (s : Rec) → slice_get rs i ≡ Some s → s.call_at ≢ event) → (i : ℕ) (s : Rec) → slice_get (r ∷ rs) i ≡ Some s → s.call_at ≢ event
  apart other none zero s at same = other (ap (λ (y : Rec). y.call_at) (same_some r s at) ∙ same)
  apart other none (suc i) s at same = none i s at same

  by_first : ((r.call_at ≡ event) ⊎ (r.call_at ≡ event → ⊥)) → IsMadeAt rs event ⊎ ((i : ℕ) (s : Rec) → slice_get rs i ≡ Some s → s.call_at ≢ event)
      → IsMadeAt (r ∷ rs) event ⊎ ((i : ℕ) (s : Rec) → slice_get (r ∷ rs) i ≡ Some s → s.call_at ≢ event)
  by_first (inl here) rest = inl (record { index = zero; call = r; at = refl; called = here })
  by_first (inr other) (inl later) = inl (record { index = suc later.index; call = later.call; at = later.at; called = later.called })
  by_first (inr other) (inr none) = inr (apart other none)

-- what is heard of a call that is answered at the event
abbrev heard_as : ℕ → Answer → Option (ℕ × Answer)
heard_as y reply = Some (y, reply)

heard_at_or_not : (heard : Option (ℕ × Answer)) (event : ℕ) → ((reply : Answer) × (heard ≡ heard_as event reply)) ⊎ ((reply : Answer) → heard ≢ heard_as event reply)
heard_at_or_not None event = inr (λ reply is. none_is_not_some (event, reply) is)
heard_at_or_not (Some (y, reply)) event = by_order (cases_eq y event) where
  by_order : ((y ≡ event) ⊎ (y ≡ event → ⊥)) → ((other : Answer) × (heard_as y reply ≡ heard_as event other)) ⊎ ((other : Answer) → heard_as y reply ≢ heard_as event other)
  by_order (inl here) = inl (reply, ap (λ n. heard_as n reply) here)
  by_order (inr off) = inr (λ other is. off (ap (λ (h : ℕ × Answer). h.0) (same_some (y, reply) (event, other) is)))

heard_or_not : (records : List Rec) (event : ℕ) → IsHeardAt records event ⊎ ((i : ℕ) (r : Rec) (reply : Answer) → slice_get records i ≡ Some r → r.heard ≢ Some (event, reply))
heard_or_not [] event = inr (λ i r reply at is. none_is_not_some r at)
heard_or_not (r ∷ rs) event = by_first (heard_at_or_not r.heard event) (heard_or_not rs event) where
  apart : ((reply : Answer) → r.heard ≢ Some (event, reply)) → ((i : ℕ) (s : Rec) (reply : Answer) → slice_get rs i ≡ Some s → s.heard ≢ Some (event, reply))
      → (i : ℕ) (s : Rec) (reply : Answer) → slice_get (r ∷ rs) i ≡ Some s → s.heard ≢ Some (event, reply)
  apart other none zero s reply at is = other reply (ap (λ (y : Rec). y.heard) (same_some r s at) ∙ is)
  apart other none (suc i) s reply at is = none i s reply at is

  by_first : ((reply : Answer) × (r.heard ≡ Some (event, reply))) ⊎ ((reply : Answer) → r.heard ≢ Some (event, reply))
      → IsHeardAt rs event ⊎ ((i : ℕ) (s : Rec) (reply : Answer) → slice_get rs i ≡ Some s → s.heard ≢ Some (event, reply))
      → IsHeardAt (r ∷ rs) event ⊎ ((i : ℕ) (s : Rec) (reply : Answer) → slice_get (r ∷ rs) i ≡ Some s → s.heard ≢ Some (event, reply))
  by_first (inl (reply, is)) rest = inl (record { index = zero; call = r; reply = reply; at = refl; heard = is })
  by_first (inr other) (inl later) = inl (record { index = suc later.index; call = later.call; reply = later.reply; at = later.at; heard = later.heard })
  by_first (inr other) (inr none) = inr (apart other none)

-- ---- the laws

-- a branch of the next table fits
fits_next : (x : Explained) (event : ℕ) (table next : List Branch) → IsNextTable x.facts (recs x) event table next → FitsBehind x event table → FitsBehind x (suc event) next
fits_next x event table next is before = by_call (made_or_not (recs x) event) (heard_or_not (recs x) event) where
  by_call : IsMadeAt (recs x) event ⊎ ((i : ℕ) (r : Rec) → slice_get (recs x) i ≡ Some r → r.call_at ≢ event)
      → IsHeardAt (recs x) event ⊎ ((i : ℕ) (r : Rec) (reply : Answer) → slice_get (recs x) i ≡ Some r → r.heard ≢ Some (event, reply)) → FitsBehind x (suc event) next
  by_call (inl m) h = behind_call x m.index m.call event table next m.at m.called (is.called m.index m.call m.at m.called) before
  by_call (inr none) (inl h) = behind_reply x h.index h.call event h.reply table next h.at h.heard (is.answered h.index h.call h.reply h.at h.heard) before
  by_call (inr none) (inr quiet) =
      let d = is.other none quiet before.branch before.listed in
      record { place = before.place; branch = d.0; listed = d.1; fits = covers_fits x (suc event) before.place d.0 before.branch d.2 (quiet_fits x event before.place before.branch quiet before.fits) }

-- in each table a branch fits
fits_table : (x : Explained) (event : ℕ) (table : List Branch) → IsTableAt x.facts (recs x) event table → FitsBehind x event table
fits_table x zero table (a, listed, covers) = record { place = zero; branch = a; listed = listed; fits = covers_fits x zero zero a never_changed covers (never_fits x) }
fits_table x (suc event) table (before, was, next) = fits_next x event before table next (fits_table x event before was)

-- ---- documents of one shard

-- what an entry takes in its shard
taken_of : (order : List Placed) (i : ℕ) (p : Placed) (q : Pair) → slice_get order i ≡ Some p → pair_taken p.entry.reply p.entry.hidden ≡ Some q
    → taken_at (run_of order) i ≡ Some (p.entry.shard, q)
taken_of order i p q at takes = ap (option_and_then taken) (entry_at order i p at) ∙ ap (option_map (λ v. (p.entry.shard, v))) takes

-- the document takes no pair that another document of its shard is known to have
other_takes : (conflicts : Conflicts) (events : List Event) (order : List Placed) (d : List ℕ) (q : Pair) → IsHistory events → Explains conflicts events order
    → IsElsewhere events d q → (i : ℕ) (p : Placed) → slice_get order i ≡ Some p → p.entry.doc ≡ d → pair_taken p.entry.reply p.entry.hidden ≡ Some q → ⊥
other_takes conflicts events order d q history explains is i p at own takes =
    let x = explained_by conflicts events order is.other history explains in
    let t = known_taken x q is.known in
    let a : IsOfCall events p = explains.is_order.calls i p at in
    let b : IsOfCall events t.placed = explains.is_order.calls t.place t.placed t.entry.at in
    let shard : p.entry.shard ≡ t.placed.entry.shard = is.shard a.0 b.0 p.no t.placed.no p.entry.shard t.placed.entry.shard p.entry.op t.placed.entry.op
    (subst (λ e. IsCallAt events a.0 p.no p.entry.shard e p.entry.op) own a.1)
    (subst (λ e. IsCallAt events b.0 t.placed.no t.placed.entry.shard e t.placed.entry.op) t.entry.doc b.1) in
    let here = taken_of order i p q at takes in
    let there = taken_of order t.place t.placed q t.entry.at t.takes in
    let place : i ≡ t.place = no_pair_twice (run_of order) explains.legal i t.place (p.entry.shard, q) here (there ∙ ap (λ h. Some (h, q)) (sym shard)) in
    let one : p ≡ t.placed = same_some p t.placed (sym at ∙ (ap (slice_get order) place ∙ t.entry.at)) in
    is.differs (sym t.entry.doc ∙ (ap (λ (y : Placed). y.entry.doc) (sym one) ∙ own))

pub ruled_out_have_no_order : RuledOutHaveNoOrder
ruled_out_have_no_order facts events d n history elsewhere ruled (order, explains) =
    let x : Explained = record {
      facts = facts;
      events = events;
      order = order;
      doc = d;
      history = history;
      explains = explains;
      apart = λ i p q at own takes. (
          false_from_ne_true (facts.elsewhere q) (λ is. other_takes facts.conflicts events order d q history explains (elsewhere q is) i p at own takes)
          );
    } in
    let f = fits_table x (suc ruled.replied) [] ruled.none in
    none_is_not_some f.branch f.listed.1
