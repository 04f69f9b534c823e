-- Branches that stand for what a document is at a cut of an order that explains it.
use Rattle.std.proofs.Common.{ℕ, zero, suc, ◌≡◌, ◌≢◌, ◌<◌, ◌≤◌, ◌⊎◌, ◌==◌, ◌&&◌, inl, inr, List, [], ◌∷◌, length, nat_lt, refl, sym, ap, subst, ◌∙◌, arith, Bool, true, false, cond, true≢false, Option, Some, None, slice_get}
use Rattle.std.proofs.lemmas.Bool.{or_left, or_right, or_cases, eqb-true, eqb-false}
use Rattle.version_pair.specs.declared.pair.Pair.{Pair}
use Rattle.version_pair.specs.PairOrder.{IsBelow}
use Rattle.version_pair.proofs.ListLemmas.{mapped_from, none_is_not_some, same_some}
use Rattle.doc_register.specs.declared.reply.Reply.{Reply as Answer}
use Rattle.doc_register.specs.Register.{is_here, last_pair}
use Rattle.doc_register.specs.Run.{Entry, IsRun, State, pair_taken, start}
use Rattle.doc_register.proofs.RunLemmas.{IsKind, below_trans, step_kind}
use Rattle.std.specs.Cmp.Lexicographic.{bytes_decides}
use Rattle.events.specs.declared.record.Rec.{Rec}
use Rattle.events.specs.Events.{is_same}
use Rattle.events.specs.Order.{Placed, run_of}
use Rattle.deciding.specs.Branches.{Branch, Covers, IsAtMost, is_in, never_changed, position}
use Rattle.deciding.specs.Steps.{count_of, is_lost_delete, is_lost_make, is_owed, without}
use Rattle.deciding.proofs.DocumentSteps.{at_place}
use Rattle.deciding.proofs.OrderedSteps.{Explained, IsEntry, IsRecordOf, doc_at, mapped_at, place_in, recs}
use Rattle.deciding.proofs.OrderedPositions.{position_at}

-- ---- a branch at a cut

-- a record of a kind that stands before the place
abbrev pub is_kind_before : Explained → (Rec → Bool) → ℕ → Rec → Bool
is_kind_before x is z r = is r && (nat_lt (place_in x.order r.no) z && nat_lt (place_in x.order r.no) (length x.order))

-- The branch stands for what the document is at the place z of the order, before an event.
pub record Fits (x : Explained) (event z : ℕ) (b : Branch) : Type 0 where
  -- what stands before the place was called before the event
  pub early : (i : ℕ) (p : Placed) (w : Rec) → IsRecordOf x i p w → i < z → w.call_at < event
  -- what stands behind it and takes a pair was not answered before the event
  pub late : (i : ℕ) (p : Placed) (w : Rec) (y : ℕ) (reply : Answer) (q : Pair) → IsRecordOf x i p w → z ≤ i
      → pair_taken p.entry.reply p.entry.hidden ≡ Some q → w.heard ≡ Some (y, reply) → event ≤ y
  pub place : position (recs x) b.least ≡ position_at x z
  pub least : IsAtMost b.least (last_pair (doc_at x z))
  pub exists : b.exists ≡ is_here (doc_at x z)
  pub flipped : (i : ℕ) (p : Placed) (w : Rec) → IsRecordOf x i p w → i < z
      → (is_here (doc_at x i) ≢ b.exists) ⊎ (is_here (doc_at x (suc i)) ≢ b.exists) → w.call_at < b.flipped_at
  pub arrived : (i : ℕ) (p : Placed) (w : Rec) → IsRecordOf x i p w → i < z → position_at x i ≢ position (recs x) b.least
      → w.call_at < b.arrived_at
  pub owes : (j : ℕ) (w : Rec) → is_in j b.owed ≡ true → slice_get (recs x) j ≡ Some w → is_owed w ≡ true
  pub owed : (j : ℕ) (w : Rec) (i : ℕ) (p : Placed) → is_in j b.owed ≡ true → slice_get (recs x) j ≡ Some w → IsRecordOf x i p w → z ≤ i
  pub spent : (j : ℕ) (w : Rec) (i : ℕ) (p : Placed) → is_in j b.spent ≡ true → slice_get (recs x) j ≡ Some w → IsRecordOf x i p w → i < z
  pub deletes : b.deletes ≤ count_of (is_kind_before x is_lost_delete z) (recs x)
  pub makes : b.makes ≤ count_of (is_kind_before x is_lost_make z) (recs x)

-- what is at most the lower of two pairs is at most the greater
pub at_most_on : (a b c : Option Pair) → IsAtMost a b → IsAtMost b c → IsAtMost a c
at_most_on None b c one two = tt
at_most_on (Some p) None c one two = absurd one
at_most_on (Some p) (Some q) None one two = absurd two
at_most_on (Some p) (Some q) (Some r) (inl same) two = subst (λ v. IsAtMost (Some v) (Some r)) (sym same) two
at_most_on (Some p) (Some q) (Some r) (inr below) (inl same) = inr (subst (IsBelow p) same below)
at_most_on (Some p) (Some q) (Some r) (inr below) (inr on) = inr (below_trans p q r below on)

-- a branch that covers one which fits fits too
pub covers_fits : (x : Explained) (event z : ℕ) (a b : Branch) → Covers (recs x) a b → Fits x event z b → Fits x event z a
covers_fits x event z a b covers fits = record {
  early = fits.early;
  late = fits.late;
  place = covers.place ∙ fits.place;
  least = at_most_on a.least b.least (last_pair (doc_at x z)) covers.least fits.least;
  exists = covers.exists ∙ fits.exists;
  flipped = λ i p w of before other. (
      let first : w.call_at < b.flipped_at = fits.flipped i p w of before
      (subst (λ e. (is_here (doc_at x i) ≢ e) ⊎ (is_here (doc_at x (suc i)) ≢ e)) covers.exists other) in
      let more : b.flipped_at ≤ a.flipped_at = covers.flipped in
      omega arith
      );
  arrived = λ i p w of before other. (
      let first : w.call_at < b.arrived_at = fits.arrived i p w of before (λ same. other (same ∙ sym covers.place)) in
      let more : b.arrived_at ≤ a.arrived_at = covers.arrived in
      omega arith
      );
  owes = λ j w is at. fits.owes j w (covers.owed j is) at;
  owed = λ j w i p is at of. fits.owed j w i p (covers.owed j is) at of;
  spent = λ j w i p is at of. fits.spent j w i p (covers.spent j is) at of;
  deletes = (let few : a.deletes ≤ b.deletes = covers.deletes in let fit : b.deletes ≤ count_of (is_kind_before x is_lost_delete z) (recs x) = fits.deletes in omega (arith, few, fit));
  makes = (let few : a.makes ≤ b.makes = covers.makes in let fit : b.makes ≤ count_of (is_kind_before x is_lost_make z) (recs x) = fits.makes in omega (arith, few, fit));
}

-- the document before its history
pub never_fits : (x : Explained) → Fits x 0 0 never_changed
never_fits x = record {
  early = λ i p w of before. absurd (omega (arith, before));
  late = λ i p w y reply q of behind takes heard. omega arith;
  place = refl;
  least = tt;
  exists = refl;
  flipped = λ i p w of before other. absurd (omega (arith, before));
  arrived = λ i p w of before other. absurd (omega (arith, before));
  owes = λ j w is at. absurd (true≢false (sym is));
  owed = λ j w i p is at of. absurd (true≢false (sym is));
  spent = λ j w i p is at of. absurd (true≢false (sym is));
  deletes = omega arith;
  makes = omega arith;
}

-- ---- numbers in lists

pub in_without : (j i : ℕ) (js : List ℕ) → is_in j (without i js) ≡ true → (is_in j js ≡ true) × (j ≢ i)
in_without j i [] is = absurd (true≢false (sym is))
in_without j i (k ∷ ks) is = by_test (k == i) refl is (in_without j i ks) where
  by_rest : (b : Bool) → (k == i) ≡ b → (is_in j ks ≡ true) × (j ≢ i) → (is_in j (k ∷ ks) ≡ true) × (j ≢ i)
  by_rest b tested rest = (or_right (k == j) (is_in j ks) rest.0, rest.1)

  by_part : (k == i) ≡ false → (k == j ≡ true) ⊎ (is_in j (without i ks) ≡ true) → (is_in j (without i ks) ≡ true → (is_in j ks ≡ true) × (j ≢ i))
      → (is_in j (k ∷ ks) ≡ true) × (j ≢ i)
  by_part tested (inl here) rest =
      (or_left (k == j) (is_in j ks) here, λ same. eqb-false k i tested (eqb-true k j here ∙ same))
  by_part tested (inr later) rest = by_rest false tested (rest later)

  by_test : (b : Bool) → (k == i) ≡ b → is_in j (cond b (without i ks) (k ∷ without i ks)) ≡ true
      → (is_in j (without i ks) ≡ true → (is_in j ks ≡ true) × (j ≢ i)) → (is_in j (k ∷ ks) ≡ true) × (j ≢ i)
  by_test true tested is rest = by_rest true tested (rest is)
  by_test false tested is rest = by_part tested (or_cases (k == j) (is_in j (without i ks)) is) rest

pub in_front : (j i : ℕ) (js : List ℕ) → is_in j (i ∷ js) ≡ true → (i ≡ j) ⊎ (is_in j js ≡ true)
in_front j i js is = by_part (or_cases (i == j) (is_in j js) is) where
  by_part : (i == j ≡ true) ⊎ (is_in j js ≡ true) → (i ≡ j) ⊎ (is_in j js ≡ true)
  by_part (inl here) = inl (eqb-true i j here)
  by_part (inr later) = inr later

pub in_some : (b : Bool) (j i : ℕ) (js : List ℕ) → is_in j (cond b (i ∷ js) js) ≡ true → ((b ≡ true) × (i ≡ j)) ⊎ (is_in j js ≡ true)
in_some true j i js is = by_part (in_front j i js is) where
  by_part : (i ≡ j) ⊎ (is_in j js ≡ true) → ((true ≡ true) × (i ≡ j)) ⊎ (is_in j js ≡ true)
  by_part (inl here) = inl (refl, here)
  by_part (inr later) = inr later
in_some false j i js is = inr is

-- ---- places that change the document

-- An entry of the document takes a pair at a place of a run; or the document stays, and no entry of it takes one.
abbrev Changes : List ℕ → ℕ → (s : State) (es : List Entry) (t : State) → IsRun s es t → Type 0
Changes d i s es t run = ((at_place d (suc i) s es t run ≡ at_place d i s es t run) × ((e : Entry) → slice_get es i ≡ Some e → e.doc ≡ d → pair_taken e.reply e.hidden ≡ None))
    ⊎ ((e : Entry) × (slice_get es i ≡ Some e) × (e.doc ≡ d) × (q : Pair) × (pair_taken e.reply e.hidden ≡ Some q))

changes : (d : List ℕ) (i : ℕ) (s : State) (es : List Entry) (t : State) (run : IsRun s es t) → Changes d i s es t run
changes d zero s [] t run = inl (refl, λ e at. absurd (none_is_not_some e at))
changes d (suc i) s [] t run = inl (refl, λ e at. absurd (none_is_not_some e at))
changes d (suc i) s (e ∷ es) t (m, step, rest) = changes d i m es t rest
changes d zero s (e ∷ es) t (m, step, rest) = by_test (is_same e.doc d) refl where
  by_kind : e.doc ≡ d → IsKind (s.document e.doc) e.op e.reply e.hidden (m.document e.doc) → Changes d zero s (e ∷ es) t (m, step, rest)
  by_kind same (inl none) =
      inl (subst (λ x. m.document x ≡ s.document x) same none.1, λ f at of. ap (λ (y : Entry). pair_taken y.reply y.hidden) (sym (same_some e f at)) ∙ none.0)
  by_kind same (inr (q, is, w)) = inr (e, refl, same, q, is)

  by_test : (b : Bool) → is_same e.doc d ≡ b → Changes d zero s (e ∷ es) t (m, step, rest)
  by_test true is = by_kind ((bytes_decides e.doc d).0 is) (step_kind (s.document e.doc) e.op e.reply e.hidden (m.document e.doc) step.own)
  by_test false is = inl (
    step.others d (λ same. true≢false (sym ((bytes_decides e.doc d).1 (sym same)) ∙ is)),
    λ f at of. absurd (true≢false (sym ((bytes_decides e.doc d).1 (ap (λ (y : Entry). y.doc) (same_some e f at) ∙ of)) ∙ is)),
  )

-- at a place of the order the document stays, and no call of it takes a pair
pub record Stays (x : Explained) (z : ℕ) : Type 0 where
  pub same : doc_at x (suc z) ≡ doc_at x z
  pub none : (p : Placed) → IsEntry x z p → pair_taken p.entry.reply p.entry.hidden ≡ None

-- or one does
pub record Takes (x : Explained) (z : ℕ) : Type 0 where
  pub placed : Placed
  pub entry : IsEntry x z placed
  pub pair : Pair
  pub takes : pair_taken placed.entry.reply placed.entry.hidden ≡ Some pair

pub stays_or_takes : (x : Explained) (z : ℕ) → Stays x z ⊎ Takes x z
stays_or_takes x z = by_change (changes x.doc z start (run_of x.order) x.explains.legal.0 x.explains.legal.1) where
  entry_at : (p : Placed) → slice_get x.order z ≡ Some p → slice_get (run_of x.order) z ≡ Some p.entry
  entry_at p at = mapped_at (λ (y : Placed). y.entry) x.order z p at

  by_change : Changes x.doc z start (run_of x.order) x.explains.legal.0 x.explains.legal.1 → Stays x z ⊎ Takes x z
  by_change (inl (same, none)) = inl (record { same = same; none = λ p e. none p.entry (entry_at p e.at) e.doc })
  by_change (inr (e, at, doc, q, takes)) =
      let p = mapped_from (λ (y : Placed). y.entry) x.order z e at in
      inr (record {
        placed = p.0;
        entry = record { at = p.1; doc = ap (λ (y : Entry). y.doc) p.2 ∙ doc };
        pair = q;
        takes = ap (λ (y : Entry). pair_taken y.reply y.hidden) p.2 ∙ takes;
      })
