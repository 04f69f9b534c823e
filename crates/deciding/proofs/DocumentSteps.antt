-- What one document is at each place of a run of all documents.
use Rattle.std.proofs.Common.{ℕ, zero, suc, ◌≡◌, ◌<◌, ◌≤◌, ◌⊎◌, inl, inr, List, [], ◌∷◌, refl, sym, ap, subst, ◌∙◌, arith, Bool, true, false, Some, None, slice_get, true≢false}
use Rattle.std.specs.Cmp.Lexicographic.{bytes_decides}
use Rattle.version_pair.specs.declared.pair.Pair.{Pair}
use Rattle.version_pair.specs.PairOrder.{IsBelow}
use Rattle.doc_register.specs.declared.op.Op.{Op}
use Rattle.doc_register.specs.declared.op.Op.TheVariants.{Get, Index, Delete, Create}
use Rattle.doc_register.specs.declared.state.DocState.{DocState}
use Rattle.doc_register.specs.declared.state.DocState.TheVariants.{Never, Gone, Here}
use Rattle.doc_register.specs.Register.{DocStep, Exceeds, HasPair, Performs, condition_of, is_here, last_pair, performed_state}
use Rattle.doc_register.specs.Run.{Entry, IsRun, State, Step, pair_taken}
use Rattle.doc_register.proofs.RunLemmas.{AtMost, IsKind, below_new, leaves_pair, step_kind}
use Rattle.events.specs.Events.{is_same}
use Rattle.version_pair.proofs.ListLemmas.{none_is_not_some, same_some}

-- ---- states and pairs

-- a document that has a pair has reached it
pub pair_reached : (s : DocState) (p : Pair) → last_pair s ≡ Some p → AtMost p s
pair_reached Never p is = absurd (none_is_not_some p is)
pair_reached (Gone q) p is = inl (sym (same_some q p is))
pair_reached (Here q k) p is = inl (sym (same_some q p is))

-- a document that has reached a pair has one
pub reached_pair : (s : DocState) (p : Pair) → AtMost p s → (q : Pair) × (last_pair s ≡ Some q) × ((p ≡ q) ⊎ IsBelow p q)
reached_pair Never p most = absurd most
reached_pair (Gone q) p most = (q, refl, most)
reached_pair (Here q k) p most = (q, refl, most)

-- the pair of a condition that is met is the document's
pub met_pair : (s : DocState) (p : Pair) → HasPair s p → (last_pair s ≡ Some p) × (is_here s ≡ true)
met_pair Never p has = absurd has
met_pair (Gone q) p has = absurd has
met_pair (Here q k) p has = (ap (λ x. Some x) has, refl)

pub exceeds_above : (s : DocState) (q p : Pair) → last_pair s ≡ Some q → Exceeds p s → IsBelow q p
exceeds_above s q p is exceeds = below_new q p s (pair_reached s q is) exceeds

-- a document without a pair was never written
pub never_written : (s : DocState) → last_pair s ≡ None → s ≡ Never
never_written Never is = refl
never_written (Gone q) is = absurd (none_is_not_some q (sym is))
never_written (Here q k) is = absurd (none_is_not_some q (sym is))

-- ---- performed writes

-- what a performed write leaves has its pair, and depends on nothing before it
pub leaves_it : (s : DocState) (op : Op) (q : Pair) (t : DocState) → Performs s op q t → (t ≡ performed_state Never op q) × (last_pair t ≡ Some q)
leaves_it s Get q t w = absurd w.allowed
leaves_it s (Index k c) q t w = (w.leaves, ap last_pair w.leaves)
leaves_it s (Delete c) q t w = (w.leaves, ap last_pair w.leaves)
leaves_it s (Create k) q t w = (w.leaves, ap last_pair w.leaves)

-- a performed write with a condition stands where the document has just the pair that it asks for
pub meets : (s : DocState) (op : Op) (q : Pair) (t : DocState) (c : Pair) → Performs s op q t → condition_of op ≡ Some c → HasPair s c
meets s Get q t c w is = absurd (none_is_not_some c is)
meets s (Index k None) q t c w is = absurd (none_is_not_some c is)
meets s (Index k (Some b)) q t c w is = subst (HasPair s) (same_some b c is) w.allowed
meets s (Delete None) q t c w is = absurd (none_is_not_some c is)
meets s (Delete (Some b)) q t c w is = subst (HasPair s) (same_some b c is) w.allowed
meets s (Create k) q t c w is = absurd (none_is_not_some c is)

-- ---- a document at a place of a run

-- what the document is before the place
abbrev pub at_place : List ℕ → ℕ → (s : State) (es : List Entry) (t : State) → IsRun s es t → DocState
at_place d zero s es t run = s.document d
at_place d (suc i) s [] t run = s.document d
at_place d (suc i) s (e ∷ es) t (m, step, rest) = at_place d i m es t rest

-- an entry is a step of its document
pub own_step : (i : ℕ) (s : State) (es : List Entry) (t : State) (run : IsRun s es t) (e : Entry) → slice_get es i ≡ Some e
    → DocStep (at_place e.doc i s es t run) e.op e.reply e.hidden (at_place e.doc (suc i) s es t run)
own_step i s [] t run e at = absurd (none_is_not_some e at)
own_step zero s (x ∷ es) t (m, step, rest) e at =
    subst (λ (y : Entry). DocStep (s.document y.doc) y.op y.reply y.hidden (m.document y.doc)) (same_some x e at) step.own
own_step (suc i) s (x ∷ es) t (m, step, rest) e at = own_step i m es t rest e at

-- what one step makes of a document: it stays, or the entry is of it and takes a pair
came_in_step : (d : List ℕ) (s : State) (e : Entry) (m : State) → Step s e m
    → (m.document d ≡ s.document d) ⊎ ((e.doc ≡ d) × ((q : Pair) × (pair_taken e.reply e.hidden ≡ Some q) × Performs (s.document d) e.op q (m.document d)))
came_in_step d s e m step = by_test (is_same e.doc d) refl where
  by_kind : e.doc ≡ d → IsKind (s.document e.doc) e.op e.reply e.hidden (m.document e.doc)
      → (m.document d ≡ s.document d) ⊎ ((e.doc ≡ d) × ((q : Pair) × (pair_taken e.reply e.hidden ≡ Some q) × Performs (s.document d) e.op q (m.document d)))
  by_kind same (inl none) = inl (subst (λ x. m.document x ≡ s.document x) same none.1)
  by_kind same (inr (q, is, w)) = inr (same, (q, is, subst (λ x. Performs (s.document x) e.op q (m.document x)) same w))

  by_test : (b : Bool) → is_same e.doc d ≡ b
      → (m.document d ≡ s.document d) ⊎ ((e.doc ≡ d) × ((q : Pair) × (pair_taken e.reply e.hidden ≡ Some q) × Performs (s.document d) e.op q (m.document d)))
  by_test true is = by_kind ((bytes_decides e.doc d).0 is) (step_kind (s.document e.doc) e.op e.reply e.hidden (m.document e.doc) step.own)
  by_test false is = inl (step.others d (λ same. true≢false (sym ((bytes_decides e.doc d).1 (sym same)) ∙ is)))

-- a document's pair does not fall in a step
pub step_keeps : (d : List ℕ) (q : Pair) (s : State) (e : Entry) (m : State) → Step s e m → AtMost q (s.document d) → AtMost q (m.document d)
step_keeps d q s e m step most = by_change (came_in_step d s e m step) where
  by_change : (m.document d ≡ s.document d) ⊎ ((e.doc ≡ d) × ((p : Pair) × (pair_taken e.reply e.hidden ≡ Some p) × Performs (s.document d) e.op p (m.document d)))
      → AtMost q (m.document d)
  by_change (inl stays) = subst (AtMost q) (sym stays) most
  by_change (inr (same, (p, is, w))) = leaves_pair (s.document d) e.op p (m.document d) q w (inr (below_new q p (s.document d) most w.rises))

keeps_on : (d : List ℕ) (q : Pair) (j : ℕ) (s : State) (es : List Entry) (t : State) (run : IsRun s es t) → AtMost q (s.document d) → AtMost q (at_place d j s es t run)
keeps_on d q zero s es t run most = most
keeps_on d q (suc j) s [] t run most = most
keeps_on d q (suc j) s (e ∷ es) t (m, step, rest) most = keeps_on d q j m es t rest (step_keeps d q s e m step most)

-- nor in a run
pub keeps : (d : List ℕ) (q : Pair) (i j : ℕ) (s : State) (es : List Entry) (t : State) (run : IsRun s es t) → i ≤ j → AtMost q (at_place d i s es t run) → AtMost q (at_place d j s es t run)
keeps d q zero j s es t run within most = keeps_on d q j s es t run most
keeps d q (suc i) zero s es t run within most = absurd (omega arith)
keeps d q (suc i) (suc j) s [] t run within most = most
keeps d q (suc i) (suc j) s (e ∷ es) t (m, step, rest) within most = keeps d q i j m es t rest (omega arith) most

-- before the place an entry of the document took its last pair, and it stayed as that left it
pub record IsTakenBefore (d : List ℕ) (j : ℕ) (s : State) (es : List Entry) (t : State) (run : IsRun s es t) : Type 0 where
  pub place : ℕ
  pub entry : Entry
  pub before : place < j
  pub at : slice_get es place ≡ Some entry
  pub doc : entry.doc ≡ d
  pub pair : Pair
  pub takes : pair_taken entry.reply entry.hidden ≡ Some pair
  pub stays : at_place d (suc place) s es t run ≡ at_place d j s es t run

-- how a document came to be what it is
pub came : (d : List ℕ) (j : ℕ) (s : State) (es : List Entry) (t : State) (run : IsRun s es t)
    → (at_place d j s es t run ≡ s.document d) ⊎ IsTakenBefore d j s es t run
came d zero s es t run = inl refl
came d (suc j) s [] t run = inl refl
came d (suc j) s (e ∷ es) t (m, step, rest) = by_later (came d j m es t rest) (came_in_step d s e m step) where
  by_later : (at_place d j m es t rest ≡ m.document d) ⊎ IsTakenBefore d j m es t rest
      → (m.document d ≡ s.document d) ⊎ ((e.doc ≡ d) × ((q : Pair) × (pair_taken e.reply e.hidden ≡ Some q) × Performs (s.document d) e.op q (m.document d)))
      → (at_place d j m es t rest ≡ s.document d) ⊎ IsTakenBefore d (suc j) s (e ∷ es) t (m, step, rest)
  by_later (inl was) (inl stays) = inl (was ∙ stays)
  by_later (inl was) (inr (same, (q, is, w))) =
      inr (record { place = zero; entry = e; before = omega arith; at = refl; doc = same; pair = q; takes = is; stays = sym was })
  by_later (inr given) change = inr (record {
    place = suc given.place;
    entry = given.entry;
    before = (let less : given.place < j = given.before in omega arith);
    at = given.at;
    doc = given.doc;
    pair = given.pair;
    takes = given.takes;
    stays = given.stays;
  })
