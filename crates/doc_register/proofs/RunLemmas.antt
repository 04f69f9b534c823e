-- Steps of one document, and how they make up steps of all documents.
use Rattle.std.proofs.Common.{◌≡◌, ◌≢◌, ◌⊎◌, ◌==◌, ◌++◌, ◌<◌, ℕ, zero, suc, List, [], ◌∷◌, Bool, true, false, cond, Contains, Option, Some, None, IfSome, option_map, option_to_list, slice_get, sym, ap, subst, ◌∙◌, refl, inl, inr, arith}
use Rattle.std.specs.Cmp.Lexicographic.{pointwise, bytes_decides}
use Rattle.std.proofs.lemmas.List.Elements.{Contains-append_cases}
use Rattle.version_pair.specs.declared.pair.Pair.{Pair}
use Rattle.version_pair.specs.PairOrder.{IsBelow}
use Rattle.doc_register.specs.declared.op.Op.{Op}
use Rattle.doc_register.specs.declared.op.Op.TheVariants.{Get, Index, Delete, Create}
use Rattle.doc_register.specs.declared.reply.Reply.{Reply}
use Rattle.doc_register.specs.declared.reply.Reply.TheVariants.{Indexed, Deleted, Found, Missing, Conflict}
use Rattle.doc_register.specs.declared.state.DocState.{DocState}
use Rattle.doc_register.specs.declared.state.DocState.TheVariants.{Never, Gone, Here}
use Rattle.doc_register.specs.Register.{DocStep, Exceeds, Performs, WriteStep, shown}
use Rattle.doc_register.specs.Run.{Entry, IsDocRun, IsLegalRun, IsRun, State, Step, pair_taken, start, taken}

-- ---- pairs

pub not_below_itself : (p : Pair) → IsBelow p p → ⊥
not_below_itself p (inl h) = omega (arith, h)
not_below_itself p (inr h) = let seq : p.seq < p.seq = h.1 in omega arith

pub below_trans : (p q r : Pair) → IsBelow p q → IsBelow q r → IsBelow p r
below_trans p q r (inl a) (inl b) = inl (omega arith)
below_trans p q r (inl a) (inr b) = let same : q.term ≡ r.term = b.0 in inl (omega arith)
below_trans p q r (inr a) (inl b) = let same : p.term ≡ q.term = a.0 in inl (omega arith)
below_trans p q r (inr a) (inr b) =
    let first : p.term ≡ q.term = a.0 in let second : q.term ≡ r.term = b.0 in
    let low : p.seq < q.seq = a.1 in let high : q.seq < r.seq = b.1 in inr (omega arith, omega arith)

pub not_both_below : (p q : Pair) → IsBelow p q → IsBelow q p → ⊥
not_both_below p q (inl a) (inl b) = omega arith
not_both_below p q (inl a) (inr b) = let same : q.term ≡ p.term = b.0 in omega arith
not_both_below p q (inr a) (inl b) = let same : p.term ≡ q.term = a.0 in omega arith
not_both_below p q (inr a) (inr b) = let first : p.seq < q.seq = a.1 in let second : q.seq < p.seq = b.1 in omega arith

-- the document was changed, and the pair of its last change is p or above it
abbrev pub AtMost : Pair → DocState → Type 0
AtMost p Never = ⊥
AtMost p (Gone q) = (p ≡ q) ⊎ IsBelow p q
AtMost p (Here q k) = (p ≡ q) ⊎ IsBelow p q

below_along : (p q r : Pair) → (p ≡ q) ⊎ IsBelow p q → IsBelow q r → IsBelow p r
below_along p q r (inl e) b = subst (λ x. IsBelow x r) (sym e) b
below_along p q r (inr a) b = below_trans p q r a b

-- a pair that exceeds the document is above those that don't
pub below_new : (p q : Pair) (s : DocState) → AtMost p s → Exceeds q s → IsBelow p q
below_new p q Never a x = absurd a
below_new p q (Gone r) a x = below_along p r q a x
below_new p q (Here r k) a x = below_along p r q a x

-- the document that a performed write leaves has its pair
pub leaves_pair : (s : DocState) (op : Op) (q : Pair) (t : DocState) (p : Pair) → Performs s op q t → (p ≡ q) ⊎ IsBelow p q → AtMost p t
leaves_pair s Get q t p w h = absurd w.allowed
leaves_pair s (Index k c) q t p w h = subst (AtMost p) (sym w.leaves) h
leaves_pair s (Delete c) q t p w h = subst (AtMost p) (sym w.leaves) h
leaves_pair s (Create k) q t p w h = subst (AtMost p) (sym w.leaves) h

-- ---- steps of one document

-- a step takes no pair and leaves the document, or is a performed write that takes a pair
abbrev pub IsKind : DocState → Op → Reply → Option Pair → DocState → Type 0
IsKind s op r h t = ((pair_taken r h ≡ None) × (t ≡ s)) ⊎ ((q : Pair) × (pair_taken r h ≡ Some q) × Performs s op q t)

write_kind : (s : DocState) (op : Op) (r : Reply) (h : Option Pair) (t : DocState) → WriteStep s op r h t → IsKind s op r h t
write_kind s op (Indexed q created) None t w = inr (q, refl, w.0)
write_kind s op (Indexed q created) (Some p) t w = absurd w
write_kind s op (Deleted q found) None t w = inr (q, refl, w.0)
write_kind s op (Deleted q found) (Some p) t w = absurd w
write_kind s op (Found p k) h t w = absurd w
write_kind s op Missing h t w = absurd w
write_kind s op Conflict None t w = inl (refl, w.1)
write_kind s op Conflict (Some q) t w = inr (q, refl, w)

pub shown_takes_none : (s : DocState) → pair_taken (shown s) None ≡ None
shown_takes_none Never = refl
shown_takes_none (Gone p) = refl
shown_takes_none (Here p k) = refl

pub step_kind : (s : DocState) (op : Op) (r : Reply) (h : Option Pair) (t : DocState) → DocStep s op r h t → IsKind s op r h t
step_kind s Get r h t w = inl (ap (λ x. pair_taken x h) w.0 ∙ (ap (λ x. pair_taken (shown s) x) w.1 ∙ shown_takes_none s), w.2)
step_kind s (Index k c) r h t w = write_kind s (Index k c) r h t w
step_kind s (Delete c) r h t w = write_kind s (Delete c) r h t w
step_kind s (Create k) r h t w = write_kind s (Create k) r h t w

-- ---- a step of one document as a step of all

pub same_id : (d : List ℕ) → pointwise ◌==◌ d d ≡ true
same_id d = (bytes_decides d d).1 refl

pub other_id : (d x : List ℕ) → x ≢ d → pointwise ◌==◌ d x ≡ false
other_id d x n = by_test (pointwise ◌==◌ d x) refl where
  by_test : (b : Bool) → pointwise ◌==◌ d x ≡ b → pointwise ◌==◌ d x ≡ false
  by_test true e = absurd (n (sym ((bytes_decides d x).0 e)))
  by_test false e = e

-- the state after the entry, whose document is then m
abbrev pub after : State → Entry → DocState → State
after s e m = record { document = λ d. cond (pointwise ◌==◌ e.doc d) m (s.document d); used = option_to_list (taken e) ++ s.used }

pub after_own : (s : State) (e : Entry) (m : DocState) → (after s e m).document e.doc ≡ m
after_own s e m = ap (λ b. cond b m (s.document e.doc)) (same_id e.doc)

pub step_made : (s : State) (e : Entry) (m : DocState) → DocStep (s.document e.doc) e.op e.reply e.hidden m → IfSome (taken e) (λ q. ¬ Contains s.used q) → Step s e (after s e m)
step_made s e m step unused = record {
  own = subst (λ x. DocStep (s.document e.doc) e.op e.reply e.hidden x) (sym (after_own s e m)) step;
  others = λ d n. ap (λ b. cond b m (s.document d)) (other_id e.doc d n);
  unused = unused;
  used = refl;
}

pub taken_of : (e : Entry) (o : Option Pair) → pair_taken e.reply e.hidden ≡ o → taken e ≡ option_map (λ q. (e.shard, q)) o
taken_of e o is = ap (option_map (λ q. (e.shard, q))) is

-- ---- one document alone: its pairs rise

-- the document's last change has the greatest of the pairs used
abbrev IsBound : List (ℕ × Pair) → DocState → Type 0
IsBound used s = (q : ℕ × Pair) → Contains used q → AtMost q.1 s

unused_above : (used : List (ℕ × Pair)) (e : Entry) (s t : DocState) → IsBound used s → IsKind s e.op e.reply e.hidden t → IfSome (taken e) (λ q. ¬ Contains used q)
unused_above used e s t bound (inl none) = subst (λ o. IfSome o (λ q. ¬ Contains used q)) (sym (taken_of e None none.0)) tt
unused_above used e s t bound (inr (q, is, w)) =
    subst (λ o. IfSome o (λ q. ¬ Contains used q)) (sym (taken_of e (Some q) is))
    (λ c. not_below_itself q (below_new q q s (bound (e.shard, q) c) w.rises))

only_one : {X : Type 0} (y x : X) → Contains (y ∷ []) x → y ≡ x
only_one y x (zero, l, e) = e
only_one y x (suc k, l, e) = absurd (omega (arith, l))

bound_after : (used : List (ℕ × Pair)) (e : Entry) (s t : DocState) → IsBound used s → IsKind s e.op e.reply e.hidden t → IsBound (option_to_list (taken e) ++ used) t
bound_after used e s t bound (inl none) =
    subst (λ o. IsBound (option_to_list o ++ used) t) (sym (taken_of e None none.0)) (subst (IsBound used) (sym none.1) bound)
bound_after used e s t bound (inr (q, is, w)) =
    subst (λ o. IsBound (option_to_list o ++ used) t) (sym (taken_of e (Some q) is))
    (λ x c. elim (Contains-append_cases ((e.shard, q) ∷ []) used x c) as (λ _. AtMost x.1 t) [
      | inl new ↦ leaves_pair s e.op q t x.1 w (inl (sym (ap (λ (y : ℕ × Pair). y.1) (only_one (e.shard, q) x new))))
      | inr old ↦ leaves_pair s e.op q t x.1 w (inr (below_new x.1 q s (bound x old) w.rises))
    ])

run_alone : (d : List ℕ) (es : List Entry) (s : State) (x : DocState) → x ≡ s.document d → IsBound s.used x
    → ((i : ℕ) (e : Entry) → slice_get es i ≡ Some e → e.doc ≡ d) → ((t : DocState) × IsDocRun x es t) → (t : State) × IsRun s es t
run_alone d [] s x is bound all run = (s, refl)
run_alone d (e ∷ es) s x is bound all (t, (m, step, rest)) =
    let own : e.doc ≡ d = all zero e refl in
    let kind : IsKind x e.op e.reply e.hidden m = step_kind x e.op e.reply e.hidden m step in
    let before : x ≡ s.document e.doc = is ∙ ap s.document (sym own) in
    let made : Step s e (after s e m) = step_made s e m (subst (λ y. DocStep y e.op e.reply e.hidden m) before step) (unused_above s.used e x m bound kind) in
    let now : m ≡ (after s e m).document d = sym (after_own s e m) ∙ ap (after s e m).document own in
    let later : (t : State) × IsRun (after s e m) es t = run_alone d es (after s e m) m now (bound_after s.used e x m bound kind) (λ i f at. all (suc i) f at) (t, rest) in
    (later.0, (after s e m, made, later.1))

-- a run of one document alone is legal, whatever its shards are
pub legal_of_one : (d : List ℕ) (es : List Entry) → ((i : ℕ) (e : Entry) → slice_get es i ≡ Some e → e.doc ≡ d) → ((t : DocState) × IsDocRun Never es t) → IsLegalRun es
legal_of_one d es all run = run_alone d es start Never refl (λ q c. absurd (omega (arith, c.1))) all run

pub legal_alone : (d : List ℕ) (h : ℕ) (es : List Entry) → ((i : ℕ) (e : Entry) → slice_get es i ≡ Some e → (e.doc ≡ d) × (e.shard ≡ h)) → ((t : DocState) × IsDocRun Never es t) → IsLegalRun es
legal_alone d h es all run = legal_of_one d es (λ i e at. (all i e at).0) run
