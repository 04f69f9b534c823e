-- What the state before a step of a run says of the steps before it.
use Rattle.std.proofs.Common.{ℕ, zero, suc, ◌≡◌, ◌<◌, ◌⊎◌, inl, inr, List, [], ◌∷◌, refl, sym, ap, subst, ◌∙◌, arith, Bool, true, false, Option, Some, None, slice_get, true≢false}
use Rattle.std.specs.Cmp.Lexicographic.{bytes_decides}
use Rattle.version_pair.specs.declared.pair.Pair.{Pair}
use Rattle.doc_register.specs.declared.op.Op.{Op}
use Rattle.doc_register.specs.declared.op.Op.TheVariants.{Get, Index, Delete, Create}
use Rattle.doc_register.specs.declared.reply.Reply.{Reply as Answer}
use Rattle.doc_register.specs.declared.reply.Reply.TheVariants.{Indexed, Deleted, Found, Missing, Conflict}
use Rattle.doc_register.specs.declared.state.DocState.{DocState}
use Rattle.doc_register.specs.declared.state.DocState.TheVariants.{Gone, Here}
use Rattle.doc_register.specs.Register.{DocStep, WriteStep, value_of}
use Rattle.doc_register.specs.Run.{Entry, IsRun, State, Step, pair_taken}
use Rattle.doc_register.proofs.RunLemmas.{AtMost, IsKind, leaves_pair, step_kind}
use Rattle.doc_register.proofs.RunLaws.{pair_performs}
use Rattle.events.specs.Events.{is_same}
use Rattle.deciding.proofs.DocumentSteps.{step_keeps}
use Rattle.version_pair.proofs.ListLemmas.{none_is_not_some, same_some}

-- the step of the document before which it has the pair or one above it
pub record StepsAbove (q : Pair) (e : Entry) : Type 0 where
  pub before : DocState
  pub after : DocState
  pub most : AtMost q before
  pub step : DocStep before e.op e.reply e.hidden after

-- ---- pairs

-- after a step that takes a pair the document has it
taken_most : (s : DocState) (e : Entry) (t : DocState) (q : Pair) → pair_taken e.reply e.hidden ≡ Some q → DocStep s e.op e.reply e.hidden t → AtMost q t
taken_most s e t q is step = leaves_pair s e.op q t q (pair_performs s e t q is (step_kind s e.op e.reply e.hidden t step)) (inl refl)

-- other documents stay in a step
other_stays : (s : State) (e : Entry) (m : State) (d : List ℕ) → Step s e m → is_same e.doc d ≡ false → m.document d ≡ s.document d
other_stays s e m d step is = step.others d (λ same. true≢false (sym ((bytes_decides e.doc d).1 (sym same)) ∙ is))

-- the step of a document in a run that begins with the pair or one above it
above_at : (es : List Entry) (s t : State) (q : Pair) → IsRun s es t → (j : ℕ) (f : Entry) → slice_get es j ≡ Some f → AtMost q (s.document f.doc) → StepsAbove q f
above_at [] s t q run j f at most = absurd (none_is_not_some f at)
above_at (e ∷ es) s t q (m, step, rest) zero f at most =
    let same : e ≡ f = same_some e f at in
    subst (StepsAbove q) same
    (record { before = s.document e.doc; after = m.document e.doc; most = subst (λ (x : Entry). AtMost q (s.document x.doc)) (sym same) most; step = step.own })
above_at (e ∷ es) s t q (m, step, rest) (suc j) f at most = above_at es m t q rest j f at (step_keeps f.doc q s e m step most)

-- a call of a document that stands after another which takes a pair meets this pair or one above it
pub above_taken : (es : List Entry) (s t : State) → IsRun s es t → (i j : ℕ) (e f : Entry) (q : Pair) → i < j → slice_get es i ≡ Some e → slice_get es j ≡ Some f
    → e.doc ≡ f.doc → pair_taken e.reply e.hidden ≡ Some q → StepsAbove q f
above_taken [] s t run i j e f q below at bt same is = absurd (none_is_not_some e at)
above_taken (x ∷ es) s t run i zero e f q below at bt same is = absurd (omega arith)
above_taken (x ∷ es) s t (m, step, rest) zero (suc j) e f q below at bt same is =
    let own : x ≡ e = same_some x e at in
    above_at es m t q rest j f bt
    (subst (λ d. AtMost q (m.document d)) (ap (λ (y : Entry). y.doc) own ∙ same)
    (taken_most (s.document x.doc) x (m.document x.doc) q (ap (λ (y : Entry). pair_taken y.reply y.hidden) own ∙ is) step.own))
above_taken (x ∷ es) s t (m, step, rest) (suc i) (suc j) e f q below at bt same is = above_taken es m t rest i j e f q (omega arith) at bt same is

-- ---- numbers

-- what gives the document the number with the pair: a reply that shows the pair, or a conflict that hides it
pub record GivesNumber (p : Pair) (k : ℕ) (e : Entry) : Type 0 where
  pub number : value_of e.op ≡ Some k
  pub takes : ((created : Bool) × (e.reply ≡ Indexed p created)) ⊎ ((e.reply ≡ Conflict) × (e.hidden ≡ Some p))

-- a write that gives a number takes its pair so
takes_so : (s : DocState) (op : Op) (r : Answer) (h : Option Pair) (t : DocState) (p : Pair) (k : ℕ) → value_of op ≡ Some k → WriteStep s op r h t → pair_taken r h ≡ Some p
    → ((created : Bool) × (r ≡ Indexed p created)) ⊎ ((r ≡ Conflict) × (h ≡ Some p))
takes_so s op (Indexed q created) h t p k gives step is = inl (created, ap (λ x. Indexed x created) (same_some q p is))
takes_so s Get (Deleted q found) h t p k gives step is = absurd (none_is_not_some k gives)
takes_so s (Index n c) (Deleted q found) None t p k gives step is = let impossible = step.1 in absurd (cc)
takes_so s (Index n c) (Deleted q found) (Some x) t p k gives step is = absurd step
takes_so s (Delete c) (Deleted q found) h t p k gives step is = absurd (none_is_not_some k gives)
takes_so s (Create n) (Deleted q found) None t p k gives step is = let impossible = step.1 in absurd (cc)
takes_so s (Create n) (Deleted q found) (Some x) t p k gives step is = absurd step
takes_so s op (Found q n) h t p k gives step is = absurd step
takes_so s op Missing h t p k gives step is = absurd step
takes_so s op Conflict h t p k gives step is = inr (refl, is)

-- a document that is there has the pair and the number of one state
same_here : (p q : Pair) (k n : ℕ) → Here p k ≡ Here q n → (p ≡ q) × (k ≡ n)
same_here p q k n same = (cc, cc)

-- a write after which the document is there with a pair and a number gave it both, or found it so
write_gives : (s : DocState) (op : Op) (r : Answer) (h : Option Pair) (t : DocState) (p : Pair) (k : ℕ) → WriteStep s op r h t → IsKind s op r h t → t ≡ Here p k
    → (s ≡ Here p k) ⊎ ((value_of op ≡ Some k) × (((created : Bool) × (r ≡ Indexed p created)) ⊎ ((r ≡ Conflict) × (h ≡ Some p))))
write_gives s op r h t p k step (inl none) here = inl (sym none.1 ∙ here)
write_gives s Get r h t p k step (inr (q, is, w)) here = absurd w.allowed
write_gives s (Index n c) r h t p k step (inr (q, is, w)) here =
    let same = same_here q p n k (sym w.leaves ∙ here) in
    inr (ap (λ x. Some x) same.1, takes_so s (Index n c) r h t p n refl step (is ∙ ap (λ x. Some x) same.0))
write_gives s (Delete c) r h t p k step (inr (q, is, w)) here = let impossible : Gone q ≡ Here p k = sym w.leaves ∙ here in absurd (cc)
write_gives s (Create n) r h t p k step (inr (q, is, w)) here =
    let same = same_here q p n k (sym w.leaves ∙ here) in
    inr (ap (λ x. Some x) same.1, takes_so s (Create n) r h t p n refl step (is ∙ ap (λ x. Some x) same.0))

-- the same of any call
step_gives : (s : DocState) (op : Op) (r : Answer) (h : Option Pair) (t : DocState) (p : Pair) (k : ℕ) → DocStep s op r h t → t ≡ Here p k
    → (s ≡ Here p k) ⊎ ((value_of op ≡ Some k) × (((created : Bool) × (r ≡ Indexed p created)) ⊎ ((r ≡ Conflict) × (h ≡ Some p))))
step_gives s Get r h t p k step here = inl (sym step.2 ∙ here)
step_gives s (Index n c) r h t p k step here = write_gives s (Index n c) r h t p k step (step_kind s (Index n c) r h t step) here
step_gives s (Delete c) r h t p k step here = write_gives s (Delete c) r h t p k step (step_kind s (Delete c) r h t step) here
step_gives s (Create n) r h t p k step here = write_gives s (Create n) r h t p k step (step_kind s (Create n) r h t step) here

-- before the place a call of the document gave it the number with the pair
pub record IsGivenBefore (es : List Entry) (j : ℕ) (d : List ℕ) (p : Pair) (k : ℕ) : Type 0 where
  pub place : ℕ
  pub entry : Entry
  pub before : place < j
  pub at : slice_get es place ≡ Some entry
  pub doc : entry.doc ≡ d
  pub gives : GivesNumber p k entry

-- the step of a document, and how it came to be there before it
pub record StepsFrom (start : DocState) (es : List Entry) (j : ℕ) (f : Entry) : Type 0 where
  pub before : DocState
  pub after : DocState
  pub step : DocStep before f.op f.reply f.hidden after
  pub came : (p : Pair) (k : ℕ) → before ≡ Here p k → (start ≡ Here p k) ⊎ IsGivenBefore es j f.doc p k

-- a document that is there after a step was there before it, or it is given its number in it
came_in_step : (s : State) (e : Entry) (m : State) (d : List ℕ) (p : Pair) (k : ℕ) → Step s e m → m.document d ≡ Here p k
    → (s.document d ≡ Here p k) ⊎ ((e.doc ≡ d) × GivesNumber p k e)
came_in_step s e m d p k step here = by_test (is_same e.doc d) refl where
  own : e.doc ≡ d → (s.document e.doc ≡ Here p k) ⊎ ((value_of e.op ≡ Some k) × (((created : Bool) × (e.reply ≡ Indexed p created)) ⊎ ((e.reply ≡ Conflict) × (e.hidden ≡ Some p))))
      → (s.document d ≡ Here p k) ⊎ ((e.doc ≡ d) × GivesNumber p k e)
  own same (inl was) = inl (subst (λ x. s.document x ≡ Here p k) same was)
  own same (inr given) = inr (same, record { number = given.0; takes = given.1 })

  by_test : (b : Bool) → is_same e.doc d ≡ b → (s.document d ≡ Here p k) ⊎ ((e.doc ≡ d) × GivesNumber p k e)
  by_test true is =
      let same : e.doc ≡ d = (bytes_decides e.doc d).0 is in
      own same (step_gives (s.document e.doc) e.op e.reply e.hidden (m.document e.doc) p k step.own (subst (λ x. m.document x ≡ Here p k) (sym same) here))
  by_test false is = inl (sym (other_stays s e m d step is) ∙ here)

-- each step of a run is so
pub steps_from : (es : List Entry) (s t : State) → IsRun s es t → (j : ℕ) (f : Entry) → slice_get es j ≡ Some f → StepsFrom (s.document f.doc) es j f
steps_from [] s t run j f at = absurd (none_is_not_some f at)
steps_from (e ∷ es) s t (m, step, rest) zero f at =
    let same : e ≡ f = same_some e f at in
    subst (λ (x : Entry). StepsFrom (s.document x.doc) (e ∷ es) zero x) same
    (record { before = s.document e.doc; after = m.document e.doc; step = step.own; came = λ p k here. inl here })
steps_from (e ∷ es) s t (m, step, rest) (suc j) f at =
    let later = steps_from es m t rest j f at in
    record {
      before = later.before;
      after = later.after;
      step = later.step;
      came = λ p k here. elim (later.came p k here) as (λ _. (s.document f.doc ≡ Here p k) ⊎ IsGivenBefore (e ∷ es) (suc j) f.doc p k) [
        | inl was ↦ elim (came_in_step s e m f.doc p k step was) as (λ _. (s.document f.doc ≡ Here p k) ⊎ IsGivenBefore (e ∷ es) (suc j) f.doc p k) [
          | inl before ↦ inl before
          | inr given ↦ inr (record { place = zero; entry = e; before = omega arith; at = refl; doc = given.0; gives = given.1 })
        ]
        | inr given ↦ inr (record { place = suc given.place; entry = given.entry; before = (let less : given.place < j = given.before in omega arith); at = given.at; doc = given.doc; gives = given.gives })
      ];
    }
