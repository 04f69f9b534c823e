-- The laws of steps and runs, proved.
use Rattle.std.proofs.Common.{◌≡◌, ◌≢◌, ◌==◌, ◌++◌, ◌<◌, ℕ, zero, suc, List, [], ◌∷◌, Bool, true, false, cond, Contains, Option, Some, None, IfSome, option_to_list, sym, ap, subst, ◌∙◌, refl, inl, inr, arith, true≢false}
use Rattle.std.specs.Cmp.Lexicographic.{pointwise, bytes_decides}
use Rattle.std.proofs.lemmas.List.Elements.{Contains-append_cases, Contains-append_right}
use Rattle.version_pair.specs.declared.pair.Pair.{Pair}
use Rattle.version_pair.specs.PairOrder.{IsBelow}
use Rattle.version_pair.proofs.ListLemmas.{none_is_not_some, same_some}
use Rattle.doc_register.specs.declared.op.Op.{Op}
use Rattle.doc_register.specs.declared.op.Op.TheVariants.{Get, Index, Delete, Create}
use Rattle.doc_register.specs.declared.reply.Reply.{Reply}
use Rattle.doc_register.specs.declared.reply.Reply.TheVariants.{Indexed, Deleted, Found, Missing, Conflict}
use Rattle.doc_register.specs.declared.state.DocState.{DocState}
use Rattle.doc_register.specs.Register.{DocStep, Performs, WriteStep}
use Rattle.doc_register.specs.Run.{Entry, IsDocRun, IsLegalRun, IsRun, PairsDistinct, State, Step, pair_taken, part_of, start, taken, taken_at}
use Rattle.doc_register.specs.Laws.{ChangesNothing, IsPairAt, LeavingOut, Locality, NoPairTwice, OneDocument, PairsRise, RunIsDecided, StepIsDecided}
use Rattle.doc_register.proofs.RunLemmas.{AtMost, IsKind, after, below_new, leaves_pair, legal_alone, same_id, step_kind, step_made, taken_of}

-- ---- a step of one document is decided

write_decided : (s : DocState) (op : Op) (r : Reply) (h : Option Pair) (t u : DocState) → WriteStep s op r h t → WriteStep s op r h u → t ≡ u
write_decided s op (Indexed q created) None t u a b = a.0.leaves ∙ sym b.0.leaves
write_decided s op (Indexed q created) (Some p) t u a b = absurd a
write_decided s op (Deleted q found) None t u a b = a.0.leaves ∙ sym b.0.leaves
write_decided s op (Deleted q found) (Some p) t u a b = absurd a
write_decided s op (Found p k) h t u a b = absurd a
write_decided s op Missing h t u a b = absurd a
write_decided s op Conflict None t u a b = a.1 ∙ sym b.1
write_decided s op Conflict (Some q) t u a b = a.leaves ∙ sym b.leaves

pub step_decided : StepIsDecided
step_decided s Get r h t u a b = a.2 ∙ sym b.2
step_decided s (Index k c) r h t u a b = write_decided s (Index k c) r h t u a b
step_decided s (Delete c) r h t u a b = write_decided s (Delete c) r h t u a b
step_decided s (Create k) r h t u a b = write_decided s (Create k) r h t u a b

-- ---- the pairs of one document rise

-- the pair of a step, where it takes one
pub pair_performs : (s : DocState) (e : Entry) (t : DocState) (q : Pair) → pair_taken e.reply e.hidden ≡ Some q → IsKind s e.op e.reply e.hidden t → Performs s e.op q t
pair_performs s e t q is (inl none) = absurd (none_is_not_some q (sym none.0 ∙ is))
pair_performs s e t q is (inr (p, at, w)) = subst (λ x. Performs s e.op x t) (same_some p q (sym at ∙ is)) w

-- a document's pair does not fall in a step of its own
pub still_most : (s : DocState) (e : Entry) (t : DocState) (p : Pair) → AtMost p s → IsKind s e.op e.reply e.hidden t → AtMost p t
still_most s e t p a (inl none) = subst (AtMost p) (sym none.1) a
still_most s e t p a (inr (q, at, w)) = leaves_pair s e.op q t p w (inr (below_new p q s a w.rises))

above : (es : List Entry) (s t : DocState) (p : Pair) → AtMost p s → IsDocRun s es t → (i : ℕ) (q : Pair) → IsPairAt es i q → IsBelow p q
above [] s t p a run i q (e, at, is) = absurd (none_is_not_some e at)
above (x ∷ es) s t p a (m, step, rest) zero q (e, at, is) =
    let same : x ≡ e = same_some x e at in
    let own : pair_taken x.reply x.hidden ≡ Some q = ap (λ (y : Entry). pair_taken y.reply y.hidden) same ∙ is in
    below_new p q s a (pair_performs s x m q own (step_kind s x.op x.reply x.hidden m step)).rises
above (x ∷ es) s t p a (m, step, rest) (suc i) q at = above es m t p (still_most s x m p a (step_kind s x.op x.reply x.hidden m step)) rest i q at

rise : (es : List Entry) (s t : DocState) → IsDocRun s es t → (i j : ℕ) (p q : Pair) → i < j → IsPairAt es i p → IsPairAt es j q → IsBelow p q
rise [] s t run i j p q l (e, at, is) b = absurd (none_is_not_some e at)
rise (x ∷ es) s t (m, step, rest) zero zero p q l a b = absurd (omega (arith, l))
rise (x ∷ es) s t (m, step, rest) zero (suc j) p q l (e, at, is) b =
    let same : x ≡ e = same_some x e at in
    let own : pair_taken x.reply x.hidden ≡ Some p = ap (λ (y : Entry). pair_taken y.reply y.hidden) same ∙ is in
    let w : Performs s x.op p m = pair_performs s x m p own (step_kind s x.op x.reply x.hidden m step) in
    above es m t p (leaves_pair s x.op p m p w (inl refl)) rest j q b
rise (x ∷ es) s t (m, step, rest) (suc i) zero p q l a b = absurd (omega (arith, l))
rise (x ∷ es) s t (m, step, rest) (suc i) (suc j) p q l a b = rise es m t rest i j p q (omega (arith, l)) a b

pub pairs_rise : PairsRise
pairs_rise s t es run i j p q l a b = rise es s t run i j p q l a b

-- ---- a run determines what each document is

not_own : (d x : List ℕ) → pointwise ◌==◌ d x ≡ false → x ≢ d
not_own d x is e = true≢false (sym ((bytes_decides d x).1 (sym e)) ∙ is)

same_after : (s v : State) (e : Entry) (m n : State) → ((d : List ℕ) → s.document d ≡ v.document d) → Step s e m → Step v e n → (d : List ℕ) → m.document d ≡ n.document d
same_after s v e m n same a b d = by_test (pointwise ◌==◌ e.doc d) refl where
  by_test : (c : Bool) → pointwise ◌==◌ e.doc d ≡ c → m.document d ≡ n.document d
  by_test true is =
      let second : DocStep (s.document e.doc) e.op e.reply e.hidden (n.document e.doc) = subst (λ x. DocStep x e.op e.reply e.hidden (n.document e.doc)) (sym (same e.doc)) b.own in
      let own : m.document e.doc ≡ n.document e.doc = step_decided (s.document e.doc) e.op e.reply e.hidden (m.document e.doc) (n.document e.doc) a.own second in
      subst (λ x. m.document x ≡ n.document x) ((bytes_decides e.doc d).0 is) own
  by_test false is = a.others d (not_own e.doc d is) ∙ (same d ∙ sym (b.others d (not_own e.doc d is)))

runs_same : (es : List Entry) (s v t u : State) → ((d : List ℕ) → s.document d ≡ v.document d) → s.used ≡ v.used → IsRun s es t → IsRun v es u
    → ((d : List ℕ) → t.document d ≡ u.document d) × (t.used ≡ u.used)
runs_same [] s v t u same used a b =
    (λ d. ap (λ (x : State). x.document d) a ∙ (same d ∙ sym (ap (λ (x : State). x.document d) b)), ap (λ (x : State). x.used) a ∙ (used ∙ sym (ap (λ (x : State). x.used) b)))
runs_same (e ∷ es) s v t u same used (m, first, rest) (n, second, later) =
    runs_same es m n t u (same_after s v e m n same first second)
    (first.used ∙ (ap (λ x. option_to_list (taken e) ++ x) used ∙ sym second.used)) rest later

pub run_decided : RunIsDecided
run_decided es t u a b = runs_same es start start t u (λ d. refl) refl a b

-- ---- no pair comes twice

not_used : (es : List Entry) (s t : State) → IsRun s es t → (i : ℕ) (q : ℕ × Pair) → taken_at es i ≡ Some q → Contains s.used q → ⊥
not_used [] s t run i q at c = none_is_not_some q at
not_used (e ∷ es) s t (m, first, rest) zero q at c =
    let fresh : ¬ Contains s.used q = subst (λ o. IfSome o (λ x. ¬ Contains s.used x)) at first.unused in fresh c
not_used (e ∷ es) s t (m, first, rest) (suc i) q at c =
    not_used es m t rest i q at (subst (λ x. Contains x q) (sym first.used) (Contains-append_right (option_to_list (taken e)) s.used q c))

now_used : (s : State) (e : Entry) (m : State) (q : ℕ × Pair) → Step s e m → taken e ≡ Some q → Contains m.used q
now_used s e m q step at =
    let is : m.used ≡ q ∷ s.used = step.used ∙ ap (λ o. option_to_list o ++ s.used) at in
    subst (λ x. Contains x q) (sym is) (0, omega arith, refl)

distinct : (es : List Entry) (s t : State) → IsRun s es t → PairsDistinct es
distinct [] s t run i j q a b = absurd (none_is_not_some q a)
distinct (e ∷ es) s t (m, first, rest) zero zero q a b = refl
distinct (e ∷ es) s t (m, first, rest) zero (suc j) q a b = absurd (not_used es m t rest j q b (now_used s e m q first a))
distinct (e ∷ es) s t (m, first, rest) (suc i) zero q a b = absurd (not_used es m t rest i q a (now_used s e m q first b))
distinct (e ∷ es) s t (m, first, rest) (suc i) (suc j) q a b = ap suc (distinct es m t rest i j q a b)

pub no_pair_twice : NoPairTwice
no_pair_twice es (t, run) = distinct es start t run

-- ---- what changes nothing can be left out

same_state : (s m : State) → ((d : List ℕ) → m.document d ≡ s.document d) → m.used ≡ s.used → m ≡ s
same_state s m same used = λ i. record { document = λ d. same d i; used = used i }

own_still : (s : DocState) (e : Entry) (t : DocState) → taken e ≡ None → IsKind s e.op e.reply e.hidden t → t ≡ s
own_still s e t none (inl same) = same.1
own_still s e t none (inr (q, at, w)) = absurd (none_is_not_some (e.shard, q) (sym none ∙ taken_of e (Some q) at))

-- an entry that takes no pair leaves the state
pub step_still : (s : State) (e : Entry) (m : State) → taken e ≡ None → Step s e m → m ≡ s
step_still s e m none step = same_state s m (λ d. by_test d (pointwise ◌==◌ e.doc d) refl) (step.used ∙ ap (λ o. option_to_list o ++ s.used) none) where
  by_test : (d : List ℕ) (c : Bool) → pointwise ◌==◌ e.doc d ≡ c → m.document d ≡ s.document d
  by_test d true is =
      let kind : IsKind (s.document e.doc) e.op e.reply e.hidden (m.document e.doc) = step_kind (s.document e.doc) e.op e.reply e.hidden (m.document e.doc) step.own in
      subst (λ x. m.document x ≡ s.document x) ((bytes_decides e.doc d).0 is) (own_still (s.document e.doc) e (m.document e.doc) none kind)
  by_test d false is = step.others d (not_own e.doc d is)

get_takes_none : (s : DocState) (r : Reply) (h : Option Pair) (t : DocState) → IsKind s Get r h t → pair_taken r h ≡ None
get_takes_none s r h t (inl none) = none.0
get_takes_none s r h t (inr (q, at, w)) = absurd w.allowed

takes_none : (s : State) (e : Entry) (m : State) → ChangesNothing e → Step s e m → taken e ≡ None
takes_none s e m (inl get) step =
    let x : DocState = s.document e.doc in
    let y : DocState = m.document e.doc in
    taken_of e None (get_takes_none x e.reply e.hidden y (subst (λ o. IsKind x o e.reply e.hidden y) get (step_kind x e.op e.reply e.hidden y step.own)))
takes_none s e m (inr conflict) step = taken_of e None (ap (λ r. pair_taken r e.hidden) conflict.0 ∙ conflict.1)

run_without : (es fs : List Entry) (e : Entry) (s t : State) → ((x m : State) → Step x e m → taken e ≡ None) → IsRun s (es ++ e ∷ fs) t → IsRun s (es ++ fs) t
run_without [] fs e s t none (m, step, rest) = subst (λ x. IsRun x fs t) (step_still s e m (none s m step) step) rest
run_without (x ∷ es) fs e s t none (m, step, rest) = (m, step, run_without es fs e m t none rest)

pub leaving_out : LeavingOut
leaving_out es fs e nothing (t, run) = (t, run_without es fs e start t (λ x m step. takes_none x e m nothing step) run)

-- the same of an entry that takes no pair
pub legal_without : (es fs : List Entry) (e : Entry) → taken e ≡ None → IsLegalRun (es ++ e ∷ fs) → IsLegalRun (es ++ fs)
legal_without es fs e none (t, run) = (t, run_without es fs e start t (λ x m step. none) run)

-- ---- locality

part_run : (es : List Entry) (s t : State) → IsRun s es t → (d : List ℕ) → IsDocRun (s.document d) (part_of d es) (t.document d)
part_run [] s t run d = ap (λ (x : State). x.document d) run
part_run (e ∷ es) s t (m, step, rest) d = by_test (pointwise ◌==◌ e.doc d) refl (part_run es m t rest d) where
  by_test : (c : Bool) → pointwise ◌==◌ e.doc d ≡ c → IsDocRun (m.document d) (part_of d es) (t.document d) → IsDocRun (s.document d) (cond c (e ∷ part_of d es) (part_of d es)) (t.document d)
  by_test true is later = (m.document d, subst (λ x. DocStep (s.document x) e.op e.reply e.hidden (m.document x)) ((bytes_decides e.doc d).0 is) step.own, later)
  by_test false is later = subst (λ x. IsDocRun x (part_of d es) (t.document d)) (step.others d (not_own e.doc d is)) later

each_some : {X : Type 0} (P : X → Type 0) (o : Option X) → ((x : X) → o ≡ Some x → P x) → IfSome o P
each_some P None f = tt
each_some P (Some x) f = f x refl

listed : {X : Type 0} (o : Option X) (x : X) → Contains (option_to_list o) x → o ≡ Some x
listed None x (k, l, e) = absurd (omega (arith, l))
listed (Some y) x (zero, l, e) = ap (λ z. Some z) e
listed (Some y) x (suc k, l, e) = absurd (omega (arith, l))

-- the parts after a step
parts_after : (s : State) (e : Entry) (es : List Entry) (m : DocState) → DocStep (s.document e.doc) e.op e.reply e.hidden m
    → (d : List ℕ) (c : Bool) → pointwise ◌==◌ e.doc d ≡ c → ((t : DocState) × IsDocRun (s.document d) (cond c (e ∷ part_of d es) (part_of d es)) t)
    → (t : DocState) × IsDocRun (cond c m (s.document d)) (part_of d es) t
parts_after s e es m step d true is (t, (k, first, rest)) =
    let own : DocStep (s.document d) e.op e.reply e.hidden m = subst (λ x. DocStep (s.document x) e.op e.reply e.hidden m) ((bytes_decides e.doc d).0 is) step in
    (t, subst (λ x. IsDocRun x (part_of d es) t) (step_decided (s.document d) e.op e.reply e.hidden k m first own) rest)
parts_after s e es m step d false is run = run

join : (es : List Entry) (s : State) → ((d : List ℕ) → (t : DocState) × IsDocRun (s.document d) (part_of d es) t) → PairsDistinct es
    → ((i : ℕ) (q : ℕ × Pair) → taken_at es i ≡ Some q → ¬ Contains s.used q) → (t : State) × IsRun s es t
join [] s parts once fresh = (s, refl)
join (e ∷ es) s parts once fresh =
    let part = parts e.doc in
    let own : (m : DocState) × DocStep (s.document e.doc) e.op e.reply e.hidden m × IsDocRun m (part_of e.doc es) part.0 =
    subst (λ c. IsDocRun (s.document e.doc) (cond c (e ∷ part_of e.doc es) (part_of e.doc es)) part.0) (same_id e.doc) part.1 in
    let later : (t : State) × IsRun (after s e own.0) es t = join es (after s e own.0)
    (λ d. parts_after s e es own.0 own.1 d (pointwise ◌==◌ e.doc d) refl (parts d))
    (λ i j q a b. let same : suc i ≡ suc j = once (suc i) (suc j) q a b in omega arith)
    (λ i q a c. elim (Contains-append_cases (option_to_list (taken e)) s.used q c) as (λ _. ⊥) [
      | inl new ↦ (let same : zero ≡ suc i = once zero (suc i) q (listed (taken e) q new) a in omega arith)
      | inr old ↦ fresh (suc i) q a old
    ]) in
    (later.0, (after s e own.0, step_made s e own.0 own.1 (each_some (λ q. ¬ Contains s.used q) (taken e) (λ q a. fresh zero q a)), later.1))

pub locality : Locality
locality es = (
  λ (t, run). (λ d. (t.document d, part_run es start t run d), distinct es start t run),
  λ (parts, once). join es start parts once (λ i q a c. omega (arith, c.1)),
)

pub one_document : OneDocument
one_document = legal_alone
