-- An order that explains a history, restricted to a document, explains the document.
use Rattle.std.proofs.Common.{ℕ, zero, suc, ◌≡◌, ◌<◌, inl, inr, List, [], ◌∷◌, refl, sym, ap, subst, ◌∙◌, arith, Bool, true, false, cond, Option, Some, None, slice_get, true≢false}
use Rattle.std.specs.Prelude.{filter}
use Rattle.std.proofs.lemmas.Bool.{cases_lt}
use Rattle.std.specs.Cmp.Lexicographic.{bytes_decides}
use Rattle.version_pair.specs.declared.pair.Pair.{Pair}
use Rattle.doc_register.specs.declared.op.Op.{Op}
use Rattle.doc_register.specs.declared.op.Op.TheVariants.{Get}
use Rattle.doc_register.specs.declared.reply.Reply.{Reply as Answer}
use Rattle.doc_register.specs.declared.state.Conflicts.{Conflicts}
use Rattle.doc_register.specs.declared.state.DocState.{DocState}
use Rattle.doc_register.specs.declared.state.DocState.TheVariants.{Never}
use Rattle.doc_register.specs.Laws.{ChangesNothing}
use Rattle.doc_register.specs.Register.{DocStep}
use Rattle.doc_register.specs.Run.{Entry, IsDocRun, IsLegalRun, pair_taken, part_of}
use Rattle.doc_register.proofs.RunLemmas.{IsKind, legal_of_one, step_kind}
use Rattle.doc_register.proofs.RunLaws.{locality}
use Rattle.events.specs.declared.event.Event.{Event}
use Rattle.events.specs.Events.{IsCallAt, IsHistory, IsReplyAt, PassesAt, heard_of, is_call, is_same}
use Rattle.events.specs.Order.{Explains, IsOfCall, Placed, Respects, run_of}
use Rattle.events.proofs.HistoryLemmas.{call_passes}
use Rattle.version_pair.proofs.ListLemmas.{compare, mapped_from, none_is_not_some, same_some}
use Rattle.places.specs.Laws.{AllChange, ExplainsDocument}
use Rattle.compose.specs.Laws.{is_kept, part_of_order, restricted}
use Rattle.evidence.proofs.FilterLemmas.{kept_from, kept_order}
use Rattle.compose.proofs.Filtering.{place_kept}
use Rattle.evidence.proofs.HeardLemmas.{heard_is_reply, reply_is_heard}
use Rattle.events.proofs.EventLemmas.{same_call}

-- ---- places in the restricted order

-- whether the restricted order keeps the call of its document
abbrev pub keeps : List Event → Placed → Bool
keeps events p = is_kept (heard_of events p.no) (pair_taken p.entry.reply p.entry.hidden)

-- the call stands at the place of the order, is of the document and is kept
pub record StandsAt (events : List Event) (d : List ℕ) (order : List Placed) (k : ℕ) (p : Placed) : Type 0 where
  pub at : slice_get order k ≡ Some p
  pub own : p.entry.doc ≡ d
  pub kept : keeps events p ≡ true

-- what stands in the restricted order stands in the order
pub restricted_from : (events : List Event) (d : List ℕ) (order : List Placed) (i : ℕ) (p : Placed) → slice_get (restricted events d order) i ≡ Some p
    → (k : ℕ) × StandsAt events d order k p
restricted_from events d order i p at =
    let a = kept_from (keeps events) (part_of_order d order) i p at in
    let b = kept_from (λ (q : Placed). is_same q.entry.doc d) order a.0 p a.1.at in
    (b.0, record { at = b.1.at; own = (bytes_decides p.entry.doc d).0 b.1.passes; kept = a.1.passes })

-- and in the same order
restricted_in_order : (events : List Event) (d : List ℕ) (order : List Placed) (i j : ℕ) (p q : Placed) → i < j → slice_get (restricted events d order) i ≡ Some p
    → slice_get (restricted events d order) j ≡ Some q → (k l : ℕ) × (k < l) × (slice_get order k ≡ Some p) × (slice_get order l ≡ Some q)
restricted_in_order events d order i j p q below at bt =
    let a = kept_order (keeps events) (part_of_order d order) i j p q below at bt in
    let b = kept_order (λ (q : Placed). is_same q.entry.doc d) order a.0 a.1 p q a.2 a.3.at a.4.at in
    (b.0, b.1, b.2, b.3.at, b.4.at)

-- a call of the document that is kept has a place
in_restricted : (events : List Event) (d : List ℕ) (order : List Placed) (k : ℕ) (p : Placed) → StandsAt events d order k p
    → (i : ℕ) × (slice_get (restricted events d order) i ≡ Some p)
in_restricted events d order k p s =
    let a = place_kept (λ (q : Placed). is_same q.entry.doc d) order k p s.at ((bytes_decides p.entry.doc d).1 s.own) in
    place_kept (keeps events) (part_of_order d order) a.0 p a.1 s.kept

-- ---- runs

-- the entries of a document are those of its calls
part_run : (d : List ℕ) (order : List Placed) → part_of d (run_of order) ≡ run_of (part_of_order d order)
part_run d [] = refl
part_run d (p ∷ ps) = by_test (is_same p.entry.doc d) (part_run d ps) where
  by_test : (b : Bool) → part_of d (run_of ps) ≡ run_of (part_of_order d ps)
      → cond b (p.entry ∷ part_of d (run_of ps)) (part_of d (run_of ps)) ≡ run_of (cond b (p ∷ part_of_order d ps) (part_of_order d ps))
  by_test true later = ap (λ es. p.entry ∷ es) later
  by_test false later = later

-- a step that takes no pair leaves the document
still : (s : DocState) (e : Entry) (m : DocState) → pair_taken e.reply e.hidden ≡ None → IsKind s e.op e.reply e.hidden m → m ≡ s
still s e m none (inl same) = same.1
still s e m none (inr (q, is, w)) = absurd (none_is_not_some q (sym none ∙ is))

-- calls that take no pair can be left out of a run of one document
kept_run : (test : Placed → Bool) → ((p : Placed) → test p ≡ false → pair_taken p.entry.reply p.entry.hidden ≡ None) → (ps : List Placed) (s t : DocState)
    → IsDocRun s (run_of ps) t → IsDocRun s (run_of (filter test ps)) t
kept_run test none [] s t run = run
kept_run test none (p ∷ ps) s t run = by_test (test p) refl (kept_run test none ps run.0 t run.2) where
  by_test : (b : Bool) → test p ≡ b → IsDocRun run.0 (run_of (filter test ps)) t → IsDocRun s (run_of (cond b (p ∷ filter test ps) (filter test ps))) t
  by_test true is later = (run.0, run.1, later)
  by_test false is later =
      subst (λ x. IsDocRun x (run_of (filter test ps)) t)
      (still s p.entry run.0 (none p is) (step_kind s p.entry.op p.entry.reply p.entry.hidden run.0 run.1)) later

-- a call that is not kept takes no pair
dropped_none : (heard : Option (ℕ × Answer)) (taken : Option Pair) → is_kept heard taken ≡ false → taken ≡ None
dropped_none (Some x) taken is = absurd (true≢false is)
dropped_none None (Some q) is = absurd (true≢false is)
dropped_none None None is = refl

-- an unanswered call that is kept takes a pair
kept_takes : (heard : Option (ℕ × Answer)) (taken : Option Pair) → is_kept heard taken ≡ true → heard ≡ None → taken ≡ None → ⊥
kept_takes (Some x) taken is none nothing = none_is_not_some x (sym none)
kept_takes None (Some q) is none nothing = none_is_not_some q (sym nothing)
kept_takes None None is none nothing = true≢false (sym is)

-- the restricted order is a run of the document
restricted_run : (events : List Event) (d : List ℕ) (order : List Placed) → IsLegalRun (run_of order) → (t : DocState) × IsDocRun Never (run_of (restricted events d order)) t
restricted_run events d order legal =
    let run : (t : DocState) × IsDocRun Never (part_of d (run_of order)) t = ((locality (run_of order)).0 legal).0 d in (
      run.0,
      kept_run (keeps events) (λ p is. dropped_none (heard_of events p.no) (pair_taken p.entry.reply p.entry.hidden) is) (part_of_order d order) Never run.0
          (subst (λ es. IsDocRun Never es run.0) (part_run d order) run.1),
    )

-- the step of a call of a run
step_at : (qs : List Placed) (s t : DocState) → IsDocRun s (run_of qs) t → (i : ℕ) (q : Placed) → slice_get qs i ≡ Some q
    → (m n : DocState) × DocStep m q.entry.op q.entry.reply q.entry.hidden n
step_at [] s t run i q at = absurd (none_is_not_some q at)
step_at (u ∷ qs) s t run zero q at = (s, run.0, subst (λ (k : Placed). DocStep s k.entry.op k.entry.reply k.entry.hidden run.0) (same_some u q at) run.1)
step_at (u ∷ qs) s t run (suc i) q at = step_at qs run.0 t run.2 i q at

-- ---- the document is explained

-- no call stands twice in the restricted order
pub restricted_once : (conflicts : Conflicts) (events : List Event) (d : List ℕ) (order : List Placed) → Explains conflicts events order
    → (i j : ℕ) (p q : Placed) → slice_get (restricted events d order) i ≡ Some p → slice_get (restricted events d order) j ≡ Some q → p.no ≡ q.no → i ≡ j
restricted_once conflicts events d order explains i j p q at bt same = compare i j (apart i j p q at bt same) (apart j i q p bt at (sym same)) where
  apart : (i j : ℕ) (p q : Placed) → slice_get (restricted events d order) i ≡ Some p → slice_get (restricted events d order) j ≡ Some q → p.no ≡ q.no → i < j → ⊥
  apart i j p q at bt same below =
      let m = restricted_in_order events d order i j p q below at bt in
      let less : m.0 < m.1 = m.2 in
      let one : m.0 ≡ m.1 = explains.is_order.once m.0 m.1 p q m.3 m.4 same in
      omega arith

-- the restricted order respects the history
restricted_respects : (conflicts : Conflicts) (events : List Event) (d : List ℕ) (order : List Placed) → Explains conflicts events order → Respects events (restricted events d order)
restricted_respects conflicts events d order explains i j p q at bt first =
    elim (cases_lt i j) as (λ _. i < j) [
      | inl below ↦ below
      | inr other ↦ elim (cases_lt j i) as (λ _. i < j) [
        | inl above ↦ (let m = restricted_in_order events d order j i q p above bt at in
            let less : m.0 < m.1 = m.2 in
            let more : m.1 < m.0 = explains.respects m.1 m.0 p q m.4 m.3 first in
            omega arith)
        | inr under ↦ (let here : i ≡ j = omega arith in
            let a = restricted_from events d order i p at in
            let b = restricted_from events d order j q bt in
            let same : p ≡ q = same_some p q (sym at ∙ (ap (slice_get (restricted events d order)) here ∙ bt)) in
            let place : a.0 ≡ b.0 = explains.is_order.once a.0 b.0 p q a.1.at b.1.at (ap (λ (x : Placed). x.no) same) in
            let less : a.0 < b.0 = explains.respects a.0 b.0 p q a.1.at b.1.at first in
            omega arith)
      ]
    ]

-- an answered call of the document stands in the restricted order, with its reply
restricted_answered : (conflicts : Conflicts) (events : List Event) (d : List ℕ) (order : List Placed) → IsHistory events → Explains conflicts events order
    → (k j n h : ℕ) (op : Op) (r : Answer) → IsReplyAt events k n r → IsCallAt events j n h d op
    → (i : ℕ) × (p : Placed) × (slice_get (restricted events d order) i ≡ Some p) × (p.no ≡ n) × (p.entry.reply ≡ r)
restricted_answered conflicts events d order history explains k j n h op r reply call =
    let x = explains.is_order.answered k n r reply in
    let of : IsOfCall events x.1 = explains.is_order.calls x.0 x.1 x.2 in
    let place : of.0 ≡ j = history.called_once n of.0 j
    (subst (λ m. PassesAt (is_call m) events of.0) x.3 (call_passes events of.0 x.1.no x.1.entry.shard x.1.entry.doc x.1.entry.op of.1))
    (call_passes events j n h d op call) in
    let same = same_call events j x.1.no n x.1.entry.shard h x.1.entry.doc d x.1.entry.op op
    (subst (λ c. IsCallAt events c x.1.no x.1.entry.shard x.1.entry.doc x.1.entry.op) place of.1) call in
    let heard : heard_of events x.1.no ≡ Some (k, r) = ap (heard_of events) x.3 ∙ reply_is_heard events history k n r reply in
    let kept : keeps events x.1 ≡ true = ap (λ o. is_kept o (pair_taken x.1.entry.reply x.1.entry.hidden)) heard in
    let i = in_restricted events d order x.0 x.1 (record { at = x.2; own = same.1; kept = kept }) in
    (i.0, x.1, i.1, x.3, x.4)

-- the restricted order explains the document
pub restricted_explains : (conflicts : Conflicts) (events : List Event) (d : List ℕ) (order : List Placed) → IsHistory events → Explains conflicts events order
    → ExplainsDocument conflicts events d (restricted events d order)
restricted_explains conflicts events d order history explains = record {
  calls = λ i p at. let s = restricted_from events d order i p at in (explains.is_order.calls s.0 p s.1.at, s.1.own);
  once = restricted_once conflicts events d order explains;
  answered = restricted_answered conflicts events d order history explains;
  plain = λ conflicts_is i p at. let s = restricted_from events d order i p at in explains.is_order.plain conflicts_is s.0 p s.1.at;
  respects = restricted_respects conflicts events d order explains;
  legal = legal_of_one d (run_of (restricted events d order))
      (λ i e at. let p = mapped_from (λ (p : Placed). p.entry) (restricted events d order) i e at in
      ap (λ (x : Entry). x.doc) (sym p.2) ∙ (restricted_from events d order i p.0 p.1).1.own)
      (restricted_run events d order explains.legal);
}

-- ---- unanswered calls

-- a step of what changes nothing takes no pair
nothing_taken : (e : Entry) (m n : DocState) → ChangesNothing e → DocStep m e.op e.reply e.hidden n → pair_taken e.reply e.hidden ≡ None
nothing_taken e m n (inl get) step = by_kind (step_kind m Get e.reply e.hidden n (subst (λ o. DocStep m o e.reply e.hidden n) get step)) where
  by_kind : IsKind m Get e.reply e.hidden n → pair_taken e.reply e.hidden ≡ None
  by_kind (inl none) = none.0
  by_kind (inr (q, is, w)) = absurd w.allowed
nothing_taken e m n (inr conflict) step = ap (λ r. pair_taken r e.hidden) conflict.0 ∙ conflict.1

-- each unanswered call of the restricted order changes something
pub restricted_change : (conflicts : Conflicts) (events : List Event) (d : List ℕ) (order : List Placed) → IsHistory events → Explains conflicts events order → AllChange events (restricted events d order)
restricted_change conflicts events d order history explains i p at pending nothing =
    let s = restricted_from events d order i p at in
    let of : IsOfCall events p = explains.is_order.calls s.0 p s.1.at in
    let run = restricted_run events d order explains.legal in
    let step = step_at (restricted events d order) Never run.0 run.1 i p at in
    by_heard of (nothing_taken p.entry step.0 step.1 nothing step.2) s.1.kept (heard_of events p.no) refl where
      by_heard : IsOfCall events p → pair_taken p.entry.reply p.entry.hidden ≡ None → keeps events p ≡ true → (o : Option (ℕ × Answer)) → heard_of events p.no ≡ o → ⊥
      by_heard of none kept None is = kept_takes (heard_of events p.no) (pair_taken p.entry.reply p.entry.hidden) kept is none
      by_heard of none kept (Some x) is =
          pending.unanswered x.0 x.1 (heard_is_reply events history of.0 p.no p.entry.shard p.entry.doc p.entry.op of.1 x.0 x.1 is)
