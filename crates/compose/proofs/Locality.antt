-- Covers are orders of the whole history: the calls of all entries, by their points.
use Rattle.std.proofs.Common.{ℕ, ◌≡◌, ◌<◌, ◌≤◌, inl, inr, List, sym, ap, subst, ◌∙◌, arith, Some, None, slice_get}
use Rattle.std.proofs.lemmas.Bool.{cases_lt}
use Rattle.std.proofs.lemmas.List.{length-map}
use Rattle.doc_register.specs.declared.reply.Reply.{Reply as Answer}
use Rattle.doc_register.specs.declared.state.Conflicts.{Conflicts}
use Rattle.doc_register.specs.declared.state.Conflicts.TheVariants.{Plain}
use Rattle.doc_register.proofs.RunLaws.{locality}
use Rattle.events.specs.declared.event.Event.{Event}
use Rattle.events.specs.declared.event.Event.TheVariants.{Call}
use Rattle.events.specs.Events.{IsCallAt, IsHistory, IsReplyAt, PassesAt, Precedes, is_call, records_of}
use Rattle.events.specs.Order.{Explains, IsOfCall, Placed, run_of}
use Rattle.events.proofs.HistoryLemmas.{answered_call, call_passes}
use Rattle.version_pair.proofs.ListLemmas.{same_some}
use Rattle.places.specs.Laws.{ArePlacedBy}
use Rattle.places.specs.Documents.{DocPlaces}
use Rattle.covers.specs.Covers.{AreCover, IsEntered}
use Rattle.compose.specs.Laws.{CoversExplain, IsOrderOf}
use Rattle.events.proofs.CalledDocuments.{call_document}
use Rattle.compose.proofs.Filtering.{rank, rank_at, rank_once}
use Rattle.compose.proofs.Gathering.{AreGathered, gathered, pointed_numbered}
use Rattle.compose.proofs.Points.{Pointed, call_place, called_there, in_order, is_of, part, part_placed, placed_at, placed_of, pointed_at}
use Rattle.compose.proofs.Sorting.{IsRising, rising_at}
use Rattle.compose.proofs.Standing.{listed, passes}
use Rattle.compose.proofs.WholeRun.{distinct, part_legal}

-- placed calls of one number are of one document
same_document : (events : List Event) → IsHistory events → (p q : Placed) → IsOfCall events p → IsOfCall events q → p.no ≡ q.no → p.entry.doc ≡ q.entry.doc
same_document events history p q a b same =
    let place : a.0 ≡ b.0 = history.called_once q.no a.0 b.0
    (subst (λ n. PassesAt (is_call n) events a.0) same (call_passes events a.0 p.no p.entry.shard p.entry.doc p.entry.op a.1))
    (call_passes events b.0 q.no q.entry.shard q.entry.doc q.entry.op b.1) in
    let call : Call p.entry.shard p.no p.entry.doc p.entry.op ≡ Call q.entry.shard q.no q.entry.doc q.entry.op =
    same_some (Call p.entry.shard p.no p.entry.doc p.entry.op) (Call q.entry.shard q.no q.entry.doc q.entry.op) (sym a.1 ∙ (ap (λ i. slice_get events i) place ∙ b.1)) in
    cc

-- a call number stands once
once : (conflicts : Conflicts) (events : List Event) (entries : List DocPlaces) (ks : List Pointed) → IsHistory events → AreGathered conflicts events entries ks
    → (i j : ℕ) (k l : Pointed) → slice_get ks i ≡ Some k → slice_get ks j ≡ Some l → k.placed.no ≡ l.placed.no → i ≡ j
once conflicts events entries ks history all i j k l at bt same =
    let a = listed conflicts events entries ks all i k at in
    let b = listed conflicts events entries ks all j l bt in
    let d = a.entry.doc in
    let other : l.placed.entry.doc ≡ d = sym (same_document events history k.placed l.placed a.call b.call same) ∙ a.doc in
    let stands : slice_get (part d ks) (rank (is_of d) ks j) ≡ Some l = rank_at (is_of d) ks j l bt (passes d l other) in
    rank_once (is_of d) ks i j k l at bt (passes d k a.doc) (passes d l other)
    (a.own.explains.once (rank (is_of d) ks i) (rank (is_of d) ks j) k.placed l.placed
    (placed_at (part d ks) (rank (is_of d) ks i) k a.stands) (placed_at (part d ks) (rank (is_of d) ks j) l stands) same)

-- an answered call stands with its reply in the part of its document
answered : (conflicts : Conflicts) (events : List Event) (entries : List DocPlaces) (ks : List Pointed) → IsHistory events → AreCover conflicts events entries → AreGathered conflicts events entries ks
    → (k n : ℕ) (r : Answer) → IsReplyAt events k n r → (i : ℕ) × (p : Placed) × (slice_get (placed_of ks) i ≡ Some p) × (p.no ≡ n) × (p.entry.reply ≡ r)
answered conflicts events entries ks history cover all k n r reply =
    let call = answered_call events history k n r reply in
    let document = call_document events call.0 n call.1 call.2 call.3 call.4 in
    let e = cover.complete document.1.0 (call.2, document.0) document.1.1 in
    let own = all.parts e.0 e.1 e.2 in
    let found = own.explains.answered k call.0 n call.1 call.3 r reply (subst (λ d. IsCallAt events call.0 n call.1 d call.3) (sym e.3) call.4) in
    let at = in_order (is_of e.1.doc) ks found.0 found.1 found.2 in
    (at.0, found.1, at.1, found.3, found.4)

-- Where one call precedes another it stands first. Otherwise the other's point would not be after its own, which some call
-- of its document at or before it has, and would then precede.
respects : (conflicts : Conflicts) (events : List Event) (entries : List DocPlaces) (ks : List Pointed) → IsHistory events → AreGathered conflicts events entries ks → IsRising (λ k. k.point) ks
    → (i j : ℕ) (k l : Pointed) → slice_get ks i ≡ Some k → slice_get ks j ≡ Some l → Precedes events k.placed.no l.placed.no → i < j
respects conflicts events entries ks history all rising i j k l at bt first =
    elim (cases_lt i j) as (λ _. i < j) [ inl less ↦ less | inr not ↦ absurd (not_after not) ] where
      not_after : j ≤ i → ⊥
      not_after not =
          let a = listed conflicts events entries ks all i k at in
          let b = listed conflicts events entries ks all j l bt in
          let own : List Pointed = part a.entry.doc ks in
          let r : ℕ = rank (is_of a.entry.doc) ks i in
          let latest = a.own.reached r k a.stands in
          let m : Pointed = latest.1 in
          let m_call = called_there events m.placed (a.own.explains.calls latest.0 m.placed (placed_at own latest.0 m latest.3)).0 in
          let called : first.called ≡ call_place events l.placed =
          history.called_once l.placed.no first.called (call_place events l.placed) first.call (called_there events l.placed b.call) in
          let low : l.point ≤ k.point = rising_at (λ q. q.point) ks j i l k rising not bt at in
          let in_time : call_place events l.placed ≤ l.point = b.own.before (rank (is_of b.entry.doc) ks j) l b.stands in
          let point : call_place events m.placed ≡ k.point = latest.4 in
          let before : first.answered < first.called = first.before in
          let next : Precedes events k.placed.no m.placed.no = record { answered = first.answered; called = call_place events m.placed; before = omega arith; reply = first.reply; call = m_call } in
          let order : r < latest.0 = a.own.explains.respects r latest.0 k.placed m.placed (placed_at own r k a.stands) (placed_at own latest.0 m latest.3) next in
          let early : latest.0 ≤ r = latest.2 in
          omega arith

-- ---- the theorem

-- the order explains the history
explains : (conflicts : Conflicts) (events : List Event) (entries : List DocPlaces) (ks : List Pointed) → IsHistory events → AreCover conflicts events entries → AreGathered conflicts events entries ks
    → IsRising (λ k. k.point) ks → Explains conflicts events (placed_of ks)
explains conflicts events entries ks history cover all rising = record {
  is_order = record { calls = calls; once = all_once; answered = answered conflicts events entries ks history cover all; plain = plain };
  respects = λ i j p q at bt.
      let k = pointed_at ks i p at in
      let l = pointed_at ks j q bt in
      subst (λ u. Precedes events u.no q.no → i < j) k.2
      (subst (λ v. Precedes events k.0.placed.no v.no → i < j) l.2 (respects conflicts events entries ks history all rising i j k.0 l.0 k.1 l.1));
  legal = (locality (run_of (placed_of ks))).1 (part_legal conflicts events entries ks all, distinct conflicts events entries ks history cover all);
} where
  calls : (i : ℕ) (p : Placed) → slice_get (placed_of ks) i ≡ Some p → IsOfCall events p
  calls i p at = let k = pointed_at ks i p at in subst (λ u. IsOfCall events u) k.2 (listed conflicts events entries ks all i k.0 k.1).call

  all_once : (i j : ℕ) (p q : Placed) → slice_get (placed_of ks) i ≡ Some p → slice_get (placed_of ks) j ≡ Some q → p.no ≡ q.no → i ≡ j
  all_once i j p q at bt same =
      let k = pointed_at ks i p at in
      let l = pointed_at ks j q bt in
      once conflicts events entries ks history all i j k.0 l.0 k.1 l.1 (ap (λ u. u.no) k.2 ∙ (same ∙ ap (λ u. u.no) (sym l.2)))

  plain : conflicts ≡ Plain → (i : ℕ) (p : Placed) → slice_get (placed_of ks) i ≡ Some p → p.entry.hidden ≡ None
  plain is i p at =
      let k = pointed_at ks i p at in
      let a = listed conflicts events entries ks all i k.0 k.1 in
      let r : ℕ = rank (is_of a.entry.doc) ks i in
      subst (λ u. u.entry.hidden ≡ None) k.2 (a.own.explains.plain is r k.0.placed (placed_at (part a.entry.doc ks) r k.0 a.stands))

-- it is an order of exactly the places of the entries
order_of : (conflicts : Conflicts) (events : List Event) (entries : List DocPlaces) (ks : List Pointed) → AreGathered conflicts events entries ks → IsOrderOf events entries (placed_of ks)
order_of conflicts events entries ks all = record {
  placed = λ i e at. subst (ArePlacedBy (records_of events e.doc) e.places) (sym (part_placed e.doc ks)) (all.parts i e at).placed;
  entered = λ i p at. let k = pointed_at ks i p at in subst (λ u. IsEntered entries u.entry.doc) k.2 (all.entered i k.0 k.1);
  count = length-map ks (λ k. k.placed) ∙ all.count;
  numbered = λ test. pointed_numbered test ks ∙ all.numbered test;
}

-- entries that cover a history make it linearizable, by an order of exactly their places
pub covers_explain : CoversExplain
covers_explain conflicts events entries history cover =
    let all = gathered conflicts events entries history cover.fine.valid cover.fine.once in
    (placed_of all.0, explains conflicts events entries all.0 history cover all.1 all.2, order_of conflicts events entries all.0 all.1)
