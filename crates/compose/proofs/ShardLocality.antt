-- A history is linearizable exactly where the part of each shard is.
use Rattle.std.proofs.Common.{ℕ, ◌≡◌, ◌<◌, ◌≤◌, inl, inr, List, sym, ap, subst, ◌∙◌, arith, refl, Some, None, slice_get, true}
use Rattle.std.proofs.lemmas.Bool.{cases_lt, eq-eqb}
use Rattle.doc_register.specs.declared.reply.Reply.{Reply as Answer}
use Rattle.doc_register.specs.declared.state.Conflicts.{Conflicts}
use Rattle.doc_register.specs.declared.state.Conflicts.TheVariants.{Plain}
use Rattle.doc_register.specs.Run.{Entry, IsLegalRun}
use Rattle.events.specs.declared.event.Event.{Event}
use Rattle.events.specs.Events.{IsCallAt, IsHistory, IsReplyAt, PassesAt, Precedes, is_call}
use Rattle.events.specs.Order.{Explains, IsOfCall, Placed, run_of}
use Rattle.events.proofs.HistoryLemmas.{answered_call, call_passes}
use Rattle.compose.specs.Shards.{LocalByShard, part_of_shard}
use Rattle.evidence.proofs.CallsByNumber.{same_shard}
use Rattle.compose.proofs.Filtering.{filter_made, rank, rank_at, rank_once}
use Rattle.compose.proofs.Points.{Pointed, call_place, called_there, in_order, placed_at, placed_of, pointed_at}
use Rattle.compose.proofs.ShardMerge.{AreMerged, IsOrderOn, is_on, merged, those_on}
use Rattle.compose.proofs.ShardOrders.{one_shard, part_explained}
use Rattle.compose.proofs.ShardParts.{has_call, part_call, precedes_in_part, reply_in_part, split_by_shard}
use Rattle.compose.proofs.ShardRuns.{is_in, legal_all, run_in}
use Rattle.compose.proofs.Sorting.{IsRising, rising_at}
use Rattle.version_pair.proofs.ListLemmas.{mapped_from}

-- ---- the calls of all shards

-- how many shards there can be, as histories have it
abbrev shards : ℕ
shards = 1024

-- the call at the place stands among those on its shard, which are an order of its part
record IsListed (conflicts : Conflicts) (events : List Event) (ks : List Pointed) (i : ℕ) (k : Pointed) : Type 0 where
  pub own : IsOrderOn conflicts events k.placed.entry.shard (those_on k.placed.entry.shard ks)
  pub stands : slice_get (those_on k.placed.entry.shard ks) (rank (is_on k.placed.entry.shard) ks i) ≡ Some k
  pub call : IsOfCall events k.placed

-- a call of the part of a shard is one of the history
whole_call : (events : List Event) (h : ℕ) (p : Placed) → IsOfCall (part_of_shard h events) p → IsOfCall events p
whole_call events h p of = let from = part_call events h of.0 p.no p.entry.shard p.entry.doc p.entry.op of.1 in (from.0, from.1)

-- a call passes the test of its shard
passes : (h : ℕ) (k : Pointed) → k.placed.entry.shard ≡ h → is_on h k ≡ true
passes h k same = eq-eqb k.placed.entry.shard h same

-- each of the calls is so
listed : (conflicts : Conflicts) (events : List Event) (n : ℕ) (ks : List Pointed) → AreMerged conflicts events n ks → (i : ℕ) (k : Pointed) → slice_get ks i ≡ Some k → IsListed conflicts events ks i k
listed conflicts events n ks all i k at =
    let h : ℕ = k.placed.entry.shard in
    let own : IsOrderOn conflicts events h (those_on h ks) = all.parts h (all.below i k at) in
    let r : ℕ = rank (is_on h) ks i in
    let stands : slice_get (those_on h ks) r ≡ Some k = rank_at (is_on h) ks i k at (passes h k refl) in
    record { own = own; stands = stands; call = whole_call events h k.placed (own.explains.is_order.calls r k.placed (placed_at (those_on h ks) r k stands)) }

-- calls of one number are on one shard
shard_of_number : (events : List Event) → IsHistory events → (p q : Placed) → IsOfCall events p → IsOfCall events q → p.no ≡ q.no → q.entry.shard ≡ p.entry.shard
shard_of_number events history p q a b same =
    let place : b.0 ≡ a.0 = history.called_once p.no b.0 a.0
    (subst (λ n. PassesAt (is_call n) events b.0) (sym same) (call_passes events b.0 q.no q.entry.shard q.entry.doc q.entry.op b.1))
    (call_passes events a.0 p.no p.entry.shard p.entry.doc p.entry.op a.1) in
    same_shard events a.0 q.no p.no q.entry.shard p.entry.shard q.entry.doc p.entry.doc q.entry.op p.entry.op
    (subst (λ i. IsCallAt events i q.no q.entry.shard q.entry.doc q.entry.op) place b.1) a.1

-- a call number stands once
once : (conflicts : Conflicts) (events : List Event) (n : ℕ) (ks : List Pointed) → IsHistory events → AreMerged conflicts events n ks
    → (i j : ℕ) (k l : Pointed) → slice_get ks i ≡ Some k → slice_get ks j ≡ Some l → k.placed.no ≡ l.placed.no → i ≡ j
once conflicts events n ks history all i j k l at bt same =
    let a = listed conflicts events n ks all i k at in
    let b = listed conflicts events n ks all j l bt in
    let h : ℕ = k.placed.entry.shard in
    let there = passes h l (shard_of_number events history k.placed l.placed a.call b.call same) in
    rank_once (is_on h) ks i j k l at bt (passes h k refl) there
    (a.own.explains.is_order.once (rank (is_on h) ks i) (rank (is_on h) ks j) k.placed l.placed
    (placed_at (those_on h ks) (rank (is_on h) ks i) k a.stands) (placed_at (those_on h ks) (rank (is_on h) ks j) l (rank_at (is_on h) ks j l bt there)) same)

-- an answered call stands with its reply among those on its shard
answered : (conflicts : Conflicts) (events : List Event) (ks : List Pointed) → IsHistory events → AreMerged conflicts events shards ks
    → (k n : ℕ) (r : Answer) → IsReplyAt events k n r → (i : ℕ) × (p : Placed) × (slice_get (placed_of ks) i ≡ Some p) × (p.no ≡ n) × (p.entry.reply ≡ r)
answered conflicts events ks history all k n r reply =
    let call = answered_call events history k n r reply in
    let h : ℕ = call.1 in
    let own = all.parts h (history.shards call.0 n h call.2 call.3 call.4) in
    let found = own.explains.is_order.answered _ n r (reply_in_part events h k n r reply (has_call events call.0 n h call.2 call.3 call.4)) in
    let at = in_order (is_on h) ks found.0 found.1 found.2 in
    (at.0, found.1, at.1, found.3, found.4)

-- Where one call precedes another it stands first. Otherwise the other's point would not be after its own, which some call
-- of its shard at or before it has, and would then precede.
respects : (conflicts : Conflicts) (events : List Event) (n : ℕ) (ks : List Pointed) → IsHistory events → AreMerged conflicts events n ks → IsRising (λ k. k.point) ks
    → (i j : ℕ) (k l : Pointed) → slice_get ks i ≡ Some k → slice_get ks j ≡ Some l → Precedes events k.placed.no l.placed.no → i < j
respects conflicts events n ks history all rising i j k l at bt first =
    elim (cases_lt i j) as (λ _. i < j) [ inl less ↦ less | inr not ↦ absurd (not_after not) ] where
      not_after : j ≤ i → ⊥
      not_after not =
          let a = listed conflicts events n ks all i k at in
          let b = listed conflicts events n ks all j l bt in
          let h : ℕ = k.placed.entry.shard in
          let own : List Pointed = those_on h ks in
          let r : ℕ = rank (is_on h) ks i in
          let latest = a.own.reached r k a.stands in
          let m : Pointed = latest.1 in
          let of = a.own.explains.is_order.calls latest.0 m.placed (placed_at own latest.0 m latest.3) in
          let m_call = part_call events h of.0 m.placed.no m.placed.entry.shard m.placed.entry.doc m.placed.entry.op of.1 in
          let m_place : m_call.0 ≡ call_place events m.placed = history.called_once m.placed.no m_call.0 (call_place events m.placed)
          (call_passes events m_call.0 m.placed.no m.placed.entry.shard m.placed.entry.doc m.placed.entry.op m_call.1) (called_there events m.placed (m_call.0, m_call.1)) in
          let called : first.called ≡ call_place events l.placed =
          history.called_once l.placed.no first.called (call_place events l.placed) first.call (called_there events l.placed b.call) in
          let low : l.point ≤ k.point = rising_at (λ q. q.point) ks j i l k rising not bt at in
          let in_time : call_place events l.placed ≤ l.point = b.own.before (rank (is_on l.placed.entry.shard) ks j) l b.stands in
          let point : call_place events m.placed ≡ k.point = latest.4 in
          let before : first.answered < first.called = first.before in
          let next : Precedes (part_of_shard h events) k.placed.no m.placed.no =
          precedes_in_part events h k.placed.no m.placed.no first.answered m_call.0 first.reply.0 m.placed.entry.doc m.placed.entry.op (omega arith) first.reply.1
          (has_call events a.call.0 k.placed.no h k.placed.entry.doc k.placed.entry.op a.call.1)
          (subst (λ g. IsCallAt events m_call.0 m.placed.no g m.placed.entry.doc m.placed.entry.op) m_call.2 m_call.1) in
          let order : r < latest.0 = a.own.explains.respects r latest.0 k.placed m.placed (placed_at own r k a.stands) (placed_at own latest.0 m latest.3) next in
          let early : latest.0 ≤ r = latest.2 in
          omega arith

-- ---- the theorem

-- the calls of all shards explain the history
explains : (conflicts : Conflicts) (events : List Event) (ks : List Pointed) → IsHistory events → AreMerged conflicts events shards ks → IsRising (λ k. k.point) ks → Explains conflicts events (placed_of ks)
explains conflicts events ks history all rising = record {
  is_order = record { calls = calls; once = all_once; answered = answered conflicts events ks history all; plain = plain };
  respects = λ i j p q at bt.
      let k = pointed_at ks i p at in
      let l = pointed_at ks j q bt in
      subst (λ u. Precedes events u.no q.no → i < j) k.2
      (subst (λ v. Precedes events k.0.placed.no v.no → i < j) l.2 (respects conflicts events shards ks history all rising i j k.0 l.0 k.1 l.1));
  legal = legal_all (run_of (placed_of ks)) (one_shard events history (placed_of ks) calls) legal;
} where
  calls : (i : ℕ) (p : Placed) → slice_get (placed_of ks) i ≡ Some p → IsOfCall events p
  calls i p at = let k = pointed_at ks i p at in subst (λ u. IsOfCall events u) k.2 (listed conflicts events shards ks all i k.0 k.1).call

  all_once : (i j : ℕ) (p q : Placed) → slice_get (placed_of ks) i ≡ Some p → slice_get (placed_of ks) j ≡ Some q → p.no ≡ q.no → i ≡ j
  all_once i j p q at bt same =
      let k = pointed_at ks i p at in
      let l = pointed_at ks j q bt in
      once conflicts events shards ks history all i j k.0 l.0 k.1 l.1 (ap (λ u. u.no) k.2 ∙ (same ∙ ap (λ u. u.no) (sym l.2)))

  plain : conflicts ≡ Plain → (i : ℕ) (p : Placed) → slice_get (placed_of ks) i ≡ Some p → p.entry.hidden ≡ None
  plain is i p at =
      let k = pointed_at ks i p at in
      let a = listed conflicts events shards ks all i k.0 k.1 in
      let h : ℕ = k.0.placed.entry.shard in
      let r : ℕ = rank (is_on h) ks i in
      subst (λ u. u.entry.hidden ≡ None) k.2 (a.own.explains.is_order.plain is r k.0.placed (placed_at (those_on h ks) r k.0 a.stands))

  run_on : (h : ℕ) → run_in h (run_of (placed_of ks)) ≡ run_of (placed_of (those_on h ks))
  run_on h = filter_made (λ (p : Placed). p.entry) (is_in h) (placed_of ks) ∙ ap run_of (filter_made (λ (k : Pointed). k.placed) (λ p. is_in h p.entry) ks)

  legal : (i : ℕ) (e : Entry) → slice_get (run_of (placed_of ks)) i ≡ Some e → IsLegalRun (run_in e.shard (run_of (placed_of ks)))
  legal i e at =
      let p = mapped_from (λ (x : Placed). x.entry) (placed_of ks) i e at in
      let k = pointed_at ks i p.0 p.1 in
      let own = (listed conflicts events shards ks all i k.0 k.1).own in
      let shard : k.0.placed.entry.shard ≡ e.shard = ap (λ (x : Placed). x.entry.shard) k.2 ∙ ap (λ (x : Entry). x.shard) p.2 in
      subst (λ h. IsLegalRun (run_in h (run_of (placed_of ks)))) shard (subst IsLegalRun (sym (run_on k.0.placed.entry.shard)) own.explains.legal)

-- histories are linearizable shard by shard
pub local_by_shard : LocalByShard
local_by_shard = record {
  split = split_by_shard;
  linearizable = λ conflicts events history. (
    λ (order, explained) h. (_, part_explained conflicts events h order history explained),
    λ each. let all = merged conflicts events each shards in (placed_of all.0, explains conflicts events all.0 history all.1 all.2),
  );
}
