-- An order that explains a history, restricted to a shard, explains the part of the shard.
use Rattle.std.proofs.Common.{ℕ, ◌≡◌, ◌<◌, List, sym, ap, subst, ◌∙◌, arith, Some, slice_get, Bool}
use Rattle.std.specs.Prelude.{filter}
use Rattle.std.proofs.lemmas.Bool.{eq-eqb, eqb-true}
use Rattle.doc_register.specs.declared.reply.Reply.{Reply as Answer}
use Rattle.doc_register.specs.declared.state.Conflicts.{Conflicts}
use Rattle.doc_register.specs.Run.{Entry, IsLegalRun}
use Rattle.events.specs.declared.event.Event.{Event}
use Rattle.events.specs.Events.{IsCallAt, IsHistory, IsReplyAt, Precedes}
use Rattle.events.specs.Order.{Explains, IsOfCall, Placed, run_of}
use Rattle.version_pair.proofs.ListLemmas.{compare, mapped_from}
use Rattle.compose.specs.Shards.{concerns, part_of_shard}
use Rattle.evidence.proofs.FilterLemmas.{kept_order}
use Rattle.compose.proofs.Filtering.{filter_made, part_from, rank, rank_at, rank_rises, ranked_from}
use Rattle.compose.proofs.ShardParts.{call_in_part, on_shard, part_precedes, part_reply}
use Rattle.compose.proofs.ShardRuns.{HaveOneShard, is_in, legal_in}

-- the call is on the shard
abbrev on : ℕ → Placed → Bool
on h p = is_in h p.entry

-- the calls of an order that are on the shard
abbrev calls_on : ℕ → List Placed → List Placed
calls_on h order = filter (on h) order

-- calls of one document are of one shard
pub one_shard : (events : List Event) → IsHistory events → (order : List Placed) → ((i : ℕ) (p : Placed) → slice_get order i ≡ Some p → IsOfCall events p) → HaveOneShard (run_of order)
one_shard events history order calls i j e f at bt same =
    let p = mapped_from (λ (x : Placed). x.entry) order i e at in
    let q = mapped_from (λ (x : Placed). x.entry) order j f bt in
    let a = calls i p.0 p.1 in
    let b = calls j q.0 q.1 in
    let doc : q.0.entry.doc ≡ p.0.entry.doc = ap (λ (x : Entry). x.doc) q.2 ∙ (sym same ∙ ap (λ (x : Entry). x.doc) (sym p.2)) in
    let shard : p.0.entry.shard ≡ q.0.entry.shard =
    history.one_shard a.0 b.0 p.0.no q.0.no p.0.entry.shard q.0.entry.shard p.0.entry.doc p.0.entry.op q.0.entry.op a.1
    (subst (λ d. IsCallAt events b.0 q.0.no q.0.entry.shard d q.0.entry.op) doc b.1) in
    ap (λ (x : Entry). x.shard) (sym p.2) ∙ (shard ∙ ap (λ (x : Entry). x.shard) q.2)

-- a call that is kept is one of the part
kept_call : (events : List Event) (h : ℕ) (p : Placed) → IsOfCall events p → p.entry.shard ≡ h → IsOfCall (part_of_shard h events) p
kept_call events h p of shard =
    let place : ℕ = rank (concerns h events) events of.0 in
    let call : IsCallAt (part_of_shard h events) place p.no h p.entry.doc p.entry.op =
    call_in_part events h of.0 p.no p.entry.doc p.entry.op (subst (λ g. IsCallAt events of.0 p.no g p.entry.doc p.entry.op) shard of.1) in
    (place, subst (λ g. IsCallAt (part_of_shard h events) place p.no g p.entry.doc p.entry.op) (sym shard) call)

-- no call stands twice
kept_once : (h : ℕ) (order : List Placed) → ((i j : ℕ) (p q : Placed) → slice_get order i ≡ Some p → slice_get order j ≡ Some q → p.no ≡ q.no → i ≡ j)
    → (i j : ℕ) (p q : Placed) → slice_get (calls_on h order) i ≡ Some p → slice_get (calls_on h order) j ≡ Some q → p.no ≡ q.no → i ≡ j
kept_once h order once i j p q at bt same = compare i j (apart i j p q at bt same) (apart j i q p bt at (sym same)) where
  apart : (i j : ℕ) (p q : Placed) → slice_get (calls_on h order) i ≡ Some p → slice_get (calls_on h order) j ≡ Some q → p.no ≡ q.no → i < j → ⊥
  apart i j p q at bt same less =
      let m = kept_order (on h) order i j p q less at bt in
      let below : m.0 < m.1 = m.2 in
      let one : m.0 ≡ m.1 = once m.0 m.1 p q m.3.at m.4.at same in
      omega arith

-- an answered call of the part stands with its reply
kept_answered : (conflicts : Conflicts) (events : List Event) (h : ℕ) (order : List Placed) → IsHistory events → Explains conflicts events order
    → (k n : ℕ) (r : Answer) → IsReplyAt (part_of_shard h events) k n r
    → (i : ℕ) × (p : Placed) × (slice_get (calls_on h order) i ≡ Some p) × (p.no ≡ n) × (p.entry.reply ≡ r)
kept_answered conflicts events h order history explains k n r at =
    let reply = part_reply events h k n r at in
    let x = explains.is_order.answered reply.0 n r reply.1 in
    let of : IsOfCall events x.1 = explains.is_order.calls x.0 x.1 x.2 in
    let shard : x.1.entry.shard ≡ h = on_shard events history h of.0 n x.1.entry.shard x.1.entry.doc x.1.entry.op
    (subst (λ m. IsCallAt events of.0 m x.1.entry.shard x.1.entry.doc x.1.entry.op) x.3 of.1) reply.2 in
    (rank (on h) order x.0, x.1, rank_at (on h) order x.0 x.1 x.2 (eq-eqb x.1.entry.shard h shard), x.3, x.4)

-- where one call precedes another it stands first
kept_respects : (conflicts : Conflicts) (events : List Event) (h : ℕ) (order : List Placed) → Explains conflicts events order
    → (i j : ℕ) (p q : Placed) → slice_get (calls_on h order) i ≡ Some p → slice_get (calls_on h order) j ≡ Some q → Precedes (part_of_shard h events) p.no q.no → i < j
kept_respects conflicts events h order explains i j p q at bt first =
    let a = ranked_from (on h) order i p at in
    let b = ranked_from (on h) order j q bt in
    let less : a.0 < b.0 = explains.respects a.0 b.0 p q a.1 b.1 (part_precedes events h p.no q.no first) in
    let rises : rank (on h) order a.0 < rank (on h) order b.0 = rank_rises (on h) order a.0 b.0 p less a.1 a.2 in
    let one : rank (on h) order a.0 ≡ i = a.3 in
    let other : rank (on h) order b.0 ≡ j = b.3 in
    omega arith

-- the restricted order explains the part
pub part_explained : (conflicts : Conflicts) (events : List Event) (h : ℕ) (order : List Placed) → IsHistory events → Explains conflicts events order
    → Explains conflicts (part_of_shard h events) (calls_on h order)
part_explained conflicts events h order history explains = record {
  is_order = record {
    calls = λ i p at.
        let from = part_from (on h) order i p at in
        kept_call events h p (explains.is_order.calls from.0 p from.1) (eqb-true p.entry.shard h from.2);
    once = kept_once h order explains.is_order.once;
    answered = kept_answered conflicts events h order history explains;
    plain = λ is i p at. let from = part_from (on h) order i p at in explains.is_order.plain is from.0 p from.1;
  };
  respects = kept_respects conflicts events h order explains;
  legal = subst IsLegalRun (filter_made (λ (p : Placed). p.entry) (is_in h) order) (legal_in h (run_of order) (one_shard events history order explains.is_order.calls) explains.legal);
}
