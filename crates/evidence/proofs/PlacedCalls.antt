-- Answered and performed calls in an order that explains a history.
use Rattle.std.proofs.Common.{ℕ, ◌≡◌, ◌<◌, List, refl, sym, ap, subst, ◌∙◌, arith, inl, inr, Option, Some, None, slice_get}
use Rattle.std.proofs.lemmas.Bool.{cases_lt}
use Rattle.version_pair.specs.declared.pair.Pair.{Pair}
use Rattle.version_pair.proofs.ListLemmas.{none_is_not_some, same_some}
use Rattle.doc_register.specs.declared.op.Op.{Op}
use Rattle.doc_register.specs.declared.reply.Reply.{Reply as Answer}
use Rattle.doc_register.specs.declared.state.Conflicts.{Conflicts}
use Rattle.doc_register.specs.Run.{pair_taken}
use Rattle.events.specs.declared.event.Event.{Event}
use Rattle.events.specs.declared.event.Event.TheVariants.{Call, Reply}
use Rattle.events.specs.Events.{IsCallAt, IsHistory, IsReplyAt, PassesAt, Precedes, heard_of, is_call}
use Rattle.events.specs.Heard.{taken_by}
use Rattle.events.specs.Order.{Explains, IsOfCall, Placed, run_of}
use Rattle.events.proofs.EventLemmas.{same_call}
use Rattle.events.proofs.HistoryLemmas.{call_passes}
use Rattle.evidence.specs.Evidence.{IsPerformed}
use Rattle.evidence.proofs.CallsByNumber.{same_shard}
use Rattle.evidence.proofs.HeardLemmas.{heard_is_reply}
use Rattle.deciding.proofs.OrderedSteps.{mapped_at}
use Rattle.deciding.proofs.ReportedStates.{shown_taken}

-- ---- answered calls in an order

-- where an answered call stands in an order
pub record IsPlaced (order : List Placed) (n h : ℕ) (d : List ℕ) (op : Op) (r : Answer) : Type 0 where
  pub place : ℕ
  pub placed : Placed
  pub at : slice_get order place ≡ Some placed
  pub number : placed.no ≡ n
  pub shard : placed.entry.shard ≡ h
  pub doc : placed.entry.doc ≡ d
  pub operation : placed.entry.op ≡ op
  pub reply : placed.entry.reply ≡ r
  pub entry : slice_get (run_of order) place ≡ Some placed.entry

-- an answered call stands in each order that explains the history
pub placed : (conflicts : Conflicts) (events : List Event) (order : List Placed) → IsHistory events → Explains conflicts events order
    → (i n h y : ℕ) (d : List ℕ) (op : Op) (r : Answer) → IsCallAt events i n h d op → heard_of events n ≡ Some (y, r) → IsPlaced order n h d op r
placed conflicts events order history explains i n h y d op r call heard =
    let x = explains.is_order.answered y n r (heard_is_reply events history i n h d op call y r heard) in
    let of : IsOfCall events x.1 = explains.is_order.calls x.0 x.1 x.2 in
    let place : of.0 ≡ i = history.called_once n of.0 i
    (subst (λ m. PassesAt (is_call m) events of.0) x.3 (call_passes events of.0 x.1.no x.1.entry.shard x.1.entry.doc x.1.entry.op of.1))
    (call_passes events i n h d op call) in
    let moved : IsCallAt events i x.1.no x.1.entry.shard x.1.entry.doc x.1.entry.op = subst (λ c. IsCallAt events c x.1.no x.1.entry.shard x.1.entry.doc x.1.entry.op) place of.1 in
    let same = same_call events i x.1.no n x.1.entry.shard h x.1.entry.doc d x.1.entry.op op moved call in
    record {
      place = x.0;
      placed = x.1;
      at = x.2;
      number = x.3;
      shard = same_shard events i x.1.no n x.1.entry.shard h x.1.entry.doc d x.1.entry.op op moved call;
      doc = same.1;
      operation = same.2;
      reply = x.4;
      entry = mapped_at (λ (p : Placed). p.entry) order x.0 x.1 x.2;
    }

-- ---- performed calls in an order

shown_heard : (heard : Option (ℕ × Answer)) (q : Pair) → taken_by heard None ≡ Some q → (y : ℕ) × (r : Answer) × (heard ≡ Some (y, r)) × (pair_taken r None ≡ Some q)
shown_heard None q is = absurd (none_is_not_some q is)
shown_heard (Some (y, r)) q is = (y, r, refl, is)

-- where a performed call stands in an order
pub record IsPlacedWith (order : List Placed) (n h : ℕ) (d : List ℕ) (op : Op) (q : Pair) : Type 0 where
  pub reply : Answer
  pub own : IsPlaced order n h d op reply
  pub takes : pair_taken own.placed.entry.reply own.placed.entry.hidden ≡ Some q
  pub shows : pair_taken reply None ≡ Some q

pub placed_with : (conflicts : Conflicts) (events : List Event) (order : List Placed) → IsHistory events → Explains conflicts events order
    → (n : ℕ) (d : List ℕ) (q : Pair) (w : IsPerformed events n d q) → IsPlacedWith order n w.shard d w.op q
placed_with conflicts events order history explains n d q w =
    let heard = shown_heard (heard_of events n) q w.shows in
    let own = placed conflicts events order history explains w.called n w.shard heard.0 d w.op heard.1 w.call heard.2 in
    record {
      reply = heard.1;
      own = own;
      takes = ap (λ r. pair_taken r own.placed.entry.hidden) own.reply ∙ shown_taken heard.1 own.placed.entry.hidden q heard.3;
      shows = heard.3;
    }

-- ---- calls that stand before an answered one

-- a call that stands before an answered one was made before that was answered
pub in_time : (conflicts : Conflicts) (events : List Event) (order : List Placed) → Explains conflicts events order → (replied n : ℕ) (r : Answer) → IsReplyAt events replied n r
    → (i j : ℕ) (p q : Placed) → slice_get order i ≡ Some p → slice_get order j ≡ Some q → q.no ≡ n → i < j → (of : IsOfCall events p) → of.0 < replied
in_time conflicts events order explains replied n r reply i j p q at bt number less of =
    elim (cases_lt of.0 replied) as (λ _. of.0 < replied) [
      | inl before ↦ before
      | inr other ↦ elim (cases_lt replied of.0) as (λ _. of.0 < replied) [
        | inl after ↦ (let more : j < i = explains.respects j i q p bt at
            (subst (λ m. Precedes events m p.no) (sym number) (record {
              answered = replied;
              called = of.0;
              before = after;
              reply = (r, reply);
              call = call_passes events of.0 p.no p.entry.shard p.entry.doc p.entry.op of.1;
            })) in
            omega arith)
        | inr under ↦ (let same : of.0 ≡ replied = omega arith in
            let impossible : Call p.entry.shard p.no p.entry.doc p.entry.op ≡ Reply n r =
            same_some (Call p.entry.shard p.no p.entry.doc p.entry.op) (Reply n r) (sym of.1 ∙ (ap (slice_get events) same ∙ reply)) in
            absurd (cc))
      ]
    ]

-- what was heard of a call of the order is its reply there
pub replied_so : (conflicts : Conflicts) (events : List Event) (order : List Placed) → IsHistory events → Explains conflicts events order
    → (i : ℕ) (p : Placed) → slice_get order i ≡ Some p → IsOfCall events p → (y : ℕ) (r : Answer) → heard_of events p.no ≡ Some (y, r) → p.entry.reply ≡ r
replied_so conflicts events order history explains i p at of y r heard =
    let own = placed conflicts events order history explains of.0 p.no p.entry.shard y p.entry.doc p.entry.op r of.1 heard in
    let same : own.place ≡ i = explains.is_order.once own.place i own.placed p own.at at own.number in
    let call : own.placed ≡ p = same_some own.placed p (sym own.at ∙ (ap (slice_get order) same ∙ at)) in
    ap (λ (q : Placed). q.entry.reply) (sym call) ∙ own.reply
