-- The order of the replies explains a history that is legal in response order; and the order of no call one without a document.
use Rattle.std.proofs.Common.{ℕ, ◌≡◌, ◌<◌, List, refl, sym, ap, subst, ◌∙◌, arith, Option, Some, None, slice_get, true, false}
use Rattle.std.specs.Prelude.{option_and_then}
use Rattle.std.proofs.lemmas.Bool.{eqb-true}
use Rattle.doc_register.specs.declared.reply.Reply.{Reply as Answer}
use Rattle.doc_register.specs.declared.state.Conflicts.{Conflicts}
use Rattle.doc_register.specs.Run.{IsLegalRun}
use Rattle.events.specs.declared.event.Event.{Event}
use Rattle.events.specs.declared.event.Event.TheVariants.{Call, Reply, Lost}
use Rattle.events.specs.Events.{IsHistory, IsReplyAt, PassesAt, is_call, is_ending, place_of}
use Rattle.events.specs.Order.{Explains, IsOfCall, Placed, Respects, answered_by, call_with, placed_with, reply_order, run_of}
use Rattle.version_pair.proofs.ListLemmas.{IsMadeAt, compare, kept_at, kept_in_order, made_in_order, made_of, none_is_not_some, same_some}
use Rattle.events.proofs.EventLemmas.{passes_element, place_of-passes, place_of-some}
use Rattle.events.proofs.HistoryLemmas.{reply_passes}

-- ---- the calls that replies answer

-- the event is the reply that the placed call has, and hides no pair
pub record IsAnsweredBy (H : List Event) (e : Event) (p : Placed) : Type 0 where
  pub reply : e ≡ Reply p.no p.entry.reply
  pub shown : p.entry.hidden ≡ None
  pub call : IsOfCall H p

placed_answered : (H : List Event) (n : ℕ) (r : Answer) (i : ℕ) (e : Event) (p : Placed) → slice_get H i ≡ Some e → is_call n e ≡ true → placed_with r e ≡ Some p → IsAnsweredBy H (Reply n r) p
placed_answered H n r i (Call h m d op) p at passes placed =
    let number : m ≡ n = eqb-true m n passes in
    subst (λ q. IsAnsweredBy H (Reply n r) q) (same_some (record { no = m; entry = record { shard = h; doc = d; op = op; reply = r; hidden = None } }) p placed)
    (record { reply = ap (λ k. Reply k r) (sym number); shown = refl; call = (i, at) })
placed_answered H n r i (Reply m s) p at passes placed = absurd (none_is_not_some p placed)
placed_answered H n r i (Lost m) p at passes placed = absurd (none_is_not_some p placed)

call_answered : (H : List Event) (n : ℕ) (r : Answer) (p : Placed) → call_with H n r ≡ Some p → IsAnsweredBy H (Reply n r) p
call_answered H n r p placed = by_place (place_of (is_call n) H) refl placed where
  by_place : (o : Option ℕ) → place_of (is_call n) H ≡ o → option_and_then (λ i. option_and_then (placed_with r) (slice_get H i)) o ≡ Some p → IsAnsweredBy H (Reply n r) p
  by_place None is placed = absurd (none_is_not_some p placed)
  by_place (Some i) is placed =
      let e = passes_element (is_call n) H i (place_of-passes (is_call n) H i is) in
      placed_answered H n r i e.0 p e.1 e.2 (sym (ap (option_and_then (placed_with r)) e.1) ∙ placed)

answered : (H : List Event) (e : Event) (p : Placed) → answered_by H e ≡ Some p → IsAnsweredBy H e p
answered H (Call h n d op) p placed = absurd (none_is_not_some p placed)
answered H (Reply n r) p placed = call_answered H n r p placed
answered H (Lost n) p placed = absurd (none_is_not_some p placed)

-- the placed call's reply stands at the place
pub record IsRepliedAt (H : List Event) (k : ℕ) (p : Placed) : Type 0 where
  pub reply : IsReplyAt H k p.no p.entry.reply
  pub shown : p.entry.hidden ≡ None
  pub call : IsOfCall H p

replied : (H : List Event) (k : ℕ) (p : Placed) → IsMadeAt (answered_by H) H k p → IsRepliedAt H k p
replied H k p m = let a = answered H m.from p m.made in record { reply = m.at ∙ ap (λ e. Some e) a.reply; shown = a.shown; call = a.call }

pub replied_of : (H : List Event) (i : ℕ) (p : Placed) → slice_get (reply_order H) i ≡ Some p → (k : ℕ) × IsRepliedAt H k p
replied_of H i p at = let m = made_of (answered_by H) H i p at in (m.0, replied H m.0 p m.1)

-- two places of one number
order_once : (H : List Event) → IsHistory H → (i j : ℕ) (p q : Placed) → slice_get (reply_order H) i ≡ Some p → slice_get (reply_order H) j ≡ Some q → p.no ≡ q.no → i < j → ⊥
order_once H history i j p q at bt same below =
    let m = made_in_order (answered_by H) H i j p q below at bt in
    let a = replied H m.0 p m.3 in
    let b = replied H m.1 q m.4 in
    let less : m.0 < m.1 = m.2 in
    let one : m.0 ≡ m.1 = history.ended_once q.no m.0 m.1
    (subst (λ n. PassesAt (is_ending n) H m.0) same (reply_passes H m.0 p.no p.entry.reply a.reply)) (reply_passes H m.1 q.no q.entry.reply b.reply) in
    omega arith

once : (H : List Event) → IsHistory H → (i j : ℕ) (p q : Placed) → slice_get (reply_order H) i ≡ Some p → slice_get (reply_order H) j ≡ Some q → p.no ≡ q.no → i ≡ j
once H history i j p q at bt same = compare i j (order_once H history i j p q at bt same) (order_once H history j i q p bt at (sym same))

-- a reply of a history is of a call that is placed
pub reply_placed : (H : List Event) → IsHistory H → (k n : ℕ) (r : Answer) → IsReplyAt H k n r → (p : Placed) × (call_with H n r ≡ Some p) × (p.no ≡ n) × (p.entry.reply ≡ r)
reply_placed H history k n r at =
    let c = history.ended_after_call n k (reply_passes H k n r at) in
    let first = place_of-some (is_call n) H c.0 c.2 in
    let e = passes_element (is_call n) H first.0 (place_of-passes (is_call n) H first.0 first.1) in
    by_event first.0 e.0 first.1 e.1 e.2 where
      by_event : (i : ℕ) (e : Event) → place_of (is_call n) H ≡ Some i → slice_get H i ≡ Some e → is_call n e ≡ true
          → (p : Placed) × (call_with H n r ≡ Some p) × (p.no ≡ n) × (p.entry.reply ≡ r)
      by_event i (Call h m d op) is here passes = (
        record { no = m; entry = record { shard = h; doc = d; op = op; reply = r; hidden = None } },
        ap (option_and_then (λ i. option_and_then (placed_with r) (slice_get H i))) is ∙ ap (option_and_then (placed_with r)) here,
        eqb-true m n passes,
        refl,
      )
      by_event i (Reply m s) is here passes = let impossible : false ≡ true = passes in absurd (cc)
      by_event i (Lost m) is here passes = let impossible : false ≡ true = passes in absurd (cc)

respects : (H : List Event) → IsHistory H → Respects H (reply_order H)
respects H history i j p q at bt first =
    let m = made_of (answered_by H) H i p at in
    let n = made_of (answered_by H) H j q bt in
    let a = replied H m.0 p m.1 in
    let b = replied H n.0 q n.1 in
    let c = history.ended_after_call q.no n.0 (reply_passes H n.0 q.no q.entry.reply b.reply) in
    let reply_is : first.answered ≡ m.0 = history.ended_once p.no first.answered m.0
    (reply_passes H first.answered p.no first.reply.0 first.reply.1) (reply_passes H m.0 p.no p.entry.reply a.reply) in
    let call_is : first.called ≡ c.0 = history.called_once q.no first.called c.0 first.call c.2 in
    let before : first.answered < first.called = first.before in
    let after : c.0 < n.0 = c.1 in
    let less : m.0 < n.0 = omega arith in
    let k = kept_in_order (answered_by H) H m.0 n.0 m.1.from n.1.from p q less m.1.at n.1.at m.1.made n.1.made in
    let here : k.0 ≡ i = once H history k.0 i p p k.3 at refl in
    let there : k.1 ≡ j = once H history k.1 j q q k.4 bt refl in
    let order : k.0 < k.1 = k.2 in
    omega arith

-- the answered calls by place of reply explain the history, where they are a legal run
pub reply_order_explains : (conflicts : Conflicts) (H : List Event) → IsHistory H → IsLegalRun (run_of (reply_order H)) → Explains conflicts H (reply_order H)
reply_order_explains conflicts H history legal = record {
  is_order = record {
    calls = λ i p at. (replied_of H i p at).1.call;
    once = once H history;
    answered = λ k n r at.
        let c = reply_placed H history k n r at in
        let place = kept_at (answered_by H) H k (Reply n r) c.0 at c.1 in
        (place.0, c.0, place.1, c.2, c.3);
    plain = λ conflicts_is i p at. (replied_of H i p at).1.shown;
  };
  respects = respects H history;
  legal = legal;
}
