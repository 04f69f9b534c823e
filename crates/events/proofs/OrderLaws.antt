-- Laws of precedence and of orders.
use Rattle.std.proofs.Common.{ℕ, ◌≡◌, ◌<◌, List, arith}
use Rattle.events.specs.declared.event.Event.{Event}
use Rattle.events.specs.Events.{IsHistory, PassesAt, Precedes, is_call}
use Rattle.events.specs.Order.{reply_order}
use Rattle.events.specs.Laws.{LegalInResponseOrderIsLinearizable, PrecedenceIsStrict}
use Rattle.events.proofs.HistoryLemmas.{reply_passes}
use Rattle.events.proofs.OrderLemmas.{reply_order_explains}

-- ---- precedence

-- the call of an answered call stands before its reply
called_before_reply : (H : List Event) → IsHistory H → (a b : ℕ) → (p : Precedes H a b) → (c : ℕ) × (c < p.answered) × ((k : ℕ) → PassesAt (is_call a) H k → k ≡ c)
called_before_reply H history a b p =
    let c = history.ended_after_call a p.answered (reply_passes H p.answered a p.reply.0 p.reply.1) in
    (c.0, c.1, λ k passes. history.called_once a k c.0 passes c.2)

never_itself : (H : List Event) (a : ℕ) → IsHistory H → Precedes H a a → ⊥
never_itself H a history p =
    let c = called_before_reply H history a a p in
    let same : p.called ≡ c.0 = c.2 p.called p.call in
    let early : c.0 < p.answered = c.1 in
    let before : p.answered < p.called = p.before in
    omega arith

passes_on : (H : List Event) (a b c : ℕ) → IsHistory H → Precedes H a b → Precedes H b c → Precedes H a c
passes_on H a b c history p q =
    let k = called_before_reply H history b c q in
    let same : p.called ≡ k.0 = k.2 p.called p.call in
    let early : k.0 < q.answered = k.1 in
    let first : p.answered < p.called = p.before in
    let second : q.answered < q.called = q.before in
    record { answered = p.answered; called = q.called; before = omega arith; reply = p.reply; call = q.call }

pub precedence_is_strict : PrecedenceIsStrict
precedence_is_strict = record {
  never_itself = never_itself;
  passes_on = passes_on;
  pending_before_none = λ H a b history pending p. pending.unanswered p.answered p.reply.0 p.reply.1;
}

-- ---- histories that are legal in response order

pub legal_in_response_order_is_linearizable : LegalInResponseOrderIsLinearizable
legal_in_response_order_is_linearizable conflicts H history right = (reply_order H, reply_order_explains conflicts H history right)
