-- The records of a document of a history are in order.
use Rattle.std.proofs.Common.{ℕ, ◌≡◌, ◌<◌, List, sym, ap, subst, ◌∙◌, Some, slice_get}
use Rattle.doc_register.specs.declared.op.Op.{Op}
use Rattle.doc_register.specs.declared.reply.Reply.{Reply as Answer}
use Rattle.events.specs.declared.event.Event.{Event}
use Rattle.events.specs.declared.event.Event.TheVariants.{Call, Reply}
use Rattle.events.specs.declared.record.Rec.{Rec}
use Rattle.events.specs.Events.{IsHistory, IsReplyAt, PassesAt, is_call, records_of}
use Rattle.events.proofs.HistoryLemmas.{call_passes, reply_passes}
use Rattle.events.proofs.RecordLaws.{split_by_document}
use Rattle.deciding.specs.Records.{AreInOrder}

not_both : {m n h : ℕ} {d : List ℕ} {op : Op} {a : Answer} → Some (Reply m a) ≡ Some (Call h n d op) → ⊥
not_both is = cc

same_number : {m n : ℕ} {a b : Answer} → Some (Reply m a) ≡ Some (Reply n b) → m ≡ n
same_number is = cc

pub records_in_order : (events : List Event) (d : List ℕ) → IsHistory events → AreInOrder (records_of events d)
records_in_order events d history = record {
  calls = λ i j r s at bt less. (split_by_document events history).in_order d i j r s at bt less;
  replies = λ i r y reply at heard. (
      let call = (split_by_document events history).of_call d i r at in
      let earlier = history.ended_after_call r.no y (reply_passes events y r.no reply (replied i r y reply at heard)) in
      let same : earlier.0 ≡ r.call_at = history.called_once r.no earlier.0 r.call_at earlier.2 (call_passes events r.call_at r.no call.0 d r.op call.1) in
      subst (λ n. n < y) same earlier.1
      );
  apart = λ i j r s y reply at bt heard same. (
      let call = (split_by_document events history).of_call d j s bt in
      not_both (sym (replied i r y reply at heard) ∙ (ap (slice_get events) (sym same) ∙ call.1))
      );
  once = λ i j r s y a b at bt heard other. (
      let o = (split_by_document events history).of_call d i r at in
      let p = (split_by_document events history).of_call d j s bt in
      let number : r.no ≡ s.no = same_number (sym (replied i r y a at heard) ∙ replied j s y b bt other) in
      let place : r.call_at ≡ s.call_at = history.called_once r.no r.call_at s.call_at (call_passes events r.call_at r.no o.0 d r.op o.1)
      (subst (λ n. PassesAt (is_call n) events s.call_at) (sym number) (call_passes events s.call_at s.no p.0 d s.op p.1)) in
      ((split_by_document events history).once d d i j r s at bt place).1
      );
} where
  replied : (i : ℕ) (r : Rec) (y : ℕ) (reply : Answer) → slice_get (records_of events d) i ≡ Some r → r.heard ≡ Some (y, reply) → IsReplyAt events y r.no reply
  replied i r y reply at heard = ((split_by_document events history).heard d i r at y reply).0 heard
