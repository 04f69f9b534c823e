-- What was heard of a call is its reply.
use Rattle.std.proofs.Common.{ℕ, ◌≡◌, List, refl, sym, ap, subst, ◌∙◌, Option, Some, None, slice_get}
use Rattle.std.specs.Prelude.{option_and_then}
use Rattle.doc_register.specs.declared.op.Op.{Op}
use Rattle.doc_register.specs.declared.reply.Reply.{Reply as Answer}
use Rattle.events.specs.declared.event.Event.{Event}
use Rattle.events.specs.declared.event.Event.TheVariants.{Call, Reply, Lost}
use Rattle.events.specs.declared.record.Rec.{Rec}
use Rattle.events.specs.Events.{IsCallAt, IsHistory, IsReplyAt, heard_of, is_call_of, places_from, record_at, record_from}
use Rattle.events.specs.Laws.{IsRecordAt}
use Rattle.events.proofs.HistoryLemmas.{answered_call}
use Rattle.version_pair.proofs.ListLemmas.{made_of, none_is_not_some, same_some}
use Rattle.events.proofs.RecordLaws.{split_by_document}
use Rattle.events.proofs.EventLemmas.{same_call}

-- the record that is made at a place says what was heard of its number
record_made : (events : List Event) (i : ℕ) (r : Rec) → record_at events i ≡ Some r → r.heard ≡ heard_of events r.no
record_made events i r made = by_event (slice_get events i) made where
  by_event : (o : Option Event) → option_and_then (record_from events i) o ≡ Some r → r.heard ≡ heard_of events r.no
  by_event None made = absurd (none_is_not_some r made)
  by_event (Some (Call h n d op)) made =
      subst (λ s. s.heard ≡ heard_of events s.no) (same_some (record { no = n; op = op; call_at = i; heard = heard_of events n }) r made) refl
  by_event (Some (Reply n a)) made = absurd (none_is_not_some r made)
  by_event (Some (Lost n)) made = absurd (none_is_not_some r made)

-- a record says what was heard of its number
pub record_heard : (events : List Event) (d : List ℕ) (k : ℕ) (r : Rec) → IsRecordAt events d k r → r.heard ≡ heard_of events r.no
record_heard events d k r at =
    let m = made_of (record_at events) (places_from 0 (is_call_of d) events) k r at in
    record_made events m.1.from r m.1.made

-- the record of a call
abbrev HasRecord : List Event → List ℕ → ℕ → Type 0
HasRecord events d n = (k : ℕ) × (r : Rec) × IsRecordAt events d k r × (r.no ≡ n)

-- each call has a record
recorded : (events : List Event) → IsHistory events → (i n h : ℕ) (d : List ℕ) (op : Op) → IsCallAt events i n h d op → HasRecord events d n
recorded events history i n h d op at =
    let split = split_by_document events history in
    let rec = split.recorded i n h d op at in
    let of = split.of_call d rec.0 rec.1 rec.2 in
    let same = same_call events i rec.1.no n of.0 h d d rec.1.op op (subst (λ c. IsCallAt events c rec.1.no of.0 d rec.1.op) rec.3 of.1) at in
    (rec.0, rec.1, rec.2, same.0)

-- what was heard of a call is a reply to it
pub heard_is_reply : (events : List Event) → IsHistory events → (i n h : ℕ) (d : List ℕ) (op : Op) → IsCallAt events i n h d op
    → (p : ℕ) (a : Answer) → heard_of events n ≡ Some (p, a) → IsReplyAt events p n a
heard_is_reply events history i n h d op at p a heard =
    let rec = recorded events history i n h d op at in
    let reported : rec.1.heard ≡ Some (p, a) = record_heard events d rec.0 rec.1 rec.2 ∙ (ap (heard_of events) rec.3 ∙ heard) in
    subst (λ m. IsReplyAt events p m a) rec.3 (((split_by_document events history).heard d rec.0 rec.1 rec.2 p a).0 reported)

-- a reply is heard
pub reply_is_heard : (events : List Event) → IsHistory events → (p n : ℕ) (a : Answer) → IsReplyAt events p n a → heard_of events n ≡ Some (p, a)
reply_is_heard events history p n a reply =
    let call = answered_call events history p n a reply in
    let rec = recorded events history call.0 n call.1 call.2 call.3 call.4 in
    let reported : rec.1.heard ≡ Some (p, a) = ((split_by_document events history).heard call.2 rec.0 rec.1 rec.2 p a).1 (subst (λ m. IsReplyAt events p m a) (sym rec.3) reply) in
    ap (heard_of events) (sym rec.3) ∙ (sym (record_heard events call.2 rec.0 rec.1 rec.2) ∙ reported)
