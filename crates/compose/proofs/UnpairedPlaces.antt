-- Places that give no pair: those of answered calls whose reply says whether they were performed, and those of calls that hide none.
use Rattle.std.proofs.Common.{ℕ, ◌≡◌, ◌⊎◌, inl, inr, List, refl, sym, ap, subst, ◌∙◌, true, Option, Some, None, true≢false}
use Rattle.version_pair.specs.declared.pair.Pair.{Pair}
use Rattle.doc_register.specs.declared.op.Op.{Op}
use Rattle.doc_register.specs.declared.op.Op.TheVariants.{Get, Index, Delete, Create}
use Rattle.doc_register.specs.declared.reply.Reply.{Reply as Answer}
use Rattle.doc_register.specs.declared.reply.Reply.TheVariants.{Indexed, Deleted, Found, Missing, Conflict}
use Rattle.doc_register.specs.declared.state.Conflicts.{Conflicts}
use Rattle.doc_register.specs.declared.state.Conflicts.TheVariants.{Plain, Maybe}
use Rattle.doc_register.specs.Register.{fits}
use Rattle.doc_register.specs.Run.{Entry}
use Rattle.events.specs.declared.event.Event.{Event}
use Rattle.events.specs.declared.record.Rec.{Rec}
use Rattle.events.specs.Events.{IsHistory, IsReplyAt, heard_of, records_of}
use Rattle.events.specs.Laws.{IsRecordAt}
use Rattle.events.specs.Order.{reply_order}
use Rattle.version_pair.proofs.ListLemmas.{none_is_not_some}
use Rattle.events.proofs.OrderLemmas.{replied_of}
use Rattle.events.proofs.RecordLaws.{split_by_document}
use Rattle.places.specs.declared.place.Place.{Place}
use Rattle.places.specs.Places.{AreValid, GivesAsMay}
use Rattle.places.specs.Laws.{ArePlacedBy, SaysOfEntry}
use Rattle.doc_check.specs.NoOrders.{AreUnpaired}
use Rattle.events.specs.Heard.{ShowsOutcome}
use Rattle.compose.specs.Laws.{IsComplete, restricted}
use Rattle.evidence.proofs.HeardLemmas.{record_heard, reply_is_heard}
use Rattle.compose.proofs.RestrictedOrders.{restricted_from}
use Rattle.places.proofs.DocumentLaws.{reports_of}

-- ---- complete histories

-- an operation is a get, or a write
write_of : (op : Op) → (op ≡ Get) ⊎ (op ≡ Get → ⊥)
write_of Get = inl refl
write_of (Index k c) = inr (λ same. (let impossible : Index k c ≡ Get = same in cc))
write_of (Delete c) = inr (λ same. (let impossible : Delete c ≡ Get = same in cc))
write_of (Create k) = inr (λ same. (let impossible : Create k ≡ Get = same in cc))

-- the record of a write of a complete history has a reply that says whether it was performed
complete_reported : (conflicts : Conflicts) (events : List Event) (d : List ℕ) → IsHistory events → IsComplete conflicts events
    → (k : ℕ) (r : Rec) → IsRecordAt events d k r → (r.op ≡ Get → ⊥) → ShowsOutcome conflicts r.heard
complete_reported conflicts events d history complete k r at write =
    let split = split_by_document events history in
    let call = split.of_call d k r at in
    let reply = complete r.call_at r.no call.0 d r.op call.1 write in
    subst (ShowsOutcome conflicts) (sym ((split.heard d k r at reply.0 reply.1).1 reply.2)) reply.3

-- a get has no conflict for a reply
get_fits : (r : Answer) → fits Get r ≡ true → r ≡ Conflict → ⊥
get_fits r fit is = true≢false (sym fit ∙ ap (fits Get) is)

-- the place of a call whose reply says that, or of a get, gives no pair
gives_none : (conflicts : Conflicts) (op : Op) (heard : Option (ℕ × Answer)) (pair : Option Pair) → ((op ≡ Get → ⊥) → ShowsOutcome conflicts heard) → ((op ≡ Get) × (heard ≡ None) → ⊥)
    → ((x : ℕ × Answer) → op ≡ Get → heard ≡ Some x → x.1 ≡ Conflict → ⊥) → GivesAsMay conflicts heard pair → pair ≡ None
gives_none conflicts op None pair reported known shown gives =
    elim (write_of op) as (λ _. pair ≡ None) [ inl get ↦ absurd (known (get, refl)) | inr write ↦ absurd (reported write) ]
gives_none conflicts op (Some (at, Indexed q created)) pair reported known shown gives = gives
gives_none conflicts op (Some (at, Deleted q found)) pair reported known shown gives = gives
gives_none conflicts op (Some (at, Found q k)) pair reported known shown gives = gives
gives_none conflicts op (Some (at, Missing)) pair reported known shown gives = gives
gives_none Plain op (Some (at, Conflict)) pair reported known shown gives = gives refl
gives_none Maybe op (Some (at, Conflict)) pair reported known shown gives =
    elim (write_of op) as (λ _. pair ≡ None) [ inl get ↦ absurd (shown (at, Conflict) get refl refl) | inr write ↦ absurd (reported write refl refl) ]

-- valid places of a document of a complete history give no pair
pub complete_unpaired : (conflicts : Conflicts) (events : List Event) (d : List ℕ) (places : List Place) → IsHistory events → IsComplete conflicts events
    → AreValid conflicts (records_of events d) places → AreUnpaired places
complete_unpaired conflicts events d places history complete valid i p at =
    let known = valid.right.known i p at in
    let r : Rec = known.0 in
    let split = split_by_document events history in
    let call = split.of_call d p.rec r known.1 in
    gives_none conflicts r.op r.heard p.pair (complete_reported conflicts events d history complete p.rec r known.1) known.2
    (λ x get heard conflict.
    let reply : IsReplyAt events x.0 r.no x.1 = (split.heard d p.rec r known.1 x.0 x.1).0 heard in
    get_fits x.1 (subst (λ o. fits o x.1 ≡ true) get (history.replies_fit r.no x.0 r.call_at call.0 d r.op x.1 reply call.1)) conflict)
    (valid.right.pairs i p r at known.1)

-- ---- the order of the replies

-- the place of an answered call that hides no pair gives no pair
hidden_none : (heard : Option (ℕ × Answer)) (pair : Option Pair) (e : Entry) (x : ℕ × Answer) → heard ≡ Some x → SaysOfEntry heard pair e → e.hidden ≡ None → pair ≡ None
hidden_none None pair e x is reports none = absurd (none_is_not_some x is)
hidden_none (Some y) pair e x is reports none = sym reports.1 ∙ none

-- places that say of the order of the replies give no pair
pub replies_unpaired : (events : List Event) (d : List ℕ) (places : List Place) → IsHistory events
    → ArePlacedBy (records_of events d) places (restricted events d (reply_order events)) → AreUnpaired places
replies_unpaired events d places history placed i p at =
    let reported = reports_of (records_of events d) places (restricted events d (reply_order events)) i p placed at in
    let s = restricted_from events d (reply_order events) i reported.0 reported.1 in
    let reply = replied_of events s.0 reported.0 s.1.at in
    let heard : reported.2.named.heard ≡ Some (reply.0, reported.0.entry.reply) =
    record_heard events d p.rec reported.2.named reported.2.names
    ∙ (ap (heard_of events) (sym reported.2.number) ∙ reply_is_heard events history reply.0 reported.0.no reported.0.entry.reply reply.1.reply) in
    hidden_none reported.2.named.heard p.pair reported.0.entry (reply.0, reported.0.entry.reply) heard reported.2.reports reply.1.shown
