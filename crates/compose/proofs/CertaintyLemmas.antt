-- Complete histories by their calls, and complete documents without an order.
use Rattle.std.proofs.Common.{ℕ, ◌≡◌, ◌≢◌, ◌<◌, ◌+◌, arith, inl, inr, List, length, refl, sym, ap, subst, ◌∙◌, Bool, false, true≢false, Option, Some, None, option_map, slice_get}
use Rattle.std.specs.Prelude.{◌↔◌, IfSome, IsTrue, option_and_then, position}
use Rattle.evidence.specs.declared.refuted.Refuted.{Refuted}
use Rattle.evidence.specs.declared.refuted.Refuted.TheVariants.{RuledOut}
use Rattle.evidence.specs.declared.certainty.Certainty.{Certainty}
use Rattle.evidence.specs.declared.certainty.Certainty.TheVariants as certainty
use Rattle.evidence.specs.Evidence.{EvidenceRefutes, Holds}
use Rattle.std.proofs.lemmas.Bool.{cases_lt}
use Rattle.std.proofs.lemmas.Option.{slice_get_within}
use Rattle.doc_register.specs.declared.reply.Reply.{Reply as Answer}
use Rattle.doc_register.specs.declared.reply.Reply.TheVariants.{Conflict}
use Rattle.doc_register.specs.declared.state.Conflicts.{Conflicts}
use Rattle.doc_register.specs.declared.state.Conflicts.TheVariants.{Maybe}
use Rattle.events.specs.declared.event.Event.{Event}
use Rattle.events.specs.declared.event.Event.TheVariants.{Call, Reply, Lost}
use Rattle.events.specs.declared.record.Rec.{Rec}
use Rattle.doc_register.specs.declared.op.Op.{Op}
use Rattle.events.specs.Events.{IsCallAt, IsHistory, IsReplyAt, documents_of, heard_of, is_call, is_same, place_of, record_at, record_from, records_of}
use Rattle.events.proofs.HistoryLemmas.{call_passes}
use Rattle.version_pair.proofs.ListLemmas.{none_is_not_some, same_some}
use Rattle.evidence.proofs.CallsByNumber.{call_none, call_there}
use Rattle.events.specs.Heard.{IsComplete as IsCompleteCall, ShowsOutcome}
use Rattle.events.specs.Order.{IsLinearizable}
use Rattle.evidence.proofs.HeardLemmas.{heard_is_reply, reply_is_heard}
use Rattle.evidence.proofs.RuledOutLemmas.{document_there}
use Rattle.doc_check.specs.NoOrders.{AreAllComplete, HasNoOrder, CompleteHaveNone}
use Rattle.places.specs.Places.{AreValid}
use Rattle.compose.specs.Certainties.{IsDocumentOf, IsWithoutOrder, Says, SaysOfCall}
use Rattle.compose.specs.Laws.{IsComplete}
use Rattle.compose.specs.Verdicts.{HasNoOrderFound}
use Rattle.covers.proofs.ListedDocuments.{documents_apart}
use Rattle.compose.proofs.VerifyLemmas.{document_found, document_none}
use Rattle.compose.proofs.Restriction.{orders_are_covers}

-- each call before the place is complete
abbrev pub AreCompleteBefore : Conflicts → List Event → ℕ → Type 0
AreCompleteBefore conflicts events place = (i : ℕ) (r : Rec) → i < place → record_at events i ≡ Some r → IsCompleteCall conflicts r

-- and so is the one at the place, if one is there
pub complete_one_more : (conflicts : Conflicts) (events : List Event) (place : ℕ) (found : Option Rec) → record_at events place ≡ found → IfSome found (IsCompleteCall conflicts)
    → AreCompleteBefore conflicts events place → AreCompleteBefore conflicts events (place + 1)
complete_one_more conflicts events place found is own before i r less at =
    elim (cases_lt i place) as (λ _. IsCompleteCall conflicts r) [
      | inl within ↦ before i r within at
      | inr past ↦
          let last : i ≡ place = omega arith in
          of_found found own (sym is ∙ subst (λ k. record_at events k ≡ Some r) last at)
    ]
  where
    of_found : (o : Option Rec) → IfSome o (IsCompleteCall conflicts) → o ≡ Some r → IsCompleteCall conflicts r
    of_found None own never = absurd (none_is_not_some r never)
    of_found (Some q) own same = subst (IsCompleteCall conflicts) (same_some q r same) own

-- all calls are complete: so is the history
pub complete_by_calls : (conflicts : Conflicts) (events : List Event) → IsHistory events → AreCompleteBefore conflicts events (length events) → IsComplete conflicts events
complete_by_calls conflicts events history all i n h d op at write =
    of_heard (heard_of events n) refl (all i (record { no = n; op = op; call_at = i; heard = heard_of events n }) (slice_get_within events i (Call h n d op) at) (ap (option_and_then (record_from events i)) at) write) where
      of_heard : (heard : Option (ℕ × Answer)) → heard_of events n ≡ heard → ShowsOutcome conflicts heard
          → (k : ℕ) × (r : Answer) × IsReplyAt events k n r × (conflicts ≡ Maybe → r ≢ Conflict)
      of_heard None is reported = absurd reported
      of_heard (Some (k, r)) is reported = (k, r, heard_is_reply events history i n h d op at k r is, reported)

-- a complete history has complete calls
pub complete_calls : (conflicts : Conflicts) (events : List Event) → IsHistory events → IsComplete conflicts events → (i : ℕ) (r : Rec) → record_at events i ≡ Some r → IsCompleteCall conflicts r
complete_calls conflicts events history complete i r = by_event (slice_get events i) refl where
  by_event : (found : Option Event) → slice_get events i ≡ found → option_and_then (record_from events i) found ≡ Some r → IsCompleteCall conflicts r
  by_event None at never = absurd (none_is_not_some r never)
  by_event (Some (Call h n d op)) at made =
      subst (IsCompleteCall conflicts) (same_some (record { no = n; op = op; call_at = i; heard = heard_of events n }) r made)
      (λ write.
      let reply = complete i n h d op at write in
      subst (ShowsOutcome conflicts) (sym (reply_is_heard events history reply.0 n reply.1 reply.2)) reply.3)
  by_event (Some (Reply n q)) at never = absurd (none_is_not_some r never)
  by_event (Some (Lost n)) at never = absurd (none_is_not_some r never)

-- a document whose complete records have no order leaves its history without one
pub document_has_none : (conflicts : Conflicts) (events : List Event) (doc : ℕ) (records : List Rec) → IsHistory events
    → option_map (λ (d : List ℕ × ℕ). records_of events d.0) (slice_get (documents_of events) doc) ≡ Some records
    → CompleteHaveNone → AreAllComplete conflicts records → HasNoOrder conflicts records → ¬ IsLinearizable conflicts events
document_has_none conflicts events doc records history is complete_have_none complete none (order, explains) =
    let there = document_there events doc records is in
    let made = orders_are_covers conflicts events order history explains in
    let entry = made.1.complete doc there.document there.listed in
    let own : records_of events entry.1.doc ≡ records = ap (records_of events) entry.3 ∙ there.same in
    complete_have_none conflicts records complete none entry.1.places
    (subst (λ rs. AreValid conflicts rs entry.1.places) own (made.1.fine.valid entry.0 entry.1 entry.2))

-- what is said of a history and of how conflicts are read is said of the same ones
pub said_of_same : (P : Conflicts → List Event → Type 0) (c d : Conflicts) (H K : List Event) → c ≡ d → H ≡ K → P c H → P d K
said_of_same P c d H K same one said = subst (P d) one (subst (λ x. P x H) same said)

-- ---- the document of a call

-- the id of a call's document is that of the event with its number
same_id : (events : List Event) (n place shard doc : ℕ) (d : List ℕ) (op : Op) → IsHistory events → IsCallAt events place n shard d op → (is : IsDocumentOf events n doc) → is.document.0 ≡ d
same_id events n place shard doc d op history here is =
    let one : is.called ≡ place = history.called_once n is.called place (call_passes events is.called n is.shard is.document.0 is.op is.call) (call_passes events place n shard d op here) in
    let moved : IsCallAt events place n is.shard is.document.0 is.op = subst (λ i. IsCallAt events i n is.shard is.document.0 is.op) one is.call in
    let same : Call is.shard n is.document.0 is.op ≡ Call shard n d op = same_some (Call is.shard n is.document.0 is.op) (Call shard n d op) (sym moved ∙ here) in
    cc

-- a document that is found by the id of the call is the call's, and only that one is
pub document_of_call : (events : List Event) (n place shard m : ℕ) (d : List ℕ) (op : Op) → IsHistory events → place_of (is_call n) events ≡ Some place → slice_get events place ≡ Some (Call shard m d op)
    → (doc : ℕ) → (position (λ e. is_same d e.0) (documents_of events) ≡ Some doc) ↔ IsDocumentOf events n doc
document_of_call events n place shard m d op history found at doc = (there, back (position (λ e. is_same d e.0) (documents_of events)) refl) where
  here : IsCallAt events place n shard d op
  here = call_there events n place m shard d op found at

  there : position (λ e. is_same d e.0) (documents_of events) ≡ Some doc → IsDocumentOf events n doc
  there is = let listed = document_found events d doc is in record { called = place; shard = shard; op = op; document = (d, listed.0); call = here; listed = listed.1 }

  back : (o : Option ℕ) → position (λ e. is_same d e.0) (documents_of events) ≡ o → IsDocumentOf events n doc → position (λ e. is_same d e.0) (documents_of events) ≡ Some doc
  back None none is =
      let same = same_id events n place shard doc d op history here is in
      absurd (document_none events d is.document.1 none (doc, is.listed ∙ ap (λ x. Some (x, is.document.1)) same))
  back (Some k) one is =
      let same = same_id events n place shard doc d op history here is in
      let listed = document_found events d k one in
      one ∙ ap (λ (x : ℕ). Some x) (documents_apart events k doc (d, listed.0) is.document listed.1 is.listed (sym same))

-- a number that no call has is of no document
pub no_document_of_call : (events : List Event) (n doc : ℕ) → place_of (is_call n) events ≡ None → ¬ IsDocumentOf events n doc
no_document_of_call events n doc none is = call_none events n is.called is.shard is.document.0 is.op none is.call

-- ---- documents without an order

-- complete records without an order are those of a document without one
pub records_without_order : (conflicts : Conflicts) (events : List Event) (doc : ℕ) (records : List Rec)
    → option_map (λ (d : List ℕ × ℕ). records_of events d.0) (slice_get (documents_of events) doc) ≡ Some records
    → AreAllComplete conflicts records → HasNoOrder conflicts records → IsWithoutOrder conflicts events doc
records_without_order conflicts events doc records is complete none =
    let there = document_there events doc records is in
    (there.document, there.listed, subst (AreAllComplete conflicts) (sym there.same) complete, subst (HasNoOrder conflicts) (sym there.same) none)

-- and the records of a document without one are complete and have none
pub order_missing : (conflicts : Conflicts) (events : List Event) (doc : ℕ) (records : List Rec)
    → option_map (λ (d : List ℕ × ℕ). records_of events d.0) (slice_get (documents_of events) doc) ≡ Some records
    → IsWithoutOrder conflicts events doc → AreAllComplete conflicts records × HasNoOrder conflicts records
order_missing conflicts events doc records is without =
    let there = document_there events doc records is in
    let one : there.document ≡ without.0 = same_some there.document without.0 (sym there.listed ∙ without.1) in
    let same : records_of events without.0.0 ≡ records = ap (λ (d : List ℕ × ℕ). records_of events d.0) (sym one) ∙ there.same in
    (subst (AreAllComplete conflicts) same without.2, subst (HasNoOrder conflicts) same without.3)

-- the document of a call is one of the history's
pub document_within : (events : List Event) (n doc : ℕ) → IsDocumentOf events n doc → doc < length (documents_of events)
document_within events n doc is = slice_get_within (documents_of events) doc is.document is.listed

-- what is answered of the one document that is found for a call is answered of the call's document
pub answer_of_call : (P : ℕ → Type 0) (events : List Event) (n doc : ℕ) (said : Bool) → ((k : ℕ) → (Some doc ≡ Some k) ↔ IsDocumentOf events n k)
    → IsTrue said ↔ P doc → IsTrue said ↔ ((k : ℕ) × IsDocumentOf events n k × P k)
answer_of_call P events n doc said found own = (
  λ yes. (doc, (found doc).0 refl, own.0 yes),
  λ other. own.1 (subst P (sym (same_some doc other.0 ((found other.0).1 other.1))) other.2),
)

-- and nothing is answered of a call without a document
pub answer_of_no_call : (P : ℕ → Type 0) (events : List Event) (n : ℕ) → ((k : ℕ) → (None ≡ Some k) ↔ IsDocumentOf events n k)
    → IsTrue false ↔ ((k : ℕ) × IsDocumentOf events n k × P k)
answer_of_no_call P events n none = (λ never. absurd (true≢false (sym never)), λ other. absurd (none_is_not_some other.0 ((none other.0).1 other.1)))

-- what is said of the call is said where there is no evidence
pub says_without : (r conflicts : Conflicts) (events same : List Event) (found : Option Refuted) (n : ℕ) (said : Certainty) → r ≡ conflicts → same ≡ events → found ≡ None
    → SaysOfCall r same n said → Says conflicts events found n said
says_without r conflicts events same found n said one other none says =
    subst (λ f. Says conflicts events f n said) (sym none) (said_of_same (λ (c : Conflicts) (es : List Event). SaysOfCall c es n said) r conflicts same events one other says)

-- ---- what is said is proved

-- all that is said but `Undecided` leaves the history without an order
pub said_is_proved : (conflicts : Conflicts) (events : List Event) (found : Option Refuted) (n : ℕ) (said : Certainty) → IsHistory events → HasNoOrderFound conflicts events
    → EvidenceRefutes → CompleteHaveNone → IfSome found (Holds conflicts events) → Says conflicts events found n said → said ≢ certainty.Undecided → ¬ IsLinearizable conflicts events
said_is_proved conflicts events (Some evidence) n said history none refutes complete_have_none holds says decided = refutes conflicts events evidence history holds
said_is_proved conflicts events None n certainty.Evident history none refutes complete_have_none holds says decided = absurd says
said_is_proved conflicts events None n certainty.ReportedRuledOut history none refutes complete_have_none holds says decided = absurd says
said_is_proved conflicts events None n certainty.RuledOut history none refutes complete_have_none holds says decided =
    refutes conflicts events (RuledOut says.2.0) history says.2.1
said_is_proved conflicts events None n certainty.Answered history none refutes complete_have_none holds says decided = none.complete says
said_is_proved conflicts events None n certainty.DocumentAnswered history none refutes complete_have_none holds says decided =
    let without = says.1.2 in
    document_has_none conflicts events says.1.0 (records_of events without.0.0) history (ap (option_map (λ (d : List ℕ × ℕ). records_of events d.0)) without.1) complete_have_none without.2 without.3
said_is_proved conflicts events None n certainty.Undecided history none refutes complete_have_none holds says decided = absurd (decided refl)
