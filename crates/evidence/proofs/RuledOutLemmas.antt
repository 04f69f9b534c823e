-- Documents that are ruled out, by their numbers.
use Rattle.std.proofs.Common.{ℕ, ◌≡◌, List, refl, sym, subst, ◌∙◌, Bool, true≢false, Option, Some, None, option_map, slice_get}
use Rattle.std.specs.Prelude.{IfOk, IfSome, IsTrue, Result, Ok, Err, is_some}
use Rattle.doc_register.specs.declared.state.Conflicts.{Conflicts}
use Rattle.events.specs.declared.event.Event.{Event}
use Rattle.events.specs.declared.record.Rec.{Rec}
use Rattle.events.specs.Events.{IsHistory, documents_of, records_of}
use Rattle.version_pair.proofs.ListLemmas.{none_is_not_some, same_some}
use Rattle.deciding.specs.Records.{AreInOrder}
use Rattle.version_pair.specs.declared.pair.Pair.{Pair}
use Rattle.deciding.specs.Tables.{IsRuledOut}
use Rattle.deciding.proofs.RecordOrder.{records_in_order}
use Rattle.evidence.specs.Evidence.{IsDocumentRuledOut}
use Rattle.evidence.specs.aids.RuledOutCalls.{AreElsewhere, AreJudgedOf, IsRuledOutDocument}

-- the records of the document of a number
pub record HasRecords (events : List Event) (doc : ℕ) (records : List Rec) : Type 0 where
  pub document : List ℕ × ℕ
  pub listed : slice_get (documents_of events) doc ≡ Some document
  pub same : records_of events document.0 ≡ records

pub document_there : (events : List Event) (doc : ℕ) (records : List Rec) → option_map (λ (d : List ℕ × ℕ). records_of events d.0) (slice_get (documents_of events) doc) ≡ Some records
    → HasRecords events doc records
document_there events doc records is = by_found (slice_get (documents_of events) doc) refl is where
  by_found : (found : Option (List ℕ × ℕ)) → slice_get (documents_of events) doc ≡ found → option_map (λ (d : List ℕ × ℕ). records_of events d.0) found ≡ Some records → HasRecords events doc records
  by_found None at never = absurd (none_is_not_some records never)
  by_found (Some d) at same = record { document = d; listed = at; same = same_some (records_of events d.0) records same }

-- its records are in order
pub records_ready : (events : List Event) (doc : ℕ) (records : List Rec) → IsHistory events
    → option_map (λ (d : List ℕ × ℕ). records_of events d.0) (slice_get (documents_of events) doc) ≡ Some records → AreInOrder records
records_ready events doc records history is =
    let x = document_there events doc records is in
    subst AreInOrder x.same (records_in_order events x.document.0 history)

-- if its records are ruled out, it is
pub found_call : (conflicts : Conflicts) (events : List Event) (doc n : ℕ) (records : List Rec) (elsewhere : Pair → Bool)
    → option_map (λ (d : List ℕ × ℕ). records_of events d.0) (slice_get (documents_of events) doc) ≡ Some records → AreElsewhere events doc elsewhere
    → IsRuledOut (record { conflicts = conflicts; elsewhere = elsewhere }) records n → IsRuledOutDocument conflicts events doc n
found_call conflicts events doc n records elsewhere is others ruled =
    let x = document_there events doc records is in (
      record {
        doc = doc;
        document = x.document;
        listed = x.listed;
        elsewhere = elsewhere;
        apart = λ q held. others q held x.document x.listed;
        ruled_out = subst (λ rs. IsRuledOut (record { conflicts = conflicts; elsewhere = elsewhere }) rs n) (sym x.same) ruled;
      },
      refl,
    )

pub found_document : (conflicts : Conflicts) (events : List Event) (doc : ℕ) (records : List Rec) (elsewhere : Pair → Bool) (found : Option ℕ)
    → AreJudgedOf events doc records elsewhere → IfSome found (IsRuledOut (record { conflicts = conflicts; elsewhere = elsewhere }) records) → IfSome found (IsRuledOutDocument conflicts events doc)
unfolding found_call
found_document conflicts events doc records elsewhere None judged ruled = tt
found_document conflicts events doc records elsewhere (Some n) judged ruled = found_call conflicts events doc n records elsewhere judged.are judged.others ruled

-- a document is ruled out if a call was found at which it is
pub ruled_out_if_found : (conflicts : Conflicts) (events : List Event) (doc : ℕ) (found : Option ℕ) (said : Bool) → said ≡ is_some found
    → IfSome found (IsRuledOutDocument conflicts events doc) → IsTrue said → IsDocumentRuledOut conflicts events doc
ruled_out_if_found conflicts events doc None said is none said_so = absurd (true≢false (sym said_so ∙ is))
ruled_out_if_found conflicts events doc (Some n) said is some said_so = (n, some.0, some.1)

-- what holds holds of whatever is made
pub made_if_found : {A E : Type 0} {P : Type 0} (made : Result (Option A) E) → P → IfOk made (λ found. IfSome found (λ _. P))
made_if_found (Ok (Some x)) is = is
made_if_found (Ok None) is = tt
made_if_found (Err e) is = tt
