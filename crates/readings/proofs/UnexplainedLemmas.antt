-- The documents of a history are judged one after another.
use Rattle.std.proofs.Common.{ℕ, ◌≡◌, ◌<◌, ◌≤◌, ◌+◌, ◌⊎◌, inl, inr, List, refl, sym, ap, subst, ◌∙◌, arith, Option, Some, None, length, map, option_map, slice_get}
use Rattle.std.specs.Prelude.{MatchOption}
use Rattle.std.proofs.lemmas.Bool.{cases_lt}
use Rattle.std.proofs.lemmas.Option.{slice_get_within}
use Rattle.version_pair.proofs.ListLemmas.{none_is_not_some, same_some}
use Rattle.doc_register.specs.declared.op.Op.{Op}
use Rattle.events.specs.declared.event.Event.{Event}
use Rattle.events.specs.declared.record.Rec.{Rec}
use Rattle.events.specs.Events.{IsCallAt, IsHistory, documents_of, records_of}
use Rattle.events.proofs.CalledDocuments.{call_document}
use Rattle.readings.specs.Gets.{AreGetsExplained, IsUnexplainedGet}
use Rattle.history.specs.Laws.{AreLost}
use Rattle.readings.specs.Reading.{heeded, heeded_events, without_void}
use Rattle.readings.specs.declared.reading.Reading.{Reading}
use Rattle.readings.specs.declared.unexplained.UnexplainedGet.{UnexplainedGet}
use Rattle.readings.specs.declared.document.OffendingGet.{OffendingGet}
use Rattle.readings.specs.aids.Records.{AreExplained, Offends}
use Rattle.readings.specs.aids.Unexplained.{IsJudgedSoFar, heeded_record}
use Rattle.readings.proofs.GetLemmas.{explained_gets}
use Rattle.readings.proofs.HeededRecords.{records_heeded}
use Rattle.readings.proofs.ReadingLaws.{heeded_history}
use Rattle.readings.proofs.ShownLemmas.{unmasked_call, void_mask}

-- the document whose records were taken, with void calls read as gets
pub record HasHeeded (reading : Reading) (voids : List ℕ) (events : List Event) (doc : ℕ) (read : List Rec) : Type 0 where
  pub document : List ℕ × ℕ
  pub listed : slice_get (documents_of events) doc ≡ Some document
  pub same : records_of (heeded_events reading voids events) document.0 ≡ read

pub heeded_there : (reading : Reading) (voids : List ℕ) (events : List Event) (doc : ℕ) (records read : List Rec)
    → option_map (λ (d : List ℕ × ℕ). records_of events d.0) (slice_get (documents_of events) doc) ≡ Some records → read ≡ map (heeded_record (heeded reading.failed voids)) records
    → HasHeeded reading voids events doc read
heeded_there reading voids events doc records read is same = by_found (slice_get (documents_of events) doc) refl is where
  by_found : (found : Option (List ℕ × ℕ)) → slice_get (documents_of events) doc ≡ found → option_map (λ (d : List ℕ × ℕ). records_of events d.0) found ≡ Some records → HasHeeded reading voids events doc read
  by_found None at never = absurd (none_is_not_some records never)
  by_found (Some d) at own = record {
    document = d;
    listed = at;
    same = records_heeded (heeded reading.failed voids) events d.0 ∙ (ap (map (heeded_record (heeded reading.failed voids))) (same_some (records_of events d.0) records own) ∙ sym same);
  }

-- a document in which no get was found that isn't explained
pub explained_if : (reading : Reading) (records own : List Rec) (found : Option OffendingGet) → MatchOption found (AreExplained reading records) (λ get. Offends reading records get.rec get.offence)
    → found ≡ None → records ≡ own → AreExplained reading own
explained_if reading records own found judged is same =
    subst (AreExplained reading) same (subst (λ (f : Option OffendingGet). MatchOption f (AreExplained reading records) (λ get. Offends reading records get.rec get.offence)) is judged)

-- a document more is explained
pub explained_more : (reading : Reading) (voids : List ℕ) (events : List Event) (doc : ℕ) (read : List Rec) (first : Option UnexplainedGet) → HasHeeded reading voids events doc read
    → AreExplained reading read → IsJudgedSoFar reading voids events doc first → IsJudgedSoFar reading voids events (doc + 1) first
explained_more reading voids events doc read None there explained before = λ k d below at. elim (cases_lt k doc) as (λ _. AreExplained reading (records_of (heeded_events reading voids events) d.0)) [
  | inl early ↦ before k d early at
  | inr late ↦ (let here : k ≡ doc = omega (arith, below, late) in
      let same : there.document ≡ d = same_some there.document d (sym there.listed ∙ (ap (slice_get (documents_of events)) (sym here) ∙ at)) in
      subst (λ (x : List ℕ × ℕ). AreExplained reading (records_of (heeded_events reading voids events) x.0)) same (subst (AreExplained reading) (sym there.same) explained))
]
explained_more reading voids events doc read (Some get) there explained before = before

-- a get that isn't explained is kept, or an earlier one
pub unexplained_more : (reading : Reading) (voids : List ℕ) (events : List Event) (doc n : ℕ) (first : Option UnexplainedGet) (get kept : UnexplainedGet) → IsUnexplainedGet reading (heeded_events reading voids events) get.evidence
    → (kept ≡ get) ⊎ (first ≡ Some kept) → IsJudgedSoFar reading voids events doc first → IsJudgedSoFar reading voids events n (Some kept)
unexplained_more reading voids events doc n first get kept is (inl same) before = subst (λ (g : UnexplainedGet). IsUnexplainedGet reading (heeded_events reading voids events) g.evidence) (sym same) is
unexplained_more reading voids events doc n first get kept is (inr same) before = subst (IsJudgedSoFar reading voids events doc) same before

-- once all documents are judged, so are all gets
pub judged_all : (reading : Reading) (voids : List ℕ) (events : List Event) (doc : ℕ) (first : Option UnexplainedGet) → IsHistory events → AreLost events voids → length (documents_of events) ≤ doc
    → IsJudgedSoFar reading voids events doc first
    → MatchOption first (AreGetsExplained reading (heeded_events reading voids events)) (λ get. IsUnexplainedGet reading (heeded_events reading voids events) get.evidence)
judged_all reading voids events doc None history void all judged = explained_gets reading (heeded_events reading voids events) (heeded_history reading voids events history void) (λ d i n h op call.
    let own = unmasked_call (without_void (heeded reading.failed voids)) (void_mask (heeded reading.failed voids)) events i n h d op call in
    let there = call_document events i n h d own.0 own.1 in
    let within = slice_get_within (documents_of events) there.1.0 (d, there.0) there.1.1 in
    judged there.1.0 (d, there.0) (omega arith) there.1.1)
judged_all reading voids events doc (Some get) history void all judged = judged
