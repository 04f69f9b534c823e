-- Pairs that the documents of a history are known to have.
use Rattle.std.proofs.Common.{ℕ, ◌≡◌, ◌==◌, List, refl, sym, ap, subst, ◌∙◌, true, true≢false, Option, Some, None, option_map, slice_get, eqb-true}
use Rattle.std.proofs.lemmas.Bool.{and_from, and_parts, eq-eqb}
use Rattle.version_pair.specs.declared.pair.Pair.{Pair}
use Rattle.version_pair.proofs.ListLemmas.{none_is_not_some, same_some}
use Rattle.events.specs.declared.event.Event.{Event}
use Rattle.events.specs.declared.record.Rec.{Rec}
use Rattle.events.specs.Events.{IsHistory, documents_of, records_of}
use Rattle.events.proofs.CalledDocuments.{document_called}
use Rattle.events.proofs.ListedLemmas.{distinct_place, documents_distinct}
use Rattle.deciding.specs.Branches.{is_among}
use Rattle.deciding.specs.Laws.{IsElsewhere}
use Rattle.deciding.specs.Reported.{IsKnown, known_pairs}
use Rattle.deciding.proofs.OrderedPositions.{among_known, known_among}
use Rattle.evidence.specs.declared.known_pairs.KnownPair.{KnownPair}
use Rattle.evidence.specs.aids.KnownPairs.{AreKnownOf, IsOther, is_known_in, is_known_of}

-- what is known of the document of an entry
pub record IsKnownOf (events : List Event) (k : KnownPair) : Type 0 where
  pub document : List ℕ × ℕ
  pub listed : slice_get (documents_of events) k.doc ≡ Some document
  pub shard : document.1 ≡ k.shard
  pub known : IsKnown (records_of events document.0) k.pair

pub known_of : (events : List Event) (k : KnownPair) → is_known_of events k ≡ true → IsKnownOf events k
known_of events k is = by_found (slice_get (documents_of events) k.doc) refl is where
  by_found : (found : Option (List ℕ × ℕ)) → slice_get (documents_of events) k.doc ≡ found → is_known_in events k found ≡ true → IsKnownOf events k
  by_found None at never = absurd (true≢false (sym never))
  by_found (Some d) at is =
      let parts = and_parts (d.1 == k.shard) (is_among (known_pairs (records_of events d.0)) k.pair) is in
      record { document = d; listed = at; shard = eqb-true d.1 k.shard parts.0; known = among_known (records_of events d.0) k.pair parts.1 }

-- a pair of the list of a document's known pairs is known of it
pub is_of : (events : List Event) (doc shard i : ℕ) (records : List Rec) (q : Pair) → option_map (λ (d : List ℕ × ℕ). d.1) (slice_get (documents_of events) doc) ≡ Some shard
    → option_map (λ (d : List ℕ × ℕ). records_of events d.0) (slice_get (documents_of events) doc) ≡ Some records → slice_get (known_pairs records) i ≡ Some q
    → is_known_of events (record { shard = shard; pair = q; doc = doc }) ≡ true
is_of events doc shard i records q of_shard of_records at = by_found (slice_get (documents_of events) doc) of_shard of_records where
  k : KnownPair
  k = record { shard = shard; pair = q; doc = doc }

  by_found : (found : Option (List ℕ × ℕ)) → option_map (λ (d : List ℕ × ℕ). d.1) found ≡ Some shard → option_map (λ (d : List ℕ × ℕ). records_of events d.0) found ≡ Some records
      → is_known_in events k found ≡ true
  by_found None never is = absurd (none_is_not_some shard never)
  by_found (Some d) same is =
      let known : IsKnown (records_of events d.0) q = subst (λ rs. IsKnown rs q) (sym (same_some (records_of events d.0) records is)) (i, at) in
      and_from (d.1 == shard) (is_among (known_pairs (records_of events d.0)) q) (eq-eqb d.1 shard (same_some d.1 shard same)) (known_among (records_of events d.0) q known)

-- a pair of another document of the shard is elsewhere
pub other_elsewhere : (events : List Event) (known : List KnownPair) (doc shard : ℕ) (q : Pair) (d : List ℕ × ℕ) → IsHistory events → AreKnownOf events known
    → option_map (λ (e : List ℕ × ℕ). e.1) (slice_get (documents_of events) doc) ≡ Some shard → slice_get (documents_of events) doc ≡ Some d → IsOther known shard doc q
    → IsElsewhere events d.0 q
other_elsewhere events known doc shard q d history are of_shard at other = record {
  other = k.document.0;
  differs = λ same. other.differs (distinct_place (documents_of events) other.entry.doc doc k.document d (documents_distinct events) k.listed at same);
  shard = λ i j n m h g a b first second. (
      let one = document_called events d (doc, at) in
      let two = document_called events k.document (other.entry.doc, k.listed) in
      let left : h ≡ d.1 = history.one_shard i one.0 n one.1 h d.1 d.0 a one.2 first one.3 in
      let right : g ≡ k.document.1 = history.one_shard j two.0 m two.1 g k.document.1 k.document.0 b two.2 second two.3 in
      left ∙ (own ∙ (sym other.same_shard ∙ (sym k.shard ∙ sym right)))
      );
  known = subst (IsKnown (records_of events k.document.0)) other.has_pair k.known;
} where
  k : IsKnownOf events other.entry
  k = known_of events other.entry (are other.index other.entry other.at)

  own : d.1 ≡ shard
  own = same_some d.1 shard (sym (ap (option_map (λ (e : List ℕ × ℕ). e.1)) at) ∙ of_shard)
