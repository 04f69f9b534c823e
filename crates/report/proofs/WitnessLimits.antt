-- The text of witnesses that cover a history can hold them all.
use Rattle.std.proofs.Common.{ℕ, zero, suc, ◌≡◌, ◌<◌, ◌≤◌, ◌+◌, ◌^◌, List, [], ◌∷◌, length, map, All, refl, sym, ap, ◌∙◌, arith, Bool, true, false, Some, slice_get}
use Rattle.std.specs.Prelude.{fold, if◌then◌else◌}
use Rattle.std.proofs.lemmas.List.Elements.{All-cons, All-nil}
use Rattle.std.proofs.lemmas.Option.{slice_get_within}
use Rattle.doc_register.specs.declared.state.Conflicts.{Conflicts}
use Rattle.events.specs.declared.event.Event.{Event}
use Rattle.events.specs.declared.event.Event.TheVariants.{Call, Reply, Lost}
use Rattle.events.specs.Events.{IsHistory, documents_of, is_same, records_of, with_document, with_event}
use Rattle.events.specs.Refusal.{most_events}
use Rattle.events.proofs.CountLemmas.{AreOnce, calls_within, distinct_within, fewer_records}
use Rattle.version_pair.proofs.ListLemmas.{none_is_not_some, same_some}
use Rattle.places.specs.Documents.{DocPlaces, witness_places}
use Rattle.witness.specs.Text.{AreWithinLimits, items_in}
use Rattle.places.specs.Witness.{Witness}
use Rattle.places.proofs.PlaceLemmas.{small_records}
use Rattle.covers.specs.Covers.{AreValidEntries, AreWitnesses, IsKnown}
use Rattle.compose.specs.Laws.{places_in}
use Rattle.compose.proofs.CountedPlaces.{places_within}

-- ---- no more documents than events

with_one_more : (ds : List (List ℕ × ℕ)) (d : List ℕ) (h : ℕ) → length (with_document ds d h) ≤ suc (length ds)
with_one_more [] d h = omega arith
with_one_more (e ∷ es) d h = by_test (is_same d e.0) (with_one_more es d h) where
  by_test : (b : Bool) → length (with_document es d h) ≤ suc (length es) → length (if b then e ∷ es else e ∷ with_document es d h) ≤ suc (suc (length es))
  by_test true few = omega arith
  by_test false few = omega arith

with_its_own : (ds : List (List ℕ × ℕ)) (x : Event) → length (with_event ds x) ≤ suc (length ds)
with_its_own ds (Call h n d op) = with_one_more ds d h
with_its_own ds (Reply n r) = omega arith
with_its_own ds (Lost n) = omega arith

with_all : (xs : List Event) (ds : List (List ℕ × ℕ)) → length (fold with_event ds xs) ≤ length ds + length xs
with_all [] ds = omega arith
with_all (x ∷ xs) ds =
    let one : length (with_event ds x) ≤ suc (length ds) = with_its_own ds x in
    let rest : length (fold with_event (with_event ds x) xs) ≤ length (with_event ds x) + length xs = with_all xs (with_event ds x) in
    omega arith

documents_within : (events : List Event) → length (documents_of events) ≤ length events
documents_within events = let few : length (fold with_event [] events) ≤ 0 + length events = with_all events [] in omega arith

-- ---- no more entries than documents

-- the numbers are those of the entries' documents, one by one
abbrev AreNumbers : List Event → List DocPlaces → List ℕ → Type 0
AreNumbers events es ks = (i k : ℕ) → slice_get ks i ≡ Some k → (e : DocPlaces) × (h : ℕ) × (slice_get es i ≡ Some e) × (slice_get (documents_of events) k ≡ Some (e.doc, h))

one_more : (events : List Event) (e : DocPlaces) (es : List DocPlaces) (n h : ℕ) (ks : List ℕ) → slice_get (documents_of events) n ≡ Some (e.doc, h) → AreNumbers events es ks
    → AreNumbers events (e ∷ es) (n ∷ ks)
one_more events e es n h ks number are zero k at = (e, h, refl, ap (slice_get (documents_of events)) (sym (same_some n k at)) ∙ number)
one_more events e es n h ks number are (suc i) k at = are i k at

numbered : (events : List Event) (es : List DocPlaces) → ((i : ℕ) (e : DocPlaces) → slice_get es i ≡ Some e → IsKnown events e)
    → (ks : List ℕ) × (length ks ≡ length es) × AreNumbers events es ks
numbered events [] known = ([], refl, λ i k at. absurd (none_is_not_some k at))
numbered events (e ∷ es) known =
    let here = known 0 e refl in
    let rest = numbered events es (λ i f at. known (suc i) f at) in
    (here.1.0 ∷ rest.0, ap suc rest.1, one_more events e es here.1.0 here.0 rest.0 here.1.1 rest.2)

entries_within : (conflicts : Conflicts) (events : List Event) (es : List DocPlaces) → AreValidEntries conflicts events es → length es ≤ length (documents_of events)
entries_within conflicts events es fine =
    let ks = numbered events es fine.known in
    let few : length ks.0 ≤ length (documents_of events) = distinct_within ks.0 (length (documents_of events)) (once ks.0 ks.2) (below ks.0 ks.2) in
    let size : length ks.0 ≡ length es = ks.1 in
    omega (arith, few, size) where
      once : (ks : List ℕ) → AreNumbers events es ks → AreOnce ks
      once ks are i j k at bt =
          let one = are i k at in
          let other = are j k bt in
          let same : (one.0.doc, one.1) ≡ (other.0.doc, other.1) = same_some (one.0.doc, one.1) (other.0.doc, other.1) (sym one.3 ∙ other.3) in
          fine.once i j one.0 other.0 one.2 other.2 (ap (λ (d : List ℕ × ℕ). d.0) same)

      below : (ks : List ℕ) → AreNumbers events es ks → (i k : ℕ) → slice_get ks i ≡ Some k → k < length (documents_of events)
      below ks are i k at = let one = are i k at in slice_get_within (documents_of events) k (one.0.doc, one.1) one.3

-- ---- the limits

-- a text has an item for each document and for each place
items_counted : (es : List DocPlaces) → items_in es ≡ length es + places_in es
items_counted [] = refl
items_counted (e ∷ es) = let rest : items_in es ≡ length es + places_in es = items_counted es in omega arith

abbrev AreSmall : DocPlaces → Type 0
AreSmall d = All (λ q. q.rec < 2 ^ 32) d.places

all_small : (es : List DocPlaces) → ((i : ℕ) (e : DocPlaces) → slice_get es i ≡ Some e → AreSmall e) → All AreSmall es
all_small [] each = All-nil AreSmall
all_small (e ∷ es) each = All-cons AreSmall e es (each 0 e refl) (all_small es (λ i f at. each (suc i) f at))

-- the text of witnesses that cover a history can hold them
pub within_limits : (conflicts : Conflicts) (events : List Event) (ws : List Witness) → IsHistory events → length events ≤ most_events → AreWitnesses conflicts events ws
    → AreWithinLimits (map witness_places ws)
within_limits conflicts events ws history few are =
    let items = items_counted (map witness_places ws) in
    let entries = entries_within conflicts events (map witness_places ws) are.cover.fine in
    let documents = documents_within events in
    let places = places_within conflicts events ws history are in
    let calls = calls_within events in
    record { few = omega arith; records = all_small (map witness_places ws) each } where
      each : (i : ℕ) (e : DocPlaces) → slice_get (map witness_places ws) i ≡ Some e → AreSmall e
      each i e at =
          let valid = are.cover.fine.valid i e at in
          let records = fewer_records events e.doc in
          let calls = calls_within events in
          small_records e.places (length (records_of events e.doc)) (omega arith)
          (λ j p bt. let known = valid.right.known j p bt in slice_get_within (records_of events e.doc) p.rec known.0 known.1)
