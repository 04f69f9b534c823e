-- What the search of each document says of covers of the whole history.
use Rattle.std.proofs.Common.{ℕ, zero, suc, Bool, true, ◌≡◌, inl, inr, List, [], ◌∷◌, refl, sym, ap, subst, ◌∙◌, Option, Some, None, IsSome, slice_get}
use Rattle.std.proofs.lemmas.Bool.{cases_eq}
use Rattle.version_pair.specs.declared.pair.Pair.{Pair}
use Rattle.doc_register.specs.declared.reply.Reply.{Reply as Answer}
use Rattle.doc_register.specs.declared.state.Conflicts.{Conflicts}
use Rattle.events.specs.declared.event.Event.{Event}
use Rattle.events.specs.Events.{documents_of, records_of}
use Rattle.version_pair.proofs.ListLemmas.{mapped_from, none_is_not_some, same_some}
use Rattle.places.specs.declared.place.Place.{Place}
use Rattle.places.specs.Documents.{DocPlaces, witness_places}
use Rattle.places.specs.Places.{AreValid}
use Rattle.places.specs.Witness.{Witness}
use Rattle.doc_check.specs.NoOrders.{AreUnpaired, HasNoOrder}
use Rattle.covers.specs.Covers.{AreAllUnpaired, AreCover, AreWitnesses, HasNoUnpairedCover, IsOfShard, IsTakenAt, IsTakenTwice}
use Rattle.events.specs.Heard.{taken_by}
use Rattle.covers.specs.aids.Searched.{AreSearched, IsSearched}
use Rattle.shard_numbers.specs.Taken.{IsTwice, pairs_taken}
use Rattle.covers.proofs.ListedDocuments.{documents_apart}
use Rattle.covers.proofs.TakenPlaces.{AreOwn, entries_of, entry_at, taken_twice, twice_taken}

-- ---- the witness of each document

-- a document has a witness at its place
witness_at : (conflicts : Conflicts) (events : List Event) (first : Bool) (ds : List (List ℕ × ℕ)) (ws : List Witness) (k : ℕ) (d : List ℕ × ℕ) → AreSearched conflicts events first ds ws → slice_get ds k ≡ Some d
    → (w : Witness) × (slice_get ws k ≡ Some w) × IsSearched conflicts events first d.0 w
witness_at conflicts events first [] ws k d all at = absurd (none_is_not_some d at)
witness_at conflicts events first (c ∷ ds) [] k d all at = absurd all
witness_at conflicts events first (c ∷ ds) (w ∷ ws) zero d all at = (w, refl, subst (λ (e : List ℕ × ℕ). IsSearched conflicts events first e.0 w) (same_some c d at) all.0)
witness_at conflicts events first (c ∷ ds) (w ∷ ws) (suc k) d all at = witness_at conflicts events first ds ws k d all.1 at

-- a witness has a document at its place
document_at : (conflicts : Conflicts) (events : List Event) (first : Bool) (ds : List (List ℕ × ℕ)) (ws : List Witness) (k : ℕ) (w : Witness) → AreSearched conflicts events first ds ws → slice_get ws k ≡ Some w
    → (d : List ℕ × ℕ) × (slice_get ds k ≡ Some d) × IsSearched conflicts events first d.0 w
document_at conflicts events first [] [] k w all at = absurd (none_is_not_some w at)
document_at conflicts events first [] (v ∷ ws) k w all at = absurd all
document_at conflicts events first (d ∷ ds) [] k w all at = absurd all
document_at conflicts events first (d ∷ ds) (v ∷ ws) zero w all at = (d, refl, subst (λ u. IsSearched conflicts events first d.0 u) (same_some v w at) all.0)
document_at conflicts events first (d ∷ ds) (v ∷ ws) (suc k) w all at = document_at conflicts events first ds ws k w all.1 at

-- the witnesses carry the records of their documents
searched_own : (conflicts : Conflicts) (events : List Event) (first : Bool) (ws : List Witness) → AreSearched conflicts events first (documents_of events) ws → AreOwn events ws
searched_own conflicts events first ws all i w at = let s = document_at conflicts events first (documents_of events) ws i w all at in s.2.own ∙ ap (records_of events) (sym s.2.doc)

-- the entry at the place i is of the document there, and has the places that its search found
record IsFoundEntry (conflicts : Conflicts) (events : List Event) (first : Bool) (i : ℕ) (e : DocPlaces) : Type 0 where
  document : List ℕ × ℕ
  listed : slice_get (documents_of events) i ≡ Some document
  doc : document.0 ≡ e.doc
  valid : AreValid conflicts (records_of events e.doc) e.places
  unpaired : first ≡ true → (places : List Place) → AreUnpaired places → AreValid conflicts (records_of events e.doc) places → AreUnpaired e.places

-- each entry of the witnesses is one
found_entry : (conflicts : Conflicts) (events : List Event) (first : Bool) (ws : List Witness) (i : ℕ) (e : DocPlaces) → AreSearched conflicts events first (documents_of events) ws → slice_get (entries_of ws) i ≡ Some e
    → IsFoundEntry conflicts events first i e
found_entry conflicts events first ws i e all at =
    let m = mapped_from witness_places ws i e at in
    subst (IsFoundEntry conflicts events first i) m.2 (of_witness m.0 (document_at conflicts events first (documents_of events) ws i m.0 all m.1)) where
      of_witness : (w : Witness) → (d : List ℕ × ℕ) × (slice_get (documents_of events) i ≡ Some d) × IsSearched conflicts events first d.0 w → IsFoundEntry conflicts events first i (witness_places w)
      of_witness w (d, at, s) = record {
        document = d;
        listed = at;
        doc = sym s.doc;
        valid = subst (λ c. AreValid conflicts (records_of events c) w.places) (sym s.doc) s.valid;
        unpaired = λ is places none valid. s.unpaired is places none (subst (λ c. AreValid conflicts (records_of events c) places) s.doc valid);
      }

-- entries of one document stand at one place
found_once : (conflicts : Conflicts) (events : List Event) (first : Bool) (i j : ℕ) (e f : DocPlaces) → IsFoundEntry conflicts events first i e → IsFoundEntry conflicts events first j f → e.doc ≡ f.doc → i ≡ j
found_once conflicts events first i j e f a b same = documents_apart events i j a.document b.document a.listed b.listed (a.doc ∙ (same ∙ sym b.doc))

-- ---- the cover

-- witnesses of all documents that take no pair twice cover the history
pub searched_cover : (conflicts : Conflicts) (events : List Event) (first : Bool) (ws : List Witness) → AreSearched conflicts events first (documents_of events) ws
    → ((x : ℕ × Pair) → IsTwice (pairs_taken events ws) x → ⊥) → AreWitnesses conflicts events ws
searched_cover conflicts events first ws all distinct = record {
  own = λ i w at. (searched_own conflicts events first ws all i w at, (document_at conflicts events first (documents_of events) ws i w all at).2.read);
  cover = record {
    fine = record {
      known = λ i e at. let s = found_entry conflicts events first ws i e all at in (s.document.1, (i, s.listed ∙ ap (λ c. Some (c, s.document.1)) s.doc));
      once = λ i j e f at bt same. found_once conflicts events first i j e f (found_entry conflicts events first ws i e all at) (found_entry conflicts events first ws j f all bt) same;
      valid = λ i e at. (found_entry conflicts events first ws i e all at).valid;
    };
    complete = λ k d at. let w = witness_at conflicts events first (documents_of events) ws k d all at in (k, witness_places w.0, entry_at ws k w.0 w.1, w.2.doc);
    distinct = λ i j k l h q a b. both i j k l h q a b;
  };
} where
  both : (i j k l h : ℕ) (q : Pair) → IsTakenAt events (entries_of ws) i j h q → IsTakenAt events (entries_of ws) k l h q → (i ≡ k) × (j ≡ l)
  both i j k l h q a b = elim (cases_eq i k) as (λ _. (i ≡ k) × (j ≡ l)) [
    | inl same ↦ elim (cases_eq j l) as (λ _. (i ≡ k) × (j ≡ l)) [ inl here ↦ (same, here) | inr other ↦ absurd (twice (λ p. other p.1)) ]
    | inr other ↦ absurd (twice (λ p. other p.0))
  ] where
    twice : ((i ≡ k) × (j ≡ l) → ⊥) → ⊥
    twice apart =
        let t : IsTakenTwice events (entries_of ws) h q = record { entry = i; place = j; other_entry = k; other_place = l; one = a; other = b; apart = apart } in
        distinct (h, q) (taken_twice events ws h q (searched_own conflicts events first ws all) t)

-- ---- pairs that other entries take as well

-- the pair is taken at a place of the entries too, which names the same record of the same document
record IsTakenToo (events : List Event) (entries : List DocPlaces) (h : ℕ) (q : Pair) (e : DocPlaces) (p : Place) : Type 0 where
  entry : ℕ
  place : ℕ
  taken : IsTakenAt events entries entry place h q
  doc : taken.entry.doc ≡ e.doc
  names : taken.place.rec ≡ p.rec

-- a call that takes a pair without one being given was answered
answered_takes : (heard : Option (ℕ × Answer)) (q : Pair) → taken_by heard None ≡ Some q → IsSome heard
answered_takes None q takes = absurd (none_is_not_some q takes)
answered_takes (Some x) q takes = refl

-- where unpaired entries cover the history, they take each pair that the witnesses take
taken_too : (conflicts : Conflicts) (events : List Event) (ws : List Witness) (entries : List DocPlaces) (i j h : ℕ) (q : Pair) → AreSearched conflicts events true (documents_of events) ws
    → AreAllUnpaired entries → AreCover conflicts events entries → (t : IsTakenAt events (entries_of ws) i j h q) → IsTakenToo events entries h q t.entry t.place
taken_too conflicts events ws entries i j h q all unpaired cover t =
    let e : DocPlaces = t.entry in
    let s = found_entry conflicts events true ws i e all t.entered in
    let entered = cover.complete i s.document s.listed in
    let f : DocPlaces = entered.1 in
    let doc : f.doc ≡ e.doc = entered.3 ∙ s.doc in
    let valid : AreValid conflicts (records_of events f.doc) f.places = cover.fine.valid entered.0 f entered.2 in
    let given : t.place.pair ≡ None = s.unpaired refl f.places (unpaired entered.0 f entered.2) (subst (λ c. AreValid conflicts (records_of events c) f.places) doc valid) j t.place t.placed in
    let takes : taken_by t.called.heard None ≡ Some q = ap (taken_by t.called.heard) (sym given) ∙ t.takes in
    let names : slice_get (records_of events f.doc) t.place.rec ≡ Some t.called = ap (λ c. slice_get (records_of events c) t.place.rec) doc ∙ t.names in
    let named = valid.answered t.place.rec t.called names (answered_takes t.called.heard q takes) in
    let p : Place = named.1 in
    let none : p.pair ≡ None = unpaired entered.0 f entered.2 named.0 p named.2 in
    record {
      entry = entered.0;
      place = named.0;
      taken = record {
        entry = f;
        place = p;
        called = t.called;
        entered = entered.2;
        placed = named.2;
        names = ap (slice_get (records_of events f.doc)) named.3 ∙ names;
        shard = subst (λ c. IsOfShard events c h) (sym doc) t.shard;
        takes = ap (taken_by t.called.heard) none ∙ takes;
      };
      doc = doc;
      names = named.3;
    }

-- ---- no cover

-- where they take a pair twice, no entries without a given pair cover the history
searched_collide : (conflicts : Conflicts) (events : List Event) (ws : List Witness) (x : ℕ × Pair) → AreSearched conflicts events true (documents_of events) ws
    → IsTwice (pairs_taken events ws) x → HasNoUnpairedCover conflicts events
searched_collide conflicts events ws x all twice entries unpaired cover = by_places (twice_taken events ws x.0 x.1 (searched_own conflicts events true ws all) twice) where
  by_places : IsTakenTwice events (entries_of ws) x.0 x.1 → ⊥
  by_places t =
      let a = taken_too conflicts events ws entries t.entry t.place x.0 x.1 all unpaired cover t.one in
      let b = taken_too conflicts events ws entries t.other_entry t.other_place x.0 x.1 all unpaired cover t.other in
      let same = cover.distinct a.entry a.place b.entry b.place x.0 x.1 a.taken b.taken in
      let entry : a.taken.entry ≡ b.taken.entry = same_some a.taken.entry b.taken.entry (sym a.taken.entered ∙ (ap (slice_get entries) same.0 ∙ b.taken.entered)) in
      let doc : t.one.entry.doc ≡ t.other.entry.doc = sym a.doc ∙ (ap (λ (e : DocPlaces). e.doc) entry ∙ b.doc) in
      let place : a.taken.place ≡ b.taken.place = same_some a.taken.place b.taken.place
      (sym a.taken.placed ∙ (ap (λ (e : DocPlaces). slice_get e.places a.place) entry ∙ (ap (slice_get b.taken.entry.places) same.1 ∙ b.taken.placed))) in
      let names : t.one.place.rec ≡ t.other.place.rec = sym a.names ∙ (ap (λ (p : Place). p.rec) place ∙ b.names) in
      let s = found_entry conflicts events true ws t.entry t.one.entry all t.one.entered in
      let here : t.entry ≡ t.other_entry = found_once conflicts events true t.entry t.other_entry t.one.entry t.other.entry s (found_entry conflicts events true ws t.other_entry t.other.entry all t.other.entered) doc in
      let one : t.other.entry ≡ t.one.entry = same_some t.other.entry t.one.entry (sym t.other.entered ∙ (ap (slice_get (entries_of ws)) (sym here) ∙ t.one.entered)) in
      let placed : slice_get t.one.entry.places t.other_place ≡ Some t.other.place = ap (λ (e : DocPlaces). slice_get e.places t.other_place) (sym one) ∙ t.other.placed in
      t.apart (here, s.valid.right.once t.place t.other_place t.one.place t.other.place t.one.placed placed names)

-- the same of the first witnesses that the search gave
pub first_collide : (conflicts : Conflicts) (events : List Event) (first : Bool) (ws : List Witness) (x : ℕ × Pair) → AreSearched conflicts events first (documents_of events) ws
    → IsTwice (pairs_taken events ws) x → first ≡ true → HasNoUnpairedCover conflicts events
first_collide conflicts events first ws x all twice is = searched_collide conflicts events ws x (subst (λ b. AreSearched conflicts events b (documents_of events) ws) is all) twice

-- where a document has no order of its answered calls alone, no entries without a given pair cover the history
pub unordered_uncovered : (conflicts : Conflicts) (events : List Event) (k : ℕ) (d : List ℕ × ℕ) → slice_get (documents_of events) k ≡ Some d
    → HasNoOrder conflicts (records_of events d.0) → HasNoUnpairedCover conflicts events
unordered_uncovered conflicts events k d at none entries unpaired cover =
    let e = cover.complete k d at in
    none e.1.places (unpaired e.0 e.1 e.2) (subst (λ c. AreValid conflicts (records_of events c) e.1.places) e.3 (cover.fine.valid e.0 e.1 e.2))
