-- Entries that are verified one after another.
use Rattle.std.proofs.Common.{ℕ, ◌≡◌, ◌<◌, ◌++◌, ◌⊎◌, inl, inr, None, List, [], ◌∷◌, refl, sym, ap, subst, ◌∙◌, arith, Bool, true, false, Some, slice_get, slice_set, map, length, take}
use Rattle.std.specs.Prelude.{position}
use Rattle.std.specs.Cmp.Lexicographic.{bytes_decides}
use Rattle.std.proofs.lemmas.Bool.{cases_eq, false≢true, true≢false}
use Rattle.std.proofs.lemmas.List.{length-set, map-append}
use Rattle.std.proofs.Math.Seq.{take-append_seam}
use Rattle.std.proofs.lemmas.Option.{slice_get_within}
use Rattle.version_pair.specs.declared.pair.Pair.{Pair}
use Rattle.doc_register.specs.declared.state.Conflicts.{Conflicts}
use Rattle.events.specs.declared.event.Event.{Event}
use Rattle.events.specs.Events.{documents_of, is_same, records_of}
use Rattle.version_pair.proofs.ListLemmas.{get_front, get_last, get_middle, get_snoc, get_within, same_some, slice_get-set_other, slice_get-set_same}
use Rattle.places.specs.Documents.{DocPlaces, witness_places}
use Rattle.places.specs.Places.{AreValid}
use Rattle.places.specs.Witness.{Witness}
use Rattle.covers.specs.Covers.{AreComplete, AreCover, ArePairsDistinct, AreValidEntries, AreWitnesses, IsEntered, IsKnown, IsOfShard, IsTakenTwice}
use Rattle.compose.specs.VerifyFaults.{IsAtEntry, IsFirstVerifyFault}
use Rattle.shard_numbers.specs.Taken.{IsLeastTwice, pairs_taken}
use Rattle.compose.specs.aids.Verified.{AreVerified, IsFaultOfDocument, IsFaultOfEntry, IsOpen, IsWitnessAt}
use Rattle.compose.specs.declared.verify_fault.VerifyFault.{VerifyFault}
use Rattle.compose.specs.declared.verify_fault.VerifyFault.TheVariants as fault
use Rattle.covers.proofs.ListedDocuments.{documents_apart}
use Rattle.covers.proofs.TakenPlaces.{AreOwn, taken_twice, twice_taken}
use Rattle.compose.proofs.PositionLemmas.{position_found, position_none}

-- ---- the document of an id

-- a document that is found has the id
pub document_found : (events : List Event) (d : List ℕ) (k : ℕ) → position (λ e. is_same d e.0) (documents_of events) ≡ Some k
    → (h : ℕ) × (slice_get (documents_of events) k ≡ Some (d, h))
document_found events d k is =
    let found = position_found (λ e. is_same d e.0) (documents_of events) k is in
    let same : d ≡ found.element.0 = (bytes_decides d found.element.0).0 found.passes in
    (found.element.1, found.at ∙ ap (λ x. Some (x, found.element.1)) (sym same))

-- where none is found, the history has no document of the id
pub document_none : (events : List Event) (d : List ℕ) (h : ℕ) → position (λ e. is_same d e.0) (documents_of events) ≡ None → IsOfShard events d h → ⊥
document_none events d h is known =
    false≢true (sym (position_none (λ e. is_same d e.0) (documents_of events) known.0 (d, h) is known.1) ∙ (bytes_decides d d).1 refl)

-- ---- one more entry

entered_here : (before : List DocPlaces) (e : DocPlaces) → IsEntered (before ++ e ∷ []) e.doc
entered_here before e = (length before, e, get_last before e, refl)

entered_more : (before : List DocPlaces) (e : DocPlaces) (d : List ℕ) → IsEntered before d → IsEntered (before ++ e ∷ []) d
entered_more before e d n = (n.0, n.1, get_front before (e ∷ []) n.0 n.1 n.2, n.3)

entered_before : (before : List DocPlaces) (e : DocPlaces) (d : List ℕ) → IsEntered (before ++ e ∷ []) d → (e.doc ≡ d → ⊥) → IsEntered before d
entered_before before e d n other = by_place (get_snoc before e n.1 n.0 n.2) where
  by_place : (slice_get before n.0 ≡ Some n.1) ⊎ ((n.0 ≡ length before) × (e ≡ n.1)) → IsEntered before d
  by_place (inl at) = (n.0, n.1, at, n.3)
  by_place (inr last) = absurd (other (ap (λ x. x.doc) last.1 ∙ n.3))

-- a document that is not marked is not entered
not_entered : (conflicts : Conflicts) (events : List Event) (before : List DocPlaces) (marks : List Bool) (ws : List Witness) (d : List ℕ) (k : ℕ)
    → AreVerified conflicts events before marks ws → IsOpen events marks d k → IsEntered before d → ⊥
not_entered conflicts events before marks ws d k are free entered =
    true≢false (same_some true false (sym ((are.marked k (d, free.0) free.1).1 entered) ∙ free.2))

-- the entries with one more are fine
fine_next : (conflicts : Conflicts) (events : List Event) (before : List DocPlaces) (e : DocPlaces) → AreValidEntries conflicts events before → IsKnown events e → (IsEntered before e.doc → ⊥)
    → AreValid conflicts (records_of events e.doc) e.places → AreValidEntries conflicts events (before ++ e ∷ [])
fine_next conflicts events before e fine known new valid = record {
  known = λ i f at. known_at f (get_snoc before e f i at);
  once = λ i j f g at bt same. once_at i j f g same (get_snoc before e f i at) (get_snoc before e g j bt);
  valid = λ i f at. valid_at f (get_snoc before e f i at);
} where
  known_at : {i : ℕ} (f : DocPlaces) → (slice_get before i ≡ Some f) ⊎ ((i ≡ length before) × (e ≡ f)) → IsKnown events f
  known_at {i} f (inl at) = fine.known i f at
  known_at f (inr last) = subst (IsKnown events) last.1 known

  valid_at : {i : ℕ} (f : DocPlaces) → (slice_get before i ≡ Some f) ⊎ ((i ≡ length before) × (e ≡ f)) → AreValid conflicts (records_of events f.doc) f.places
  valid_at {i} f (inl at) = fine.valid i f at
  valid_at f (inr last) = subst (λ (x : DocPlaces). AreValid conflicts (records_of events x.doc) x.places) last.1 valid

  once_at : (i j : ℕ) (f g : DocPlaces) → f.doc ≡ g.doc → (slice_get before i ≡ Some f) ⊎ ((i ≡ length before) × (e ≡ f))
      → (slice_get before j ≡ Some g) ⊎ ((j ≡ length before) × (e ≡ g)) → i ≡ j
  once_at i j f g same (inl at) (inl bt) = fine.once i j f g at bt same
  once_at i j f g same (inl at) (inr last) = absurd (new (i, f, at, same ∙ ap (λ x. x.doc) (sym last.1)))
  once_at i j f g same (inr last) (inl bt) = absurd (new (j, g, bt, sym same ∙ ap (λ x. x.doc) (sym last.1)))
  once_at i j f g same (inr last) (inr end) = last.0 ∙ sym end.0

pub entered_next : (conflicts : Conflicts) (events : List Event) (before : List DocPlaces) (e : DocPlaces) (marks : List Bool) (ws : List Witness) (k : ℕ) (w : Witness)
    → AreVerified conflicts events before marks ws → IsOpen events marks e.doc k → IsWitnessAt conflicts events k e w
    → AreVerified conflicts events (before ++ e ∷ []) (slice_set marks k true) (ws ++ w ∷ [])
entered_next conflicts events before e marks ws k w are free witnessed =
    let is = witnessed (e.doc, free.0) free.1 in
    let new = not_entered conflicts events before marks ws e.doc k are free in
    let within : k < length marks = slice_get_within marks k false free.2 in
    record {
      fine = fine_next conflicts events before e are.fine (free.0, (k, free.1)) new is.1;
      places = map-append witness_places ws (w ∷ []) ∙ (ap (λ es. es ++ witness_places w ∷ []) are.places ∙ ap (λ v. before ++ witness_places v ∷ []) is.0);
      own = λ i v at. own_at i v is.0 (get_snoc ws w v i at);
      size = length-set marks k true ∙ are.size;
      marked = λ j d at. (
        λ set. by_marked j d at (cases_eq j k) set,
        λ entered. by_entered j d at within (cases_eq j k) entered,
      );
    } where
      own_at : (i : ℕ) (v : Witness) → w ≡ record { doc = e.doc; records = records_of events e.doc; places = e.places; conflicts = conflicts }
          → (slice_get ws i ≡ Some v) ⊎ ((i ≡ length ws) × (w ≡ v)) → (v.records ≡ records_of events v.doc) × (v.conflicts ≡ conflicts)
      own_at i v is (inl at) = are.own i v at
      own_at i v is (inr last) = subst (λ (x : Witness). (x.records ≡ records_of events x.doc) × (x.conflicts ≡ conflicts)) (sym is ∙ last.1) (refl, refl)

      by_marked : (j : ℕ) (d : List ℕ × ℕ) → slice_get (documents_of events) j ≡ Some d → (j ≡ k) ⊎ (j ≡ k → ⊥) → slice_get (slice_set marks k true) j ≡ Some true
          → IsEntered (before ++ e ∷ []) d.0
      by_marked j d at (inl same) set =
          let one : (e.doc, free.0) ≡ d = same_some (e.doc, free.0) d (sym free.1 ∙ (ap (slice_get (documents_of events)) (sym same) ∙ at)) in
          subst (IsEntered (before ++ e ∷ [])) (ap (λ c. c.0) one) (entered_here before e)
      by_marked j d at (inr other) set = entered_more before e d.0 ((are.marked j d at).0 (sym (slice_get-set_other marks k j true other) ∙ set))

      by_entered : (j : ℕ) (d : List ℕ × ℕ) → slice_get (documents_of events) j ≡ Some d → k < length marks → (j ≡ k) ⊎ (j ≡ k → ⊥) → IsEntered (before ++ e ∷ []) d.0
          → slice_get (slice_set marks k true) j ≡ Some true
      by_entered j d at within (inl same) entered = subst (λ i. slice_get (slice_set marks k true) i ≡ Some true) (sym same) (slice_get-set_same marks k true within)
      by_entered j d at within (inr other) entered =
          slice_get-set_other marks k j true other
          ∙ (are.marked j d at).1 (entered_before before e d.0 entered (λ same. other (documents_apart events j k d (e.doc, free.0) at free.1 (sym same))))

-- ---- the fault of one more entry

pub entry_fault_document : (conflicts : Conflicts) (events : List Event) (before : List DocPlaces) (e : DocPlaces) (marks : List Bool) (ws : List Witness) (entry : ℕ) (reported : VerifyFault)
    → AreVerified conflicts events before marks ws → length before ≡ entry → IsFaultOfDocument events marks entry e.doc reported → IsFaultOfEntry conflicts events before e reported
entry_fault_document conflicts events before e marks ws entry (fault.DocStranger i) are size wrong = (wrong.0 ∙ sym size, λ known. wrong.1 known.0 known.1)
entry_fault_document conflicts events before e marks ws entry (fault.DocTwice i) are size wrong =
    (wrong.0 ∙ sym size, (wrong.1.1, (wrong.1.0, wrong.1.2)), (are.marked wrong.1.0 (e.doc, wrong.1.1) wrong.1.2).0 wrong.1.3)
entry_fault_document conflicts events before e marks ws entry (fault.Broken i broken) are size wrong = absurd wrong
entry_fault_document conflicts events before e marks ws entry (fault.DocMissing k) are size wrong = absurd wrong
entry_fault_document conflicts events before e marks ws entry (fault.PairTwice shard pair) are size wrong = absurd wrong
entry_fault_document conflicts events before e marks ws entry fault.NoMemory are size wrong = absurd wrong

-- ---- the first fault of all entries

fine_front : (conflicts : Conflicts) (events : List Event) (before : List DocPlaces) (e : DocPlaces) (after : List DocPlaces) → AreValidEntries conflicts events before
    → IsAtEntry conflicts events (before ++ e ∷ after) (length before) e
fine_front conflicts events before e after fine = record {
  here = get_middle before after e;
  fine = subst (AreValidEntries conflicts events) (sym (take-append_seam before (e ∷ after))) fine;
}

entered_front : (before : List DocPlaces) (e : DocPlaces) (after : List DocPlaces) → take (length before) (before ++ e ∷ after) ≡ before
entered_front before e after = take-append_seam before (e ∷ after)

pub first_of_entry : (conflicts : Conflicts) (events : List Event) (before : List DocPlaces) (e : DocPlaces) (after : List DocPlaces) (reported : VerifyFault) → AreValidEntries conflicts events before
    → IsFaultOfEntry conflicts events before e reported → IsFirstVerifyFault conflicts events (before ++ e ∷ after) reported
first_of_entry conflicts events before e after (fault.DocStranger i) fine wrong =
    subst (λ n. IsFirstVerifyFault conflicts events (before ++ e ∷ after) (fault.DocStranger n)) (sym wrong.0) (e, fine_front conflicts events before e after fine, wrong.1)
first_of_entry conflicts events before e after (fault.DocTwice i) fine wrong =
    subst (λ n. IsFirstVerifyFault conflicts events (before ++ e ∷ after) (fault.DocTwice n)) (sym wrong.0)
    (e, fine_front conflicts events before e after fine, wrong.1, subst (λ es. IsEntered es e.doc) (sym (entered_front before e after)) wrong.2)
first_of_entry conflicts events before e after (fault.Broken i broken) fine wrong =
    subst (λ n. IsFirstVerifyFault conflicts events (before ++ e ∷ after) (fault.Broken n broken)) (sym wrong.0)
    (e, fine_front conflicts events before e after fine, wrong.1, (λ entered. wrong.2 (subst (λ es. IsEntered es e.doc) (entered_front before e after) entered)), wrong.3)
first_of_entry conflicts events before e after (fault.DocMissing k) fine wrong = absurd wrong
first_of_entry conflicts events before e after (fault.PairTwice shard pair) fine wrong = absurd wrong
first_of_entry conflicts events before e after fault.NoMemory fine wrong = absurd wrong

-- ---- when all entries are verified

-- a document that is the first not to be marked is missing
pub verified_missing : (conflicts : Conflicts) (events : List Event) (entries : List DocPlaces) (marks : List Bool) (ws : List Witness) (k : ℕ) → AreVerified conflicts events entries marks ws
    → slice_get marks k ≡ Some false → ((j : ℕ) → j < k → slice_get marks j ≡ Some true) → IsFirstVerifyFault conflicts events entries (fault.DocMissing k)
verified_missing conflicts events entries marks ws k are unmarked before =
    let within : k < length marks = slice_get_within marks k false unmarked in
    let size : length marks ≡ length (documents_of events) = are.size in
    let d = get_within (documents_of events) k (omega arith) in (
      d.0,
      are.fine,
      d.1,
      (λ entered. true≢false (same_some true false (sym ((are.marked k d.0 d.1).1 entered) ∙ unmarked))),
      λ j c less at. (are.marked j c at).0 (before j less),
    )

-- each document is entered where each is marked
verified_complete : (conflicts : Conflicts) (events : List Event) (entries : List DocPlaces) (marks : List Bool) (ws : List Witness) → AreVerified conflicts events entries marks ws
    → ((j : ℕ) → j < length marks → slice_get marks j ≡ Some true) → AreComplete events entries
verified_complete conflicts events entries marks ws are all k d at =
    let within : k < length (documents_of events) = slice_get_within (documents_of events) k d at in
    let size : length marks ≡ length (documents_of events) = are.size in
    (are.marked k d at).0 (all k (omega arith))

own_records : (conflicts : Conflicts) (events : List Event) (entries : List DocPlaces) (marks : List Bool) (ws : List Witness) → AreVerified conflicts events entries marks ws → AreOwn events ws
own_records conflicts events entries marks ws are i w at = (are.own i w at).0

-- entries that take no pair twice are distinct
distinct_from_none : (events : List Event) (entries : List DocPlaces) → ((h : ℕ) (q : Pair) → IsTakenTwice events entries h q → ⊥) → ArePairsDistinct events entries
distinct_from_none events entries none i j k l h q a b = by_entry (cases_eq i k) (cases_eq j l) where
  twice : ((i ≡ k) × (j ≡ l) → ⊥) → ⊥
  twice apart = none h q (record { entry = i; place = j; other_entry = k; other_place = l; one = a; other = b; apart = apart })

  by_entry : (i ≡ k) ⊎ (i ≡ k → ⊥) → (j ≡ l) ⊎ (j ≡ l → ⊥) → (i ≡ k) × (j ≡ l)
  by_entry (inl same) (inl place) = (same, place)
  by_entry (inl same) (inr other) = absurd (twice (λ both. other both.1))
  by_entry (inr other) place = absurd (twice (λ both. other both.0))

-- they cover the history where no pair is taken twice
pub verified_covers : (conflicts : Conflicts) (events : List Event) (entries : List DocPlaces) (marks : List Bool) (ws : List Witness) → AreVerified conflicts events entries marks ws
    → ((j : ℕ) → j < length marks → slice_get marks j ≡ Some true) → IsLeastTwice (pairs_taken events ws) None → (map witness_places ws ≡ entries) × AreWitnesses conflicts events ws
verified_covers conflicts events entries marks ws are all none = (
  are.places,
  record {
    own = are.own;
    cover = subst (AreCover conflicts events) (sym are.places) (record {
      fine = are.fine;
      complete = verified_complete conflicts events entries marks ws are all;
      distinct = distinct_from_none events entries (λ h q twice. none (h, q) (taken_twice events ws h q (own_records conflicts events entries marks ws are)
          (subst (λ es. IsTakenTwice events es h q) (sym are.places) twice)));
    });
  },
)

-- else the least pair that is taken twice is reported
pub verified_twice : (conflicts : Conflicts) (events : List Event) (entries : List DocPlaces) (marks : List Bool) (ws : List Witness) (x : ℕ × Pair)
    → AreVerified conflicts events entries marks ws → ((j : ℕ) → j < length marks → slice_get marks j ≡ Some true) → IsLeastTwice (pairs_taken events ws) (Some x)
    → IsFirstVerifyFault conflicts events entries (fault.PairTwice x.0 x.1)
verified_twice conflicts events entries marks ws x are all least =
    let own = own_records conflicts events entries marks ws are in (
      are.fine,
      verified_complete conflicts events entries marks ws are all,
      subst (λ es. IsTakenTwice events es x.0 x.1) are.places (twice_taken events ws x.0 x.1 own least.0),
      λ h q twice. least.1 (h, q) (taken_twice events ws h q own (subst (λ es. IsTakenTwice events es h q) (sym are.places) twice)),
    )
