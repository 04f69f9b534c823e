-- The calls of all entries, each with its point in the order of its document.
use Rattle.std.proofs.Common.{ℕ, zero, suc, ◌≡◌, ◌≢◌, ◌≤◌, inl, inr, List, [], ◌∷◌, ◌++◌, ◌+◌, Bool, cond, length, length-append, option_map, refl, sym, ap, subst, ◌∙◌, arith, false, Some, slice_get, unwrap_or}
use Rattle.std.specs.Cmp.Lexicographic.{bytes_decides}
use Rattle.std.specs.Prelude.{filter}
use Rattle.std.proofs.lemmas.List.{append-nil, length-map}
use Rattle.std.proofs.lemmas.List.Elements.{filter-append}
use Rattle.version_pair.proofs.SortedLists.{Has}
use Rattle.doc_register.proofs.RunLemmas.{other_id}
use Rattle.doc_register.specs.declared.state.Conflicts.{Conflicts}
use Rattle.events.specs.declared.event.Event.{Event}
use Rattle.events.specs.Events.{IsHistory, records_of}
use Rattle.events.specs.Order.{Placed}
use Rattle.events.specs.declared.record.Rec.{Rec}
use Rattle.version_pair.proofs.ListLemmas.{none_is_not_some, same_some}
use Rattle.places.specs.declared.place.Place.{Place}
use Rattle.places.specs.Laws.{ArePlacedBy, ExplainsDocument}
use Rattle.places.specs.Places.{AreValid}
use Rattle.places.specs.Documents.{DocPlaces}
use Rattle.places.proofs.DocumentLaws.{places_are_orders}
use Rattle.places.proofs.PlaceLemmas.{placed_length}
use Rattle.covers.specs.Covers.{IsEntered}
use Rattle.compose.specs.Laws.{names_number, places_in, places_numbered}
use Rattle.compose.proofs.Filtering.{filter_all, filter_none, in_either}
use Rattle.compose.proofs.Points.{IsReached, Pointed, call_place, is_of, part, place_before, placed_at, placed_of, pointed, pointed_placed, pointed_rising, reached}
use Rattle.compose.proofs.Sorting.{IsRising, one_more_passes, sort, sort_count, sort_filter, sort_length, sort_rising, sorted_from}

-- ---- one entry

-- The calls are an order of the entry's document, placed as the entry says, each with its point.
pub record IsPartOf (conflicts : Conflicts) (events : List Event) (e : DocPlaces) (ks : List Pointed) : Type 0 where
  pub explains : ExplainsDocument conflicts events e.doc (placed_of ks)
  pub placed : ArePlacedBy (records_of events e.doc) e.places (placed_of ks)
  pub rising : IsRising (λ k. k.point) ks
  pub before : (i : ℕ) (k : Pointed) → slice_get ks i ≡ Some k → call_place events k.placed ≤ k.point
  pub reached : (i : ℕ) (k : Pointed) → slice_get ks i ≡ Some k → IsReached (call_place events) ks i k.point

-- valid places of an entry make such a list
part_made : (conflicts : Conflicts) (events : List Event) (e : DocPlaces) → IsHistory events → AreValid conflicts (records_of events e.doc) e.places
    → (ks : List Pointed) × IsPartOf conflicts events e ks
part_made conflicts events e history valid =
    let made = places_are_orders.explains conflicts events e.doc e.places history valid in
    let is : placed_of (pointed (call_place events) 0 made.0) ≡ made.0 = pointed_placed (call_place events) 0 made.0 in (
      pointed (call_place events) 0 made.0,
      record {
        explains = subst (ExplainsDocument conflicts events e.doc) (sym is) made.1;
        placed = subst (ArePlacedBy (records_of events e.doc) e.places) (sym is) made.2;
        rising = pointed_rising (call_place events) 0 made.0;
        before = place_before (call_place events) 0 made.0;
        reached = reached (call_place events) made.0;
      },
    )

-- its calls are of the entry's document
own_document : (conflicts : Conflicts) (events : List Event) (e : DocPlaces) (ks : List Pointed) → IsPartOf conflicts events e ks → (i : ℕ) (k : Pointed) → slice_get ks i ≡ Some k
    → k.placed.entry.doc ≡ e.doc
own_document conflicts events e ks is i k at = (is.explains.calls i k.placed (placed_at ks i k at)).1

-- ---- how many calls have a number that passes a test

-- among placed calls as many as among their places
placed_numbered : (test : ℕ → Bool) (records : List Rec) (ps : List Place) (qs : List Placed) → ArePlacedBy records ps qs
    → length (filter (λ q. test q.no) qs) ≡ length (filter (names_number test records) ps)
placed_numbered test records [] [] placed = refl
placed_numbered test records [] (q ∷ qs) placed = absurd placed
placed_numbered test records (p ∷ ps) [] placed = absurd placed
placed_numbered test records (p ∷ ps) (q ∷ qs) placed =
    let own : test q.no ≡ names_number test records p =
    ap test placed.0.number ∙ sym (ap (λ found. unwrap_or (option_map (λ (r : Rec). test r.no) found) false) placed.0.names) in
    one_more_passes (λ (r : Placed). test r.no) q qs
    ∙ (ap (λ b. cond b 1 0 + length (filter (λ (r : Placed). test r.no) qs)) own
    ∙ (ap (λ n. cond (names_number test records p) 1 0 + n) (placed_numbered test records ps qs placed.1)
    ∙ sym (one_more_passes (names_number test records) p ps)))

-- among calls with their points as many as among the calls
pub pointed_numbered : (test : ℕ → Bool) (ks : List Pointed) → length (filter (λ p. test p.no) (placed_of ks)) ≡ length (filter (λ k. test k.placed.no) ks)
pointed_numbered test [] = refl
pointed_numbered test (k ∷ ks) =
    one_more_passes (λ (p : Placed). test p.no) k.placed (placed_of ks)
    ∙ (ap (λ n. cond (test k.placed.no) 1 0 + n) (pointed_numbered test ks) ∙ sym (one_more_passes (λ (l : Pointed). test l.placed.no) k ks))

-- ---- all entries

-- The calls are those of the entries: the part of each entry's document is one of it, and there are no others.
pub record AreGathered (conflicts : Conflicts) (events : List Event) (entries : List DocPlaces) (ks : List Pointed) : Type 0 where
  pub parts : (i : ℕ) (e : DocPlaces) → slice_get entries i ≡ Some e → IsPartOf conflicts events e (part e.doc ks)
  pub entered : (i : ℕ) (k : Pointed) → slice_get ks i ≡ Some k → IsEntered entries k.placed.entry.doc
  pub count : length ks ≡ places_in entries
  pub numbered : (test : ℕ → Bool) → length (filter (λ k. test k.placed.no) ks) ≡ places_numbered test events entries

-- no two entries are of one document
abbrev AreApart : List DocPlaces → Type 0
AreApart entries = (i j : ℕ) (e f : DocPlaces) → slice_get entries i ≡ Some e → slice_get entries j ≡ Some f → e.doc ≡ f.doc → i ≡ j

-- so it is of the entries after the first
later_apart : (e : DocPlaces) (es : List DocPlaces) → AreApart (e ∷ es) → AreApart es
later_apart e es apart i j f g at bt same = let next : suc i ≡ suc j = apart (suc i) (suc j) f g at bt same in omega arith

-- the first entry is not of a document that a later one is of
not_first : (e : DocPlaces) (es : List DocPlaces) → AreApart (e ∷ es) → (d : List ℕ) → IsEntered es d → e.doc ≢ d
not_first e es apart d entered same = let first : 0 ≡ suc entered.0 = apart 0 (suc entered.0) e entered.1 refl entered.2 (same ∙ sym entered.3) in omega arith

-- the calls of one more entry
gathered_more : (conflicts : Conflicts) (events : List Event) (e : DocPlaces) (es : List DocPlaces) (ks all : List Pointed) → AreApart (e ∷ es) → IsPartOf conflicts events e ks
    → AreGathered conflicts events es all → AreGathered conflicts events (e ∷ es) (ks ++ all)
gathered_more conflicts events e es ks all apart is rest = record { parts = parts; entered = entered; count = count; numbered = numbered } where
  first_part : part e.doc (ks ++ all) ≡ ks
  first_part =
      filter-append (is_of e.doc) ks all
      ∙ (ap (λ xs. xs ++ part e.doc all) (filter_all (is_of e.doc) ks (λ i k at. (bytes_decides k.placed.entry.doc e.doc).1 (own_document conflicts events e ks is i k at)))
      ∙ (ap (λ xs. ks ++ xs) (filter_none (is_of e.doc) all (λ i k at. other_id k.placed.entry.doc e.doc (not_first e es apart k.placed.entry.doc (rest.entered i k at)))) ∙ append-nil ks))

  later_part : (i : ℕ) (f : DocPlaces) → slice_get es i ≡ Some f → part f.doc (ks ++ all) ≡ part f.doc all
  later_part i f at =
      filter-append (is_of f.doc) ks all
      ∙ ap (λ xs. xs ++ part f.doc all)
      (filter_none (is_of f.doc) ks (λ j k bt. other_id k.placed.entry.doc f.doc
      (λ same. not_first e es apart f.doc (i, f, at, refl) (sym (own_document conflicts events e ks is j k bt) ∙ sym same))))

  parts : (i : ℕ) (f : DocPlaces) → slice_get (e ∷ es) i ≡ Some f → IsPartOf conflicts events f (part f.doc (ks ++ all))
  parts zero f at = subst (λ g. IsPartOf conflicts events g (part g.doc (ks ++ all))) (same_some e f at) (subst (IsPartOf conflicts events e) (sym first_part) is)
  parts (suc i) f at = subst (IsPartOf conflicts events f) (sym (later_part i f at)) (rest.parts i f at)

  entered : (i : ℕ) (k : Pointed) → slice_get (ks ++ all) i ≡ Some k → IsEntered (e ∷ es) k.placed.entry.doc
  entered i k at = elim (in_either ks all i k at) as (λ _. IsEntered (e ∷ es) k.placed.entry.doc) [
    | inl here ↦ (0, e, refl, sym (own_document conflicts events e ks is here.0 k here.1))
    | inr there ↦ (let found = rest.entered there.0 k there.1 in (suc found.0, found.1, found.2, found.3))
  ]

  count : length (ks ++ all) ≡ places_in (e ∷ es)
  count =
      let both : length (ks ++ all) ≡ length ks + length all = length-append ks all in
      let own : length (placed_of ks) ≡ length e.places = placed_length (records_of events e.doc) e.places (placed_of ks) is.placed in
      let same : length (placed_of ks) ≡ length ks = length-map ks (λ k. k.placed) in
      let others : length all ≡ places_in es = rest.count in
      omega arith

  numbered : (test : ℕ → Bool) → length (filter (λ k. test k.placed.no) (ks ++ all)) ≡ places_numbered test events (e ∷ es)
  numbered test =
      ap length (filter-append (λ (k : Pointed). test k.placed.no) ks all)
      ∙ (length-append (filter (λ (k : Pointed). test k.placed.no) ks) (filter (λ (k : Pointed). test k.placed.no) all)
      ∙ (ap (λ n. n + length (filter (λ (k : Pointed). test k.placed.no) all))
      (sym (pointed_numbered test ks) ∙ placed_numbered test (records_of events e.doc) e.places (placed_of ks) is.placed)
      ∙ ap (λ n. length (filter (names_number test (records_of events e.doc)) e.places) + n) (rest.numbered test)))

-- the calls of all entries, one entry's after another's
gather : (conflicts : Conflicts) (events : List Event) (entries : List DocPlaces) → IsHistory events
    → ((i : ℕ) (e : DocPlaces) → slice_get entries i ≡ Some e → AreValid conflicts (records_of events e.doc) e.places) → AreApart entries
    → (ks : List Pointed) × AreGathered conflicts events entries ks
gather conflicts events [] history valid apart = (
  [],
  record { parts = λ i e at. absurd (none_is_not_some e at); entered = λ i k at. absurd (none_is_not_some k at); count = refl; numbered = λ test. refl },
)
gather conflicts events (e ∷ es) history valid apart =
    let own = part_made conflicts events e history (valid 0 e refl) in
    let rest = gather conflicts events es history (λ i f at. valid (suc i) f at) (later_apart e es apart) in
    (own.0 ++ rest.0, gathered_more conflicts events e es own.0 rest.0 apart own.1 rest.1)

-- ---- by their points

-- sorting by points keeps them the calls of the entries
sorted_gathered : (conflicts : Conflicts) (events : List Event) (entries : List DocPlaces) (ks : List Pointed) → AreGathered conflicts events entries ks
    → AreGathered conflicts events entries (sort (λ k. k.point) ks)
sorted_gathered conflicts events entries ks is = record {
  parts = λ i e at. subst (IsPartOf conflicts events e) (sym (sort_filter (λ k. k.point) (is_of e.doc) ks (is.parts i e at).rising)) (is.parts i e at);
  entered = λ i k at. let from : Has ks k = sorted_from (λ k. k.point) ks i k at in is.entered from.0 k from.1;
  count = sort_length (λ k. k.point) ks ∙ is.count;
  numbered = λ test. sort_count (λ k. k.point) (λ (k : Pointed). test k.placed.no) ks ∙ is.numbered test;
}

-- the calls of all entries, by their points
pub gathered : (conflicts : Conflicts) (events : List Event) (entries : List DocPlaces) → IsHistory events
    → ((i : ℕ) (e : DocPlaces) → slice_get entries i ≡ Some e → AreValid conflicts (records_of events e.doc) e.places)
    → ((i j : ℕ) (e f : DocPlaces) → slice_get entries i ≡ Some e → slice_get entries j ≡ Some f → e.doc ≡ f.doc → i ≡ j)
    → (ks : List Pointed) × AreGathered conflicts events entries ks × IsRising (λ k. k.point) ks
gathered conflicts events entries history valid apart =
    let all = gather conflicts events entries history valid apart in
    (sort (λ k. k.point) all.0, sorted_gathered conflicts events entries all.0 all.1, sort_rising (λ k. k.point) all.0)
