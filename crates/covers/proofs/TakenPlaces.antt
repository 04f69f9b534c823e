-- Places at which witnesses take pairs, and the list of the pairs taken.
use Rattle.std.proofs.Common.{ℕ, ◌≡◌, ◌<◌, ◌≤◌, inl, inr, List, Bool, true, false, true≢false, cond, nat_lt, get_or, length, map, refl, sym, ap, subst, ◌∙◌, arith, Option, Some, None, slice_get}
use Rattle.std.specs.Prelude.{option_and_then, option_map}
use Rattle.std.specs.Cmp.Lexicographic.{bytes_decides}
use Rattle.std.specs.List.{position_or_len}
use Rattle.std.proofs.lemmas.Bool.{cases_lt, lt-ltb, ltb-true}
use Rattle.std.proofs.lemmas.List.Sums.{fails_before_first, passes_at_first}
use Rattle.std.proofs.lemmas.Option.{get_or_from_slice_get, slice_get-get_or, slice_get-map, slice_get_within}
use Rattle.version_pair.specs.declared.pair.Pair.{Pair}
use Rattle.events.specs.declared.event.Event.{Event}
use Rattle.events.specs.declared.record.Rec.{Rec}
use Rattle.events.specs.Events.{documents_of, is_same, records_of}
use Rattle.version_pair.proofs.ListLemmas.{IsMadeAt, kept_at, kept_in_order, made_in_order, made_of, mapped_from, none_is_not_some, same_some}
use Rattle.places.specs.declared.place.Place.{Place}
use Rattle.places.specs.Documents.{DocPlaces, witness_places}
use Rattle.places.specs.Witness.{Witness}
use Rattle.covers.specs.Covers.{IsOfShard, IsTakenAt, IsTakenTwice}
use Rattle.events.specs.Heard.{taken_by}
use Rattle.shard_numbers.specs.Taken.{IsTwice, pair_at, pairs_of_document, pairs_taken, shard_in}
use Rattle.covers.proofs.FlatPlaces.{AreInside, IsBefore, IsInside, flat_in_order, inside_in_order}
use Rattle.covers.proofs.ListedDocuments.{documents_apart}

-- ---- the shard of a document

-- whether a document has the id
abbrev has_id : List ℕ → List ℕ × ℕ → Bool
has_id d e = is_same d e.0

-- the first place of the id, or the number of documents
abbrev first_place : List ℕ → List (List ℕ × ℕ) → ℕ
first_place d ds = position_or_len (has_id d) ds

-- the document at the first place has the id
first_is : (d : List ℕ) (ds : List (List ℕ × ℕ)) → first_place d ds < length ds → (h : ℕ) × (slice_get ds (first_place d ds) ≡ Some (d, h))
first_is d ds within =
    let e : List ℕ × ℕ = get_or ds (first_place d ds) (d, 0) in
    let same : d ≡ e.0 = (bytes_decides d e.0).0 (passes_at_first (has_id d) ds (d, 0) within) in
    (e.1, slice_get-get_or ds (first_place d ds) (d, 0) within ∙ ap (λ c. Some (c, e.1)) (sym same))

-- a document with the id stands at the first place or later
first_within : (d : List ℕ) (ds : List (List ℕ × ℕ)) (k h : ℕ) → slice_get ds k ≡ Some (d, h) → first_place d ds ≤ k
first_within d ds k h at = elim (cases_lt k (first_place d ds)) as (λ _. first_place d ds ≤ k) [
  | inl before ↦ absurd (true≢false (sym passes ∙ fails_before_first (has_id d) ds k (d, h) before))
  | inr not ↦ not
] where
  passes : has_id d (get_or ds k (d, h)) ≡ true
  passes = ap (has_id d) (get_or_from_slice_get ds k (d, h) (d, h) at) ∙ (bytes_decides d d).1 refl

-- the shard that is looked up is that of the document
shard_from : (events : List Event) (d : List ℕ) (h : ℕ) → shard_in events d ≡ Some h → IsOfShard events d h
shard_from events d h found = by_test (nat_lt (first_place d (documents_of events)) (length (documents_of events))) refl found where
  by_test : (b : Bool) → nat_lt (first_place d (documents_of events)) (length (documents_of events)) ≡ b
      → option_and_then (λ k. option_map (λ (e : List ℕ × ℕ). e.1) (slice_get (documents_of events) k)) (cond b (Some (first_place d (documents_of events))) None) ≡ Some h
      → IsOfShard events d h
  by_test true is found =
      let first = first_is d (documents_of events) (ltb-true (first_place d (documents_of events)) (length (documents_of events)) is) in
      let shard : first.0 ≡ h = same_some first.0 h (sym (ap (option_map (λ (e : List ℕ × ℕ). e.1)) first.1) ∙ found) in
      (first_place d (documents_of events), first.1 ∙ ap (λ g. Some (d, g)) shard)
  by_test false is found = absurd (none_is_not_some h found)

-- and the shard of a document is found
shard_found : (events : List Event) (d : List ℕ) (h : ℕ) → IsOfShard events d h → shard_in events d ≡ Some h
shard_found events d h of =
    let ds : List (List ℕ × ℕ) = documents_of events in
    let n : ℕ = first_place d ds in
    let low : n ≤ of.0 = first_within d ds of.0 h of.1 in
    let within : of.0 < length ds = slice_get_within ds of.0 (d, h) of.1 in
    let first = first_is d ds (omega arith) in
    let place : n ≡ of.0 = documents_apart events n of.0 (d, first.0) (d, h) first.1 of.1 refl in
    ap (λ b. option_and_then (λ k. option_map (λ (e : List ℕ × ℕ). e.1) (slice_get ds k)) (cond b (Some n) None)) (lt-ltb n (length ds) (omega arith))
    ∙ ap (option_map (λ (e : List ℕ × ℕ). e.1)) (ap (slice_get ds) place ∙ of.1)

-- ---- the pairs of a document

-- the call at the place j of the witness takes the pair, of the shard
pub record IsPairAt (events : List Event) (w : Witness) (j : ℕ) (x : ℕ × Pair) : Type 0 where
  pub place : Place
  pub placed : slice_get w.places j ≡ Some place
  pub shard : shard_in events w.doc ≡ Some x.0
  pub takes : pair_at w.records place ≡ Some x.1

-- a pair with its shard, half by half
pub taken_parts : (shard : ℕ) (o : Option Pair) (q : ℕ × Pair) → option_map (λ p. (shard, p)) o ≡ Some q → (shard ≡ q.0) × (o ≡ Some q.1)
taken_parts shard None q takes = absurd (none_is_not_some q takes)
taken_parts shard (Some p) q takes =
    let same : (shard, p) ≡ q = same_some (shard, p) q takes in
    (ap (λ (x : ℕ × Pair). x.0) same, ap (λ (x : ℕ × Pair). Some x.1) same)

-- the pair of a place, with the shard
abbrev with_shard : ℕ → List Rec → Place → Option (ℕ × Pair)
with_shard h records p = option_map (λ q. (h, q)) (pair_at records p)

-- a pair that is made of a place of the witness is taken there
made_taken : (events : List Event) (w : Witness) (h j : ℕ) (x : ℕ × Pair) → shard_in events w.doc ≡ Some h → IsMadeAt (with_shard h w.records) w.places j x → IsPairAt events w j x
made_taken events w h j x is made =
    let pair = taken_parts h (pair_at w.records made.from) x made.made in
    record { place = made.from; placed = made.at; shard = is ∙ ap (λ g. Some g) pair.0; takes = pair.1 }

-- the pairs of the document of a witness
abbrev own_pairs : List Event → Witness → List (ℕ × Pair)
own_pairs events w = pairs_of_document (shard_in events w.doc) w

-- a pair of the document is taken at a place
pair_place : (events : List Event) (w : Witness) (a : ℕ) (x : ℕ × Pair) → slice_get (own_pairs events w) a ≡ Some x → (j : ℕ) × IsPairAt events w j x
pair_place events w a x at = by_shard (shard_in events w.doc) refl at where
  by_shard : (o : Option ℕ) → shard_in events w.doc ≡ o → slice_get (pairs_of_document o w) a ≡ Some x → (j : ℕ) × IsPairAt events w j x
  by_shard None is at = absurd (none_is_not_some x at)
  by_shard (Some h) is at = let m = made_of (with_shard h w.records) w.places a x at in (m.0, made_taken events w h m.0 x is m.1)

-- two of them are taken at two places
pair_places : (events : List Event) (w : Witness) (a b : ℕ) (x y : ℕ × Pair) → a < b → slice_get (own_pairs events w) a ≡ Some x → slice_get (own_pairs events w) b ≡ Some y
    → (j l : ℕ) × (j < l) × IsPairAt events w j x × IsPairAt events w l y
pair_places events w a b x y less at bt = by_shard (shard_in events w.doc) refl at bt where
  by_shard : (o : Option ℕ) → shard_in events w.doc ≡ o → slice_get (pairs_of_document o w) a ≡ Some x → slice_get (pairs_of_document o w) b ≡ Some y
      → (j l : ℕ) × (j < l) × IsPairAt events w j x × IsPairAt events w l y
  by_shard None is at bt = absurd (none_is_not_some x at)
  by_shard (Some h) is at bt =
      let m = made_in_order (with_shard h w.records) w.places a b x y less at bt in
      (m.0, m.1, m.2, made_taken events w h m.0 x is m.3, made_taken events w h m.1 y is m.4)

-- a pair that is taken is one of the document
taken_listed : (events : List Event) (w : Witness) (j : ℕ) (x : ℕ × Pair) → IsPairAt events w j x → (a : ℕ) × (slice_get (own_pairs events w) a ≡ Some x)
taken_listed events w j x s =
    let a = kept_at (with_shard x.0 w.records) w.places j s.place x s.placed (ap (option_map (λ q. (x.0, q))) s.takes) in
    (a.0, ap (λ o. slice_get (pairs_of_document o w) a.0) s.shard ∙ a.1)

-- two that are taken are two
taken_in_order : (events : List Event) (w : Witness) (j l : ℕ) (x y : ℕ × Pair) → j < l → IsPairAt events w j x → IsPairAt events w l y
    → (a b : ℕ) × (a < b) × (slice_get (own_pairs events w) a ≡ Some x) × (slice_get (own_pairs events w) b ≡ Some y)
taken_in_order events w j l x y less s t =
    let same : x.0 ≡ y.0 = same_some x.0 y.0 (sym s.shard ∙ t.shard) in
    let r = kept_in_order (with_shard x.0 w.records) w.places j l s.place t.place x y less s.placed t.placed (ap (option_map (λ q. (x.0, q))) s.takes)
    (ap (option_map (λ q. (x.0, q))) t.takes ∙ ap (λ g. Some (g, y.1)) same) in (
      r.0,
      r.1,
      r.2,
      ap (λ o. slice_get (pairs_of_document o w) r.0) s.shard ∙ r.3,
      ap (λ o. slice_get (pairs_of_document o w) r.1) s.shard ∙ r.4,
    )

-- ---- places of entries

-- the witnesses carry the records of their documents
abbrev pub AreOwn : List Event → List Witness → Type 0
AreOwn events ws = (i : ℕ) (w : Witness) → slice_get ws i ≡ Some w → w.records ≡ records_of events w.doc

-- the entries of the witnesses
abbrev pub entries_of : List Witness → List DocPlaces
entries_of ws = map witness_places ws

-- a witness has its entry at its place
pub entry_at : (ws : List Witness) (i : ℕ) (w : Witness) → slice_get ws i ≡ Some w → slice_get (entries_of ws) i ≡ Some (witness_places w)
entry_at ws i w at = slice_get-map witness_places ws i ∙ ap (option_map witness_places) at

-- a pair that is taken at a place of a witness is taken there by its entry
entry_takes : (events : List Event) (ws : List Witness) (i j : ℕ) (w : Witness) (x : ℕ × Pair) → AreOwn events ws → slice_get ws i ≡ Some w → IsPairAt events w j x
    → IsTakenAt events (entries_of ws) i j x.0 x.1
entry_takes events ws i j w x own at s = by_record (slice_get w.records s.place.rec) refl s.takes where
  by_record : (o : Option Rec) → slice_get w.records s.place.rec ≡ o → option_and_then (λ (r : Rec). taken_by r.heard s.place.pair) o ≡ Some x.1 → IsTakenAt events (entries_of ws) i j x.0 x.1
  by_record None is takes = absurd (none_is_not_some x.1 takes)
  by_record (Some r) is takes = record {
    entry = witness_places w;
    place = s.place;
    called = r;
    entered = entry_at ws i w at;
    placed = s.placed;
    names = ap (λ rs. slice_get rs s.place.rec) (sym (own i w at)) ∙ is;
    shard = shard_from events w.doc x.0 s.shard;
    takes = takes;
  }

-- and one that is taken by an entry is taken by its witness
pub record IsTakenBy (events : List Event) (ws : List Witness) (i j : ℕ) (x : ℕ × Pair) : Type 0 where
  pub witness : Witness
  pub at : slice_get ws i ≡ Some witness
  pub taken : IsPairAt events witness j x

witness_takes : (events : List Event) (ws : List Witness) (i j h : ℕ) (q : Pair) → AreOwn events ws → IsTakenAt events (entries_of ws) i j h q → IsTakenBy events ws i j (h, q)
witness_takes events ws i j h q own t =
    let m = mapped_from witness_places ws i t.entry t.entered in
    let w : Witness = m.0 in
    let doc : w.doc ≡ t.entry.doc = ap (λ (e : DocPlaces). e.doc) m.2 in
    let names : slice_get w.records t.place.rec ≡ Some t.called = ap (λ rs. slice_get rs t.place.rec) (own i w m.1 ∙ ap (records_of events) doc) ∙ t.names in
    record {
      witness = w;
      at = m.1;
      taken = record {
        place = t.place;
        placed = ap (λ (e : DocPlaces). slice_get e.places j) m.2 ∙ t.placed;
        shard = ap (shard_in events) doc ∙ shard_found events t.entry.doc h t.shard;
        takes = ap (option_and_then (λ (r : Rec). taken_by r.heard t.place.pair)) names ∙ t.takes;
      };
    }

-- ---- twice

-- a pair that stands twice in the list of pairs taken is taken at two places
pub twice_taken : (events : List Event) (ws : List Witness) (h : ℕ) (q : Pair) → AreOwn events ws → IsTwice (pairs_taken events ws) (h, q)
    → IsTakenTwice events (entries_of ws) h q
twice_taken events ws h q own (m, n, less, at, bt) = by_places (flat_in_order (own_pairs events) ws m n (h, q) (h, q) less at bt) where
  by_order : (t : AreInside (own_pairs events) ws (h, q) (h, q)) → IsBefore t.i t.a t.k t.b → IsTakenTwice events (entries_of ws) h q
  by_order t (inl below) =
      let j = pair_place events t.one.from t.a (h, q) t.one.inside in
      let l = pair_place events t.other.from t.b (h, q) t.other.inside in
      record {
        entry = t.i;
        place = j.0;
        other_entry = t.k;
        other_place = l.0;
        one = entry_takes events ws t.i j.0 t.one.from (h, q) own t.one.at j.1;
        other = entry_takes events ws t.k l.0 t.other.from (h, q) own t.other.at l.1;
        apart = λ same. let equal : t.i ≡ t.k = same.0 in omega (arith, below);
      }
  by_order t (inr here) =
      let one : t.other.from ≡ t.one.from = same_some t.other.from t.one.from (sym t.other.at ∙ (ap (slice_get ws) (sym here.0) ∙ t.one.at)) in
      let r = pair_places events t.one.from t.a t.b (h, q) (h, q) here.1 t.one.inside (subst (λ w. slice_get (own_pairs events w) t.b ≡ Some (h, q)) one t.other.inside) in
      let rise : r.0 < r.1 = r.2 in
      record {
        entry = t.i;
        place = r.0;
        other_entry = t.i;
        other_place = r.1;
        one = entry_takes events ws t.i r.0 t.one.from (h, q) own t.one.at r.3;
        other = entry_takes events ws t.i r.1 t.one.from (h, q) own t.one.at r.4;
        apart = λ same. let equal : r.0 ≡ r.1 = same.1 in omega (arith, rise);
      }

  by_places : AreInside (own_pairs events) ws (h, q) (h, q) → IsTakenTwice events (entries_of ws) h q
  by_places t = by_order t t.before

-- two places inside, the first before the second, are two places of the list
inside_twice : (events : List Event) (ws : List Witness) (i a k b : ℕ) (x : ℕ × Pair) → IsBefore i a k b → IsInside (own_pairs events) ws i a x → IsInside (own_pairs events) ws k b x
    → IsTwice (pairs_taken events ws) x
inside_twice events ws i a k b x before s t = inside_in_order (own_pairs events) ws i a k b x x before s t

-- the pair is taken by a witness and by a later one
later_witness : (events : List Event) (ws : List Witness) (i j k l : ℕ) (x : ℕ × Pair) → i < k → IsTakenBy events ws i j x → IsTakenBy events ws k l x → IsTwice (pairs_taken events ws) x
later_witness events ws i j k l x less s t =
    let a = taken_listed events s.witness j x s.taken in
    let b = taken_listed events t.witness l x t.taken in
    inside_twice events ws i a.0 k b.0 x (inl less) (record { from = s.witness; at = s.at; inside = a.1 }) (record { from = t.witness; at = t.at; inside = b.1 })

-- the pair is taken at a place of a witness and at a later one
later_place : (events : List Event) (ws : List Witness) (i j k l : ℕ) (x : ℕ × Pair) → i ≡ k → j < l → IsTakenBy events ws i j x → IsTakenBy events ws k l x → IsTwice (pairs_taken events ws) x
later_place events ws i j k l x same less s t =
    let one : t.witness ≡ s.witness = same_some t.witness s.witness (sym t.at ∙ (ap (slice_get ws) (sym same) ∙ s.at)) in
    let r = taken_in_order events s.witness j l x x less s.taken (subst (λ w. IsPairAt events w l x) one t.taken) in
    inside_twice events ws i r.0 i r.1 x (inr (refl, r.2)) (record { from = s.witness; at = s.at; inside = r.3 }) (record { from = s.witness; at = s.at; inside = r.4 })

-- and a pair that is taken at two places stands in it twice
pub taken_twice : (events : List Event) (ws : List Witness) (h : ℕ) (q : Pair) → AreOwn events ws → IsTakenTwice events (entries_of ws) h q
    → IsTwice (pairs_taken events ws) (h, q)
taken_twice events ws h q own t =
    let i : ℕ = t.entry in
    let j : ℕ = t.place in
    let k : ℕ = t.other_entry in
    let l : ℕ = t.other_place in
    by_entries i j k l (witness_takes events ws i j h q own t.one) (witness_takes events ws k l h q own t.other) t.apart where
      by_entries : (i j k l : ℕ) → IsTakenBy events ws i j (h, q) → IsTakenBy events ws k l (h, q) → ((i ≡ k) × (j ≡ l) → ⊥) → IsTwice (pairs_taken events ws) (h, q)
      by_entries i j k l s u apart = elim (cases_lt i k) as (λ _. IsTwice (pairs_taken events ws) (h, q)) [
        | inl less ↦ later_witness events ws i j k l (h, q) less s u
        | inr not ↦ elim (cases_lt k i) as (λ _. IsTwice (pairs_taken events ws) (h, q)) [
          | inl less ↦ later_witness events ws k l i j (h, q) less u s
          | inr neither ↦ (let same : i ≡ k = omega (arith, not, neither) in
              elim (cases_lt j l) as (λ _. IsTwice (pairs_taken events ws) (h, q)) [
                | inl less ↦ later_place events ws i j k l (h, q) same less s u
                | inr past ↦ elim (cases_lt l j) as (λ _. IsTwice (pairs_taken events ws) (h, q)) [
                  | inl less ↦ later_place events ws k l i j (h, q) (sym same) less u s
                  | inr other ↦ absurd (apart (same, omega (arith, past, other)))
                ]
              ])
        ]
      ]
