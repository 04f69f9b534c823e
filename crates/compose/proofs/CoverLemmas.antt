-- Entries whose places say of an order that explains the history, restricted to each document, are a cover.
use Rattle.std.proofs.Common.{ℕ, ◌≡◌, List, map, refl, sym, ap, subst, ◌∙◌, Option, Some, None, slice_get}
use Rattle.std.specs.Prelude.{option_and_then}
use Rattle.version_pair.specs.declared.pair.Pair.{Pair}
use Rattle.doc_register.specs.declared.reply.Reply.{Reply as Answer}
use Rattle.doc_register.specs.declared.state.Conflicts.{Conflicts}
use Rattle.doc_register.specs.Run.{Entry, pair_taken, taken, taken_at}
use Rattle.doc_register.proofs.RunLemmas.{taken_of}
use Rattle.doc_register.proofs.RunLaws.{no_pair_twice}
use Rattle.events.specs.declared.event.Event.{Event}
use Rattle.events.specs.declared.event.Event.TheVariants.{Call}
use Rattle.events.specs.declared.record.Rec.{Rec}
use Rattle.events.specs.Events.{IsHistory, documents_of, records_of}
use Rattle.events.specs.Order.{Explains, IsOfCall, Placed, run_of}
use Rattle.version_pair.proofs.ListLemmas.{mapped_from, same_some}
use Rattle.places.specs.declared.place.Place.{Place}
use Rattle.places.specs.Places.{AreValid}
use Rattle.places.specs.Laws.{ArePlacedBy, SaysOfEntry}
use Rattle.places.specs.Documents.{DocPlaces}
use Rattle.places.proofs.DocumentLaws.{places_are_orders, reports_of}
use Rattle.covers.specs.Covers.{AreCover, ArePairsDistinct, IsEntered, IsTakenAt}
use Rattle.events.specs.Heard.{taken_by}
use Rattle.compose.specs.Laws.{restricted}
use Rattle.deciding.proofs.OrderedSteps.{mapped_at}
use Rattle.compose.proofs.CalledDocuments.{shard_of_call}
use Rattle.covers.proofs.ListedDocuments.{documents_apart}
use Rattle.compose.proofs.RestrictedOrders.{restricted_change, restricted_explains, restricted_from, restricted_once}

-- ---- places and what stands in the order

-- the pair that a place takes is the one that its call takes
reported_pair : (heard : Option (ℕ × Answer)) (pair : Option Pair) (e : Entry) → SaysOfEntry heard pair e → pair_taken e.reply e.hidden ≡ taken_by heard pair
reported_pair None pair e reports = reports.1
reported_pair (Some x) pair e reports = ap (λ r. pair_taken r e.hidden) reports.0 ∙ ap (λ h. pair_taken x.1 h) reports.1

-- ---- the entries

-- the places are valid for the document, and say of the order restricted to it
abbrev HasPlaces : Conflicts → List Event → List Placed → List ℕ → List Place → Type 0
HasPlaces conflicts events order d places = AreValid conflicts (records_of events d) places × ArePlacedBy (records_of events d) places (restricted events d order)

-- each document has such places
places_of : (conflicts : Conflicts) (events : List Event) (order : List Placed) → IsHistory events → Explains conflicts events order → (d : List ℕ)
    → (places : List Place) × HasPlaces conflicts events order d places
places_of conflicts events order history explains d =
    let v = places_are_orders.valid conflicts events d (restricted events d order) history
    (restricted_explains conflicts events d order history explains) (restricted_change conflicts events d order history explains) in
    (v.0, (v.1, v.2))

-- the entries are of the documents of the history, in their order, and each has such places
pub record AreRestricted (conflicts : Conflicts) (events : List Event) (order : List Placed) (entries : List DocPlaces) : Type 0 where
  pub known : (i : ℕ) (e : DocPlaces) → slice_get entries i ≡ Some e → (h : ℕ) × (slice_get (documents_of events) i ≡ Some (e.doc, h))
  pub complete : (k : ℕ) (d : List ℕ × ℕ) → slice_get (documents_of events) k ≡ Some d → IsEntered entries d.0
  pub valid : (i : ℕ) (e : DocPlaces) → slice_get entries i ≡ Some e → AreValid conflicts (records_of events e.doc) e.places
  pub placed : (i : ℕ) (e : DocPlaces) → slice_get entries i ≡ Some e → ArePlacedBy (records_of events e.doc) e.places (restricted events e.doc order)

-- the entry that gives a document its places
abbrev entry_of : (List ℕ → List Place) → List ℕ × ℕ → DocPlaces
entry_of chosen d = record { doc = d.0; places = chosen d.0 }

-- the entries that give the documents such places
entries_restricted : (conflicts : Conflicts) (events : List Event) (order : List Placed) (chosen : List ℕ → List Place) → ((d : List ℕ) → HasPlaces conflicts events order d (chosen d))
    → AreRestricted conflicts events order (map (entry_of chosen) (documents_of events))
entries_restricted conflicts events order chosen has = record {
  known = λ i e at.
      let d = mapped_from (entry_of chosen) (documents_of events) i e at in
      (d.0.1, d.1 ∙ ap (λ c. Some (c, d.0.1)) (ap (λ (x : DocPlaces). x.doc) d.2));
  complete = λ k d at. (k, entry_of chosen d, mapped_at (entry_of chosen) (documents_of events) k d at, refl);
  valid = λ i e at. (has_places i e at).0;
  placed = λ i e at. (has_places i e at).1;
} where
  has_places : (i : ℕ) (e : DocPlaces) → slice_get (map (entry_of chosen) (documents_of events)) i ≡ Some e → HasPlaces conflicts events order e.doc e.places
  has_places i e at =
      let d = mapped_from (entry_of chosen) (documents_of events) i e at in
      subst (λ (x : DocPlaces). HasPlaces conflicts events order x.doc x.places) d.2 (has d.0.0)

-- there are such entries
pub restriction : (conflicts : Conflicts) (events : List Event) (order : List Placed) → IsHistory events → Explains conflicts events order
    → (entries : List DocPlaces) × AreRestricted conflicts events order entries
restriction conflicts events order history explains = (
  map (entry_of (λ d. (places_of conflicts events order history explains d).0)) (documents_of events),
  entries_restricted conflicts events order (λ d. (places_of conflicts events order history explains d).0) (λ d. (places_of conflicts events order history explains d).1),
)

-- ---- no pair twice

-- the call at the place j of the entry stands at the place k of the order and takes the pair of the shard
record IsTakenIn (events : List Event) (order : List Placed) (e : DocPlaces) (j : ℕ) (x : ℕ × Pair) (k : ℕ) (p : Placed) : Type 0 where
  place : slice_get (restricted events e.doc order) j ≡ Some p
  at : slice_get order k ≡ Some p
  own : p.entry.doc ≡ e.doc
  takes : taken_at (run_of order) k ≡ Some x

-- a pair that is taken at a place is taken in the order
taken_in : (conflicts : Conflicts) (events : List Event) (order : List Placed) (entries : List DocPlaces) → IsHistory events → Explains conflicts events order → AreRestricted conflicts events order entries
    → (i j h : ℕ) (q : Pair) (t : IsTakenAt events entries i j h q) → (k : ℕ) × (p : Placed) × IsTakenIn events order t.entry j (h, q) k p
taken_in conflicts events order entries history explains are i j h q t =
    let d = t.entry.doc in
    let reported = reports_of (records_of events d) t.entry.places (restricted events d order) j t.place (are.placed i t.entry t.entered) t.placed in
    let p : Placed = reported.0 in
    let s = restricted_from events d order j p reported.1 in
    let of : IsOfCall events p = explains.is_order.calls s.0 p s.1.at in
    let one : reported.2.named ≡ t.called = same_some reported.2.named t.called (sym reported.2.names ∙ t.names) in
    let pair : pair_taken p.entry.reply p.entry.hidden ≡ Some q =
    reported_pair reported.2.named.heard t.place.pair p.entry reported.2.reports ∙ (ap (λ (r : Rec). taken_by r.heard t.place.pair) one ∙ t.takes) in
    let shard : p.entry.shard ≡ h = shard_of_call events history of.0 p.no p.entry.shard h d p.entry.op
    (subst (λ c. slice_get events of.0 ≡ Some (Call p.entry.shard p.no c p.entry.op)) s.1.own of.1) t.shard in (
      s.0,
      p,
      record {
        place = reported.1;
        at = s.1.at;
        own = s.1.own;
        takes = ap (option_and_then taken) (mapped_at (λ (x : Placed). x.entry) order s.0 p s.1.at) ∙ (taken_of p.entry (Some q) pair ∙ ap (λ g. Some (g, q)) shard);
      },
    )

-- no pair of a shard is taken at two places of the entries
pairs_distinct : (conflicts : Conflicts) (events : List Event) (order : List Placed) (entries : List DocPlaces) → IsHistory events → Explains conflicts events order → AreRestricted conflicts events order entries
    → ArePairsDistinct events entries
pairs_distinct conflicts events order entries history explains are i j k l h q a b =
    let x = taken_in conflicts events order entries history explains are i j h q a in
    let y = taken_in conflicts events order entries history explains are k l h q b in
    let place : x.0 ≡ y.0 = no_pair_twice (run_of order) explains.legal x.0 y.0 (h, q) x.2.takes y.2.takes in
    let one : x.1 ≡ y.1 = same_some x.1 y.1 (sym x.2.at ∙ (ap (slice_get order) place ∙ y.2.at)) in
    let doc : a.entry.doc ≡ b.entry.doc = sym x.2.own ∙ (ap (λ (p : Placed). p.entry.doc) one ∙ y.2.own) in
    let d = are.known i a.entry a.entered in
    let e = are.known k b.entry b.entered in (
      documents_apart events i k (a.entry.doc, d.0) (b.entry.doc, e.0) d.1 e.1 doc,
      restricted_once conflicts events a.entry.doc order explains j l x.1 y.1 x.2.place
          (subst (λ c. slice_get (restricted events c order) l ≡ Some y.1) (sym doc) y.2.place) (ap (λ (p : Placed). p.no) one),
    )

-- ---- the cover

-- such entries are a cover
pub restriction_covers : (conflicts : Conflicts) (events : List Event) (order : List Placed) (entries : List DocPlaces) → IsHistory events → Explains conflicts events order
    → AreRestricted conflicts events order entries → AreCover conflicts events entries
restriction_covers conflicts events order entries history explains are = record {
  fine = record {
    known = λ i e at. let d = are.known i e at in (d.0, (i, d.1));
    once = λ i j e f at bt same.
        let d = are.known i e at in
        let c = are.known j f bt in
        documents_apart events i j (e.doc, d.0) (f.doc, c.0) d.1 c.1 same;
    valid = are.valid;
  };
  complete = are.complete;
  distinct = pairs_distinct conflicts events order entries history explains are;
}
