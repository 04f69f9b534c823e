-- The gathered calls as a run: each document's part is a run of it alone, and no pair of a shard is taken twice.
use Rattle.std.proofs.Common.{ℕ, zero, suc, ◌≡◌, List, [], ◌∷◌, refl, sym, ap, subst, ◌∙◌, Option, Some, None, slice_get}
use Rattle.std.specs.Cmp.Lexicographic.{bytes_decides}
use Rattle.version_pair.specs.declared.pair.Pair.{Pair}
use Rattle.doc_register.specs.declared.reply.Reply.{Reply as Answer}
use Rattle.doc_register.specs.declared.state.Conflicts.{Conflicts}
use Rattle.doc_register.specs.declared.state.DocState.{DocState}
use Rattle.doc_register.specs.declared.state.DocState.TheVariants.{Never}
use Rattle.doc_register.specs.Run.{Entry, IsDocRun, PairsDistinct, pair_taken, part_of, taken, taken_at}
use Rattle.doc_register.proofs.RunLaws.{locality}
use Rattle.events.specs.declared.event.Event.{Event}
use Rattle.events.specs.Events.{IsCallAt, IsHistory, records_of}
use Rattle.events.specs.Order.{IsOfCall, Placed, run_of}
use Rattle.version_pair.proofs.ListLemmas.{none_is_not_some, same_some}
use Rattle.places.specs.Laws.{SaysOfEntry}
use Rattle.places.specs.Documents.{DocPlaces}
use Rattle.places.proofs.DocumentLaws.{reported_by}
use Rattle.covers.specs.Covers.{AreCover, IsOfShard, IsTakenAt}
use Rattle.events.specs.Heard.{taken_by}
use Rattle.covers.proofs.TakenPlaces.{taken_parts}
use Rattle.events.proofs.CalledDocuments.{document_called}
use Rattle.compose.proofs.Filtering.{filter_all, part_from, rank, rank_once}
use Rattle.compose.proofs.Gathering.{AreGathered, IsPartOf}
use Rattle.compose.proofs.Points.{Pointed, is_of, part, part_run, placed_at, placed_of}
use Rattle.compose.proofs.Standing.{IsListed, listed, passes}

-- the part of a document is a run of it alone
pub part_legal : (conflicts : Conflicts) (events : List Event) (entries : List DocPlaces) (ks : List Pointed) → AreGathered conflicts events entries ks → (d : List ℕ)
    → (t : DocState) × IsDocRun Never (part_of d (run_of (placed_of ks))) t
part_legal conflicts events entries ks all d = subst (λ es. (t : DocState) × IsDocRun Never es t) (sym (part_run d ks)) (by_part (part d ks) refl) where
  twice : (c : List ℕ) → part c (part c ks) ≡ part c ks
  twice c = filter_all (is_of c) (part c ks) (λ i k at. (part_from (is_of c) ks i k at).2)

  entered_part : (e : DocPlaces) → IsPartOf conflicts events e (part e.doc ks) → (t : DocState) × IsDocRun Never (run_of (placed_of (part e.doc ks))) t
  entered_part e is =
      subst (λ es. (t : DocState) × IsDocRun Never es t) (part_run e.doc (part e.doc ks) ∙ ap (λ ls. run_of (placed_of ls)) (twice e.doc))
      (((locality (run_of (placed_of (part e.doc ks)))).0 is.explains.legal).0 e.doc)

  by_part : (ls : List Pointed) → part d ks ≡ ls → (t : DocState) × IsDocRun Never (run_of (placed_of (part d ks))) t
  by_part [] is = (Never, subst (λ ls. IsDocRun Never (run_of (placed_of ls)) Never) (sym is) refl)
  by_part (k ∷ ls) is =
      let from = part_from (is_of d) ks 0 k (ap (λ xs. slice_get xs 0) is) in
      let a = listed conflicts events entries ks all from.0 k from.1 in
      let doc : a.entry.doc ≡ d = sym a.doc ∙ (bytes_decides k.placed.entry.doc d).0 from.2 in
      subst (λ c. (t : DocState) × IsDocRun Never (run_of (placed_of (part c ks))) t) doc (entered_part a.entry a.own)

-- the call at the place that takes a pair of a shard
taken_by_call : (ks : List Pointed) (i : ℕ) (q : ℕ × Pair) → taken_at (run_of (placed_of ks)) i ≡ Some q → (k : Pointed) × (slice_get ks i ≡ Some k) × (taken k.placed.entry ≡ Some q)
taken_by_call [] i q takes = absurd (none_is_not_some q takes)
taken_by_call (k ∷ ks) zero q takes = (k, refl, takes)
taken_by_call (k ∷ ks) (suc i) q takes = taken_by_call ks i q takes

-- a place says which pair the call there takes
reported_pair : (heard : Option (ℕ × Answer)) (given : Option Pair) (e : Entry) (q : Pair) → SaysOfEntry heard given e → pair_taken e.reply e.hidden ≡ Some q → taken_by heard given ≡ Some q
reported_pair None given e q reports takes = sym reports.1 ∙ takes
reported_pair (Some heard) given e q reports takes = ap (λ h. pair_taken heard.1 h) (sym reports.1) ∙ (ap (λ r. pair_taken r e.hidden) (sym reports.0) ∙ takes)

-- the shard of an entry's document is that of its calls
own_shard : (conflicts : Conflicts) (events : List Event) (entries : List DocPlaces) → IsHistory events → AreCover conflicts events entries → (number : ℕ) (e : DocPlaces)
    → slice_get entries number ≡ Some e → (p : Placed) → IsOfCall events p → p.entry.doc ≡ e.doc → IsOfShard events e.doc p.entry.shard
own_shard conflicts events entries history cover number e entered p call doc =
    let known = cover.fine.known number e entered in
    let called = document_called events (e.doc, known.0) (known.1.0, known.1.1) in
    let shard : known.0 ≡ p.entry.shard = history.one_shard called.0 call.0 called.1 p.no known.0 p.entry.shard e.doc called.2 p.entry.op called.3
    (subst (λ d. IsCallAt events call.0 p.no p.entry.shard d p.entry.op) doc call.1) in
    subst (λ h. IsOfShard events e.doc h) shard known.1

-- the place of an entry takes the pair that the call takes
taken_there : (conflicts : Conflicts) (events : List Event) (entries : List DocPlaces) (ks : List Pointed) → IsHistory events → AreCover conflicts events entries → (i : ℕ) (k : Pointed) (q : ℕ × Pair)
    → (a : IsListed conflicts events entries ks i k) → taken k.placed.entry ≡ Some q → IsTakenAt events entries a.number (rank (is_of a.entry.doc) ks i) q.0 q.1
taken_there conflicts events entries ks history cover i k q a takes =
    let r : ℕ = rank (is_of a.entry.doc) ks i in
    let reported = reported_by (records_of events a.entry.doc) a.entry.places (placed_of (part a.entry.doc ks)) r k.placed a.own.placed (placed_at (part a.entry.doc ks) r k a.stands) in
    let pair = taken_parts k.placed.entry.shard (pair_taken k.placed.entry.reply k.placed.entry.hidden) q takes in
    record {
      entry = a.entry;
      place = reported.0;
      called = reported.2.named;
      entered = a.entered;
      placed = reported.1;
      names = reported.2.names;
      shard = subst (λ h. IsOfShard events a.entry.doc h) pair.0 (own_shard conflicts events entries history cover a.number a.entry a.entered k.placed a.call a.doc);
      takes = reported_pair reported.2.named.heard reported.0.pair k.placed.entry q.1 reported.2.reports pair.1;
    }

-- no pair of a shard is taken at two places
pub distinct : (conflicts : Conflicts) (events : List Event) (entries : List DocPlaces) (ks : List Pointed) → IsHistory events → AreCover conflicts events entries → AreGathered conflicts events entries ks
    → PairsDistinct (run_of (placed_of ks))
distinct conflicts events entries ks history cover all i j q one two =
    let x = taken_by_call ks i q one in
    let y = taken_by_call ks j q two in
    let a = listed conflicts events entries ks all i x.0 x.1 in
    let b = listed conflicts events entries ks all j y.0 y.1 in
    let same = cover.distinct a.number (rank (is_of a.entry.doc) ks i) b.number (rank (is_of b.entry.doc) ks j) q.0 q.1
    (taken_there conflicts events entries ks history cover i x.0 q a x.2) (taken_there conflicts events entries ks history cover j y.0 q b y.2) in
    let entry : a.entry ≡ b.entry = same_some a.entry b.entry (sym a.entered ∙ (ap (λ n. slice_get entries n) same.0 ∙ b.entered)) in
    let doc : b.entry.doc ≡ a.entry.doc = ap (λ e. e.doc) (sym entry) in
    rank_once (is_of a.entry.doc) ks i j x.0 y.0 x.1 y.1 (passes a.entry.doc x.0 a.doc) (passes a.entry.doc y.0 (b.doc ∙ doc))
    (same.1 ∙ ap (λ d. rank (is_of d) ks j) doc)
