-- Valid places of a document's records are the orders that explain the document.
use Rattle.std.proofs.lemmas.Bool.{cases_lt}
use Rattle.std.proofs.Common.{ℕ, zero, suc, ◌≡◌, ◌<◌, inl, inr, List, [], ◌∷◌, refl, sym, ap, subst, ◌∙◌, arith, true, false, Option, Some, None, slice_get}
use Rattle.std.specs.Prelude.{IsSome, ◌==◌, if◌then◌else◌}
use Rattle.std.specs.Cmp.Lexicographic.{pointwise}
use Rattle.version_pair.specs.declared.pair.Pair.{Pair}
use Rattle.doc_register.specs.declared.op.Op.{Op}
use Rattle.doc_register.specs.declared.op.Op.TheVariants.{Get, Index, Delete, Create}
use Rattle.doc_register.specs.declared.reply.Reply.{Reply as Answer}
use Rattle.doc_register.specs.declared.reply.Reply.TheVariants.{Indexed, Deleted, Found, Missing, Conflict}
use Rattle.doc_register.specs.declared.state.Conflicts.{Conflicts}
use Rattle.doc_register.specs.declared.state.Conflicts.TheVariants.{Plain}
use Rattle.doc_register.specs.declared.state.DocState.{DocState}
use Rattle.doc_register.specs.declared.state.DocState.TheVariants.{Never}
use Rattle.doc_register.specs.Laws.{ChangesNothing}
use Rattle.doc_register.specs.Register.{DocStep, Performs, WriteStep, performed_reply}
use Rattle.doc_register.specs.Run.{Entry, IsDocRun, pair_taken, part_of}
use Rattle.doc_register.proofs.RunLemmas.{legal_of_one, same_id, step_kind}
use Rattle.doc_register.proofs.RunLaws.{locality, pair_performs}
use Rattle.events.specs.declared.event.Event.{Event}
use Rattle.events.specs.declared.record.Rec.{Rec}
use Rattle.events.specs.Events.{IsCallAt, IsHistory, IsPending, IsReplyAt, PassesAt, Precedes, is_call, records_of}
use Rattle.events.specs.Laws.{IsRecordAt, IsSplitByDocument}
use Rattle.events.specs.Order.{IsOfCall, Placed, run_of}
use Rattle.events.proofs.HistoryLemmas.{call_passes}
use Rattle.version_pair.proofs.ListLemmas.{none_is_not_some, same_some}
use Rattle.events.proofs.RecordLaws.{split_by_document}
use Rattle.places.specs.declared.place.Place.{Place}
use Rattle.places.specs.Places.{AreValidSoFar, AreValid, GivesAsMay, IsHeardBefore, IsNamed, IsPlaceOf, IsPlaceRun, IsUnansweredGet, StepsAt}
use Rattle.places.specs.Laws.{AllChange, ArePlacedBy, ExplainsDocument, IsPlacedBy, PlacesAreOrders, SaysOfEntry}
use Rattle.events.proofs.EventLemmas.{same_call}

-- ---- steps

-- a performed write is a step with the reply of a performed write
performed_step : (s : DocState) (op : Op) (q : Pair) (t : DocState) → Performs s op q t → DocStep s op (performed_reply s op q) None t
performed_step s Get q t w = absurd w.allowed
performed_step s (Index k c) q t w = (w, refl)
performed_step s (Delete c) q t w = (w, refl)
performed_step s (Create k) q t w = (w, refl)

-- what a step of an unanswered call, completed, takes
completed_pair : (s : DocState) (op : Op) (q : Pair) (t : DocState) → (op ≡ Get → ⊥) → DocStep s op (performed_reply s op q) None t → pair_taken (performed_reply s op q) None ≡ Some q
completed_pair s Get q t not step = absurd (not refl)
completed_pair s (Index k c) q t not step = refl
completed_pair s (Delete c) q t not step = refl
completed_pair s (Create k) q t not step = refl

-- only a conflict hides a pair
hides_as_may : (conflicts : Conflicts) (s : DocState) (op : Op) (at : ℕ) (reply : Answer) (hidden : Option Pair) (t : DocState) → (conflicts ≡ Plain → hidden ≡ None)
    → WriteStep s op reply hidden t → GivesAsMay conflicts (Some (at, reply)) hidden
hides_as_may conflicts s op at (Indexed q created) None t plain step = refl
hides_as_may conflicts s op at (Indexed q created) (Some h) t plain step = absurd step
hides_as_may conflicts s op at (Deleted q found) None t plain step = refl
hides_as_may conflicts s op at (Deleted q found) (Some h) t plain step = absurd step
hides_as_may conflicts s op at (Found q k) hidden t plain step = absurd step
hides_as_may conflicts s op at Missing hidden t plain step = absurd step
hides_as_may conflicts s op at Conflict hidden t plain step = plain

get_hides_none : (conflicts : Conflicts) (at : ℕ) (reply : Answer) (hidden : Option Pair) → hidden ≡ None → GivesAsMay conflicts (Some (at, reply)) hidden
get_hides_none conflicts at (Indexed q created) hidden none = none
get_hides_none conflicts at (Deleted q found) hidden none = none
get_hides_none conflicts at (Found q k) hidden none = none
get_hides_none conflicts at Missing hidden none = none
get_hides_none conflicts at Conflict hidden none = λ plain. none

gives_as_may : (conflicts : Conflicts) (s : DocState) (op : Op) (at : ℕ) (reply : Answer) (hidden : Option Pair) (t : DocState) → (conflicts ≡ Plain → hidden ≡ None)
    → DocStep s op reply hidden t → GivesAsMay conflicts (Some (at, reply)) hidden
gives_as_may conflicts s Get at reply hidden t plain step = get_hides_none conflicts at reply hidden step.1
gives_as_may conflicts s (Index k c) at reply hidden t plain step = hides_as_may conflicts s (Index k c) at reply hidden t plain step
gives_as_may conflicts s (Delete c) at reply hidden t plain step = hides_as_may conflicts s (Delete c) at reply hidden t plain step
gives_as_may conflicts s (Create k) at reply hidden t plain step = hides_as_may conflicts s (Create k) at reply hidden t plain step

-- under plain conflicts no place gives a pair to an answered call
plain_hides_none : (conflicts : Conflicts) (at : ℕ) (reply : Answer) (pair : Option Pair) → conflicts ≡ Plain → GivesAsMay conflicts (Some (at, reply)) pair → pair ≡ None
plain_hides_none conflicts at (Indexed q created) pair plain gives = gives
plain_hides_none conflicts at (Deleted q found) pair plain gives = gives
plain_hides_none conflicts at (Found q k) pair plain gives = gives
plain_hides_none conflicts at Missing pair plain gives = gives
plain_hides_none conflicts at Conflict pair plain gives = gives plain

-- ---- places and what stands in the order

-- what stands in the order is described by its place
pub reported_by : (records : List Rec) (ps : List Place) (qs : List Placed) (i : ℕ) (q : Placed) → ArePlacedBy records ps qs → slice_get qs i ≡ Some q
    → (p : Place) × (slice_get ps i ≡ Some p) × IsPlacedBy records p q
reported_by records [] [] i q all at = absurd (none_is_not_some q at)
reported_by records [] (u ∷ qs) i q all at = absurd all
reported_by records (p ∷ ps) [] i q all at = absurd all
reported_by records (p ∷ ps) (u ∷ qs) zero q all at = (p, refl, subst (λ k. IsPlacedBy records p k) (same_some u q at) all.0)
reported_by records (p ∷ ps) (u ∷ qs) (suc i) q all at = reported_by records ps qs i q all.1 at

-- a place describes what stands there
pub reports_of : (records : List Rec) (ps : List Place) (qs : List Placed) (i : ℕ) (p : Place) → ArePlacedBy records ps qs → slice_get ps i ≡ Some p
    → (q : Placed) × (slice_get qs i ≡ Some q) × IsPlacedBy records p q
reports_of records [] [] i p all at = absurd (none_is_not_some p at)
reports_of records [] (u ∷ qs) i p all at = absurd all
reports_of records (v ∷ ps) [] i p all at = absurd all
reports_of records (v ∷ ps) (u ∷ qs) zero p all at = (u, refl, subst (λ k. IsPlacedBy records k u) (same_some v p at) all.0)
reports_of records (v ∷ ps) (u ∷ qs) (suc i) p all at = reports_of records ps qs i p all.1 at

-- ---- records

-- two records of a document with one number are one record
same_number : (events : List Event) (d : List ℕ) → IsHistory events → IsSplitByDocument events → (j k : ℕ) (r s : Rec)
    → IsRecordAt events d j r → IsRecordAt events d k s → r.no ≡ s.no → j ≡ k
same_number events d history split j k r s at bt same =
    let a = split.of_call d j r at in
    let b = split.of_call d k s bt in
    let call : r.call_at ≡ s.call_at = history.called_once s.no r.call_at s.call_at
    (subst (λ n. PassesAt (is_call n) events r.call_at) same (call_passes events r.call_at r.no a.0 d r.op a.1))
    (call_passes events s.call_at s.no b.0 d s.op b.1) in
    (split.once d d j k r s at bt call).1

same_record : (events : List Event) (d : List ℕ) (k : ℕ) (r s : Rec) → IsRecordAt events d k r → IsRecordAt events d k s → r ≡ s
same_record events d k r s at bt = same_some r s (sym at ∙ bt)

-- ---- from places to an order

-- an order of the document's calls along a run of places
record IsBuilt (events : List Event) (d : List ℕ) (s : DocState) (ps : List Place) (t : DocState) (order : List Placed) : Type 0 where
  placed : ArePlacedBy (records_of events d) ps order
  run : IsDocRun s (run_of order) t
  calls : (i : ℕ) (q : Placed) → slice_get order i ≡ Some q → IsOfCall events q × (q.entry.doc ≡ d)
  shown : (i : ℕ) (p : Place) (q : Placed) (r : Rec) → slice_get ps i ≡ Some p → slice_get order i ≡ Some q → IsPlaceOf (records_of events d) p r → r.heard ≡ None → q.entry.hidden ≡ None

-- the entry of one place
record IsEntryOf (h : ℕ) (d : List ℕ) (s : DocState) (op : Op) (heard : Option (ℕ × Answer)) (pair : Option Pair) (m : DocState) (e : Entry) : Type 0 where
  shard : e.shard ≡ h
  doc : e.doc ≡ d
  operation : e.op ≡ op
  reports : SaysOfEntry heard pair e
  step : DocStep s e.op e.reply e.hidden m
  shown : heard ≡ None → e.hidden ≡ None

entry_of : (h : ℕ) (d : List ℕ) (s : DocState) (op : Op) (heard : Option (ℕ × Answer)) (pair : Option Pair) (m : DocState) → ((op ≡ Get) × (heard ≡ None) → ⊥)
    → StepsAt s op heard pair m → (e : Entry) × IsEntryOf h d s op heard pair m e
entry_of h d s op (Some x) pair m known step = (
  record { shard = h; doc = d; op = op; reply = x.1; hidden = pair },
  record { shard = refl; doc = refl; operation = refl; reports = (refl, refl); step = step; shown = λ none. absurd (none_is_not_some x (sym none)) },
)
entry_of h d s op None (Some q) m known step = (
  record { shard = h; doc = d; op = op; reply = performed_reply s op q; hidden = None },
  record { shard = refl; doc = refl; operation = refl; reports = (refl, completed_pair s op q m (λ get. known (get, refl)) step); step = step; shown = λ none. refl },
)
entry_of h d s op None None m known step = absurd step

-- one more call at the front
built_more : (events : List Event) (d : List ℕ) (s m t : DocState) (p : Place) (ps : List Place) (r : Rec) (h : ℕ) (e : Entry) (order : List Placed)
    → IsPlaceOf (records_of events d) p r → IsCallAt events r.call_at r.no h d r.op → IsEntryOf h d s r.op r.heard p.pair m e
    → IsBuilt events d m ps t order → IsBuilt events d s (p ∷ ps) t (record { no = r.no; entry = e } ∷ order)
built_more events d s m t p ps r h e order at call of rest = record {
  placed = (record { named = r; names = at; number = refl; operation = of.operation; reports = of.reports }, rest.placed);
  run = (m, of.step, rest.run);
  calls = own_calls;
  shown = own_shown;
} where
  first : IsOfCall events (record { no = r.no; entry = e }) × (e.doc ≡ d)
  first = (
    (
      r.call_at,
      subst (λ g. IsCallAt events r.call_at r.no g e.doc e.op) (sym of.shard)
          (subst (λ c. IsCallAt events r.call_at r.no h c e.op) (sym of.doc) (subst (λ o. IsCallAt events r.call_at r.no h d o) (sym of.operation) call)),
    ),
    of.doc,
  )

  own_calls : (i : ℕ) (q : Placed) → slice_get (record { no = r.no; entry = e } ∷ order) i ≡ Some q → IsOfCall events q × (q.entry.doc ≡ d)
  own_calls zero q here = subst (λ k. IsOfCall events k × (k.entry.doc ≡ d)) (same_some (record { no = r.no; entry = e }) q here) first
  own_calls (suc i) q here = rest.calls i q here

  own_shown : (i : ℕ) (v : Place) (q : Placed) (o : Rec) → slice_get (p ∷ ps) i ≡ Some v → slice_get (record { no = r.no; entry = e } ∷ order) i ≡ Some q
      → IsPlaceOf (records_of events d) v o → o.heard ≡ None → q.entry.hidden ≡ None
  own_shown zero v q o here there named none =
      let place : p ≡ v = same_some p v here in
      let one : r ≡ o = same_some r o (sym at ∙ subst (λ k. IsPlaceOf (records_of events d) k o) (sym place) named) in
      let placed : record { no = r.no; entry = e } ≡ q = same_some (record { no = r.no; entry = e }) q there in
      subst (λ k. k.entry.hidden ≡ None) placed (of.shown (ap (λ k. k.heard) one ∙ none))
  own_shown (suc i) v q o here there named none = rest.shown i v q o here there named none

build : (events : List Event) (d : List ℕ) → IsSplitByDocument events → (s t : DocState) (ps : List Place)
    → ((i : ℕ) (p : Place) (r : Rec) → slice_get ps i ≡ Some p → IsPlaceOf (records_of events d) p r → IsUnansweredGet r → ⊥)
    → IsPlaceRun (records_of events d) s ps t → (order : List Placed) × IsBuilt events d s ps t order
build events d split s t [] known run = (
  [],
  record { placed = tt; run = run; calls = λ i q at. absurd (none_is_not_some q at); shown = λ i p q r at bt named none. absurd (none_is_not_some p at) },
)
build events d split s t (p ∷ ps) known run =
    let call = split.of_call d p.rec run.1 run.2 in
    let e = entry_of call.0 d s run.1.op run.1.heard p.pair run.0 (known 0 p run.1 refl run.2) run.3 in
    let rest = build events d split run.0 t ps (λ i q r at. known (suc i) q r at) run.4 in
    (record { no = run.1.no; entry = e.0 } ∷ rest.0, built_more events d s run.0 t p ps run.1 call.0 e.0 rest.0 run.2 call.1 e.1 rest.1)

known_places : (conflicts : Conflicts) (records : List Rec) (places : List Place) → AreValidSoFar conflicts records places
    → (i : ℕ) (p : Place) (r : Rec) → slice_get places i ≡ Some p → IsPlaceOf records p r → IsUnansweredGet r → ⊥
known_places conflicts records places right i p r at named get =
    let known = right.known i p at in
    known.2 (subst (λ k. IsUnansweredGet k) (same_some r known.0 (sym named ∙ known.1)) get)

built_once : (conflicts : Conflicts) (events : List Event) (d : List ℕ) → IsHistory events → IsSplitByDocument events → (places : List Place) (order : List Placed)
    → AreValidSoFar conflicts (records_of events d) places → ArePlacedBy (records_of events d) places order
    → (i j : ℕ) (p q : Placed) → slice_get order i ≡ Some p → slice_get order j ≡ Some q → p.no ≡ q.no → i ≡ j
built_once conflicts events d history split places order right placed i j p q at bt same =
    let a = reported_by (records_of events d) places order i p placed at in
    let b = reported_by (records_of events d) places order j q placed bt in
    right.once i j a.0 b.0 a.1 b.1
    (same_number events d history split a.0.rec b.0.rec a.2.named b.2.named a.2.names b.2.names (sym a.2.number ∙ (same ∙ b.2.number)))

reports_reply : (heard : Option (ℕ × Answer)) (pair : Option Pair) (e : Entry) (k : ℕ) (r : Answer) → heard ≡ Some (k, r) → SaysOfEntry heard pair e → e.reply ≡ r
reports_reply None pair e k r is reports = absurd (none_is_not_some (k, r) is)
reports_reply (Some x) pair e k r is reports = let same : x ≡ (k, r) = same_some x (k, r) is in reports.0 ∙ ap (λ y. y.1) same

some_heard : (heard : Option (ℕ × Answer)) (k : ℕ) (r : Answer) → heard ≡ Some (k, r) → IsSome heard
some_heard heard k r is = subst (λ o. IsSome o) (sym is) refl

built_answered : (conflicts : Conflicts) (events : List Event) (d : List ℕ) → IsSplitByDocument events → (places : List Place) (order : List Placed)
    → AreValid conflicts (records_of events d) places → ArePlacedBy (records_of events d) places order
    → (k j n h : ℕ) (op : Op) (r : Answer) → IsReplyAt events k n r → IsCallAt events j n h d op
    → (i : ℕ) × (p : Placed) × (slice_get order i ≡ Some p) × (p.no ≡ n) × (p.entry.reply ≡ r)
built_answered conflicts events d split places order valid placed k j n h op r reply call =
    let own = split.recorded j n h d op call in
    let of = split.of_call d own.0 own.1 own.2 in
    let number : own.1.no ≡ n = (same_call events j own.1.no n of.0 h d d own.1.op op (subst (λ c. IsCallAt events c own.1.no of.0 d own.1.op) own.3 of.1) call).0 in
    let heard : own.1.heard ≡ Some (k, r) = (split.heard d own.0 own.1 own.2 k r).1 (subst (λ m. IsReplyAt events k m r) (sym number) reply) in
    let named = valid.answered own.0 own.1 own.2 (some_heard own.1.heard k r heard) in
    let q = reports_of (records_of events d) places order named.0 named.1 placed named.2 in
    let one : q.2.named ≡ own.1 = same_record events d own.0 q.2.named own.1 (subst (λ k. IsRecordAt events d k q.2.named) named.3 q.2.names) own.2 in
    (named.0, q.0, q.1, q.2.number ∙ (ap (λ c. c.no) one ∙ number), reports_reply q.2.named.heard named.1.pair q.0.entry k r (ap (λ c. c.heard) one ∙ heard) q.2.reports)

heard_before : (heard : Option (ℕ × Answer)) (k place : ℕ) (r : Answer) → heard ≡ Some (k, r) → k < place → IsHeardBefore heard place
heard_before heard k place r is less = subst (λ o. IsHeardBefore o place) (sym is) less

precedes_heard : (events : List Event) (d : List ℕ) → IsSplitByDocument events → (j k : ℕ) (r s : Rec) → IsRecordAt events d j r → IsRecordAt events d k s
    → Precedes events r.no s.no → IsHeardBefore r.heard s.call_at
precedes_heard events d split j k r s at bt first =
    let x = (split.precedes d j k r s at bt).0 first in
    heard_before r.heard x.0 s.call_at x.1 x.2 x.3

built_respects : (conflicts : Conflicts) (events : List Event) (d : List ℕ) → IsSplitByDocument events → (places : List Place) (order : List Placed)
    → AreValidSoFar conflicts (records_of events d) places → ArePlacedBy (records_of events d) places order
    → (i j : ℕ) (p q : Placed) → slice_get order i ≡ Some p → slice_get order j ≡ Some q → Precedes events p.no q.no → i < j
built_respects conflicts events d split places order right placed i j p q at bt first =
    let a = reported_by (records_of events d) places order i p placed at in
    let b = reported_by (records_of events d) places order j q placed bt in
    let before : IsHeardBefore a.2.named.heard b.2.named.call_at = precedes_heard events d split a.0.rec b.0.rec a.2.named b.2.named a.2.names b.2.names
    (subst (λ n. Precedes events n b.2.named.no) a.2.number (subst (λ n. Precedes events p.no n) b.2.number first)) in
    elim (cases_lt i j) as (λ _. i < j) [
      | inl less ↦ less
      | inr not ↦ absurd (right.in_time j i b.0 a.0 b.2.named a.2.named not b.1 a.1 b.2.names a.2.names before)
    ]

plain_reports : (conflicts : Conflicts) (heard : Option (ℕ × Answer)) (pair : Option Pair) (e : Entry) → conflicts ≡ Plain → (heard ≡ None → e.hidden ≡ None) → GivesAsMay conflicts heard pair
    → SaysOfEntry heard pair e → e.hidden ≡ None
plain_reports conflicts None pair e plain shown gives reports = shown refl
plain_reports conflicts (Some x) pair e plain shown gives reports = reports.1 ∙ plain_hides_none conflicts x.0 x.1 pair plain gives

entry_at : (ps : List Placed) (i : ℕ) (e : Entry) → slice_get (run_of ps) i ≡ Some e → (p : Placed) × (slice_get ps i ≡ Some p) × (p.entry ≡ e)
entry_at [] i e at = absurd (none_is_not_some e at)
entry_at (p ∷ ps) zero e at = (p, refl, same_some p.entry e at)
entry_at (p ∷ ps) (suc i) e at = entry_at ps i e at

explains : (conflicts : Conflicts) (events : List Event) (d : List ℕ) (places : List Place) → IsHistory events → AreValid conflicts (records_of events d) places
    → (order : List Placed) × ExplainsDocument conflicts events d order × ArePlacedBy (records_of events d) places order
explains conflicts events d places history valid =
    let split = split_by_document events history in
    let built = build events d split Never valid.right.legal.0 places (known_places conflicts (records_of events d) places valid.right) valid.right.legal.1 in (
      built.0,
      record {
        calls = built.1.calls;
        once = built_once conflicts events d history split places built.0 valid.right built.1.placed;
        answered = built_answered conflicts events d split places built.0 valid built.1.placed;
        plain = λ plain i q at.
            let reported = reported_by (records_of events d) places built.0 i q built.1.placed at in
            plain_reports conflicts reported.2.named.heard reported.0.pair q.entry plain (λ none. built.1.shown i reported.0 q reported.2.named reported.1 at reported.2.names none)
            (valid.right.pairs i reported.0 reported.2.named reported.1 reported.2.names) reported.2.reports;
        respects = built_respects conflicts events d split places built.0 valid.right built.1.placed;
        legal = legal_of_one d (run_of built.0)
            (λ i e at. let p = entry_at built.0 i e at in ap (λ x. x.doc) (sym p.2) ∙ (built.1.calls i p.0 p.1).1)
            (valid.right.legal.0, built.1.run);
      },
      built.1.placed,
    )

-- ---- from an order to places

-- the pair that a place gives to the call
abbrev given : Option (ℕ × Answer) → Entry → Option Pair
given None e = pair_taken e.reply e.hidden
given (Some x) e = e.hidden

-- the record of a call in the order, with what its place says
record HasRecord (events : List Event) (d : List ℕ) (q : Placed) : Type 0 where
  place : ℕ
  named : Rec
  at : IsRecordAt events d place named
  number : q.no ≡ named.no
  operation : q.entry.op ≡ named.op
  reports : SaysOfEntry named.heard (given named.heard q.entry) q.entry

-- the step of a call in the order, at its place
placed_step : (s : DocState) (qs : List Placed) (t : DocState) → IsDocRun s (run_of qs) t → (i : ℕ) (q : Placed) → slice_get qs i ≡ Some q
    → (m n : DocState) × DocStep m q.entry.op q.entry.reply q.entry.hidden n
placed_step s [] t run i q at = absurd (none_is_not_some q at)
placed_step s (u ∷ qs) t run zero q at =
    let same : u ≡ q = same_some u q at in
    (s, run.0, subst (λ k. DocStep s k.entry.op k.entry.reply k.entry.hidden run.0) same run.1)
placed_step s (u ∷ qs) t run (suc i) q at = placed_step run.0 qs t run.2 i q at

part_of_one : (d : List ℕ) (qs : List Placed) → ((i : ℕ) (q : Placed) → slice_get qs i ≡ Some q → q.entry.doc ≡ d) → part_of d (run_of qs) ≡ run_of qs
part_of_one d [] docs = refl
part_of_one d (q ∷ qs) docs =
    let own : q.entry.doc ≡ d = docs 0 q refl in
    let kept : pointwise ◌==◌ q.entry.doc d ≡ true = subst (λ c. pointwise ◌==◌ c d ≡ true) (sym own) (same_id d) in
    let rest : part_of d (run_of qs) ≡ run_of qs = part_of_one d qs (λ i u at. docs (suc i) u at) in
    ap (λ b. if b then q.entry ∷ part_of d (run_of qs) else part_of d (run_of qs)) kept ∙ ap (λ es. q.entry ∷ es) rest

document_run : (conflicts : Conflicts) (events : List Event) (d : List ℕ) (order : List Placed) → ExplainsDocument conflicts events d order → (t : DocState) × IsDocRun Never (run_of order) t
document_run conflicts events d order explained =
    subst (λ es. (t : DocState) × IsDocRun Never es t) (part_of_one d order (λ i q at. (explained.calls i q at).1)) (((locality (run_of order)).0 explained.legal).0 d)

unanswered_pending : (events : List Event) (d : List ℕ) → IsSplitByDocument events → (k : ℕ) (r : Rec) → IsRecordAt events d k r → r.heard ≡ None → IsPending events r.no
unanswered_pending events d split k r at none =
    let call = split.of_call d k r at in
    record {
      called = (r.call_at, call_passes events r.call_at r.no call.0 d r.op call.1);
      unanswered = λ i a reply. none_is_not_some (i, a) (sym none ∙ (split.heard d k r at i a).1 reply);
    }

-- an unanswered call that changes something takes a pair
taken_by : (s : DocState) (e : Entry) (t : DocState) → DocStep s e.op e.reply e.hidden t → (ChangesNothing e → ⊥) → IsSome (pair_taken e.reply e.hidden)
taken_by s e t step changes = by_operation e.op refl step where
  by_reply : (op : Op) (reply : Answer) (hidden : Option Pair) → e.reply ≡ reply → e.hidden ≡ hidden → WriteStep s op reply hidden t → IsSome (pair_taken reply hidden)
  by_reply op (Indexed q created) hidden is hides step = refl
  by_reply op (Deleted q found) hidden is hides step = refl
  by_reply op (Found q k) hidden is hides step = absurd step
  by_reply op Missing hidden is hides step = absurd step
  by_reply op Conflict None is hides step = absurd (changes (inr (is, hides)))
  by_reply op Conflict (Some q) is hides step = refl

  by_operation : (op : Op) → e.op ≡ op → DocStep s op e.reply e.hidden t → IsSome (pair_taken e.reply e.hidden)
  by_operation Get is step = absurd (changes (inl is))
  by_operation (Index k c) is step = by_reply (Index k c) e.reply e.hidden refl refl step
  by_operation (Delete c) is step = by_reply (Delete c) e.reply e.hidden refl refl step
  by_operation (Create k) is step = by_reply (Create k) e.reply e.hidden refl refl step

-- the reply of an answered call in the order is the one that was heard
answer_stands : (conflicts : Conflicts) (events : List Event) (d : List ℕ) (order : List Placed) → ExplainsDocument conflicts events d order → IsSplitByDocument events
    → (i : ℕ) (q : Placed) (k : ℕ) (r : Rec) (x : ℕ × Answer) → slice_get order i ≡ Some q → IsRecordAt events d k r → q.no ≡ r.no → r.heard ≡ Some x → q.entry.reply ≡ x.1
answer_stands conflicts events d order explained split i q k r x at named number heard =
    let call = split.of_call d k r named in
    let reply : IsReplyAt events x.0 r.no x.1 = (split.heard d k r named x.0 x.1).0 heard in
    let stands = explained.answered x.0 r.call_at r.no call.0 r.op x.1 reply call.1 in
    let place : stands.0 ≡ i = explained.once stands.0 i stands.1 q stands.2 at (stands.3 ∙ sym number) in
    let one : stands.1 ≡ q = same_some stands.1 q (sym stands.2 ∙ (ap (λ j. slice_get order j) place ∙ at)) in
    ap (λ u. u.entry.reply) (sym one) ∙ stands.4

record_of : (conflicts : Conflicts) (events : List Event) (d : List ℕ) (order : List Placed) → ExplainsDocument conflicts events d order → AllChange events order → IsSplitByDocument events
    → (i : ℕ) (q : Placed) → slice_get order i ≡ Some q → HasRecord events d q
record_of conflicts events d order explained changes split i q at =
    let call = explained.calls i q at in
    let own : IsCallAt events call.0.0 q.no q.entry.shard d q.entry.op = subst (λ c. IsCallAt events call.0.0 q.no q.entry.shard c q.entry.op) call.1 call.0.1 in
    let rec = split.recorded call.0.0 q.no q.entry.shard d q.entry.op own in
    let of = split.of_call d rec.0 rec.1 rec.2 in
    let same = same_call events call.0.0 q.no rec.1.no q.entry.shard of.0 d d q.entry.op rec.1.op own (subst (λ c. IsCallAt events c rec.1.no of.0 d rec.1.op) rec.3 of.1) in
    record {
      place = rec.0;
      named = rec.1;
      at = rec.2;
      number = same.0;
      operation = same.2;
      reports = by_heard rec.0 rec.1 rec.2 same.0 rec.1.heard refl;
    } where
      run : (t : DocState) × IsDocRun Never (run_of order) t
      run = document_run conflicts events d order explained

      by_heard : (k : ℕ) (r : Rec) → IsRecordAt events d k r → q.no ≡ r.no → (heard : Option (ℕ × Answer)) → r.heard ≡ heard → SaysOfEntry heard (given heard q.entry) q.entry
      by_heard k r named number None none =
          let pending : IsPending events q.no = subst (λ n. IsPending events n) (sym number) (unanswered_pending events d split k r named none) in
          let step = placed_step Never order run.0 run.1 i q at in
          (taken_by step.0 q.entry step.1 step.2 (changes i q at pending), refl)
      by_heard k r named number (Some x) is = (answer_stands conflicts events d order explained split i q k r x at named number is, refl)

-- the step of a place, from that of the call in the order
step_at : (s : DocState) (e : Entry) (m : DocState) (heard : Option (ℕ × Answer)) (pair : Option Pair) → SaysOfEntry heard pair e → DocStep s e.op e.reply e.hidden m → StepsAt s e.op heard pair m
step_at s e m (Some x) pair reports step =
    subst (λ r. DocStep s e.op r pair m) reports.0 (subst (λ h. DocStep s e.op e.reply h m) reports.1 step)
step_at s e m None (Some q) reports step =
    performed_step s e.op q m (pair_performs s e m q reports.1 (step_kind s e.op e.reply e.hidden m step))
step_at s e m None None reports step = let impossible : false ≡ true = reports.0 in absurd (cc)

-- places along a run of calls
record IsLaid (events : List Event) (d : List ℕ) (s : DocState) (qs : List Placed) (t : DocState) (places : List Place) : Type 0 where
  placed : ArePlacedBy (records_of events d) places qs
  run : IsPlaceRun (records_of events d) s places t

lay : (events : List Event) (d : List ℕ) (s : DocState) (qs : List Placed) (t : DocState) → ((i : ℕ) (q : Placed) → slice_get qs i ≡ Some q → HasRecord events d q)
    → IsDocRun s (run_of qs) t → (places : List Place) × IsLaid events d s qs t places
lay events d s [] t records run = ([], record { placed = tt; run = run })
lay events d s (q ∷ qs) t records run =
    let own = records 0 q refl in
    let rest = lay events d run.0 qs t (λ i u at. records (suc i) u at) run.2 in
    let pair : Option Pair = given own.named.heard q.entry in (
      record { rec = own.place; pair = pair } ∷ rest.0,
      record {
        placed = (record { named = own.named; names = own.at; number = own.number; operation = own.operation; reports = own.reports }, rest.1.placed);
        run = (
          run.0,
          own.named,
          own.at,
          subst (λ o. StepsAt s o own.named.heard pair run.0) own.operation (step_at s q.entry run.0 own.named.heard pair own.reports run.1),
          rest.1.run,
        );
      },
    )

pairs_may : (conflicts : Conflicts) (s : DocState) (e : Entry) (t : DocState) (heard : Option (ℕ × Answer)) (pair : Option Pair) → (conflicts ≡ Plain → e.hidden ≡ None)
    → DocStep s e.op e.reply e.hidden t → SaysOfEntry heard pair e → GivesAsMay conflicts heard pair
pairs_may conflicts s e t None pair plain step reports = reports.0
pairs_may conflicts s e t (Some x) pair plain step reports =
    subst (λ r. GivesAsMay conflicts (Some (x.0, r)) pair) reports.0
    (subst (λ h. GivesAsMay conflicts (Some (x.0, e.reply)) h) reports.1 (gives_as_may conflicts s e.op x.0 e.reply e.hidden t plain step))

heard_precedes : (events : List Event) (d : List ℕ) → IsSplitByDocument events → (j k : ℕ) (r s : Rec) → IsRecordAt events d j r → IsRecordAt events d k s
    → IsHeardBefore r.heard s.call_at → Precedes events r.no s.no
heard_precedes events d split j k r s at bt before = by_heard r.heard refl before where
  by_heard : (heard : Option (ℕ × Answer)) → r.heard ≡ heard → IsHeardBefore heard s.call_at → Precedes events r.no s.no
  by_heard None is before = absurd before
  by_heard (Some x) is before = (split.precedes d j k r s at bt).1 (x.0, x.1, is, before)

heard_some : (heard : Option (ℕ × Answer)) → IsSome heard → (x : ℕ × Answer) × (heard ≡ Some x)
heard_some None some = let impossible : false ≡ true = some in absurd (cc)
heard_some (Some x) some = (x, refl)

laid_right : (conflicts : Conflicts) (events : List Event) (d : List ℕ) (order : List Placed) (places : List Place) (t : DocState) → IsHistory events → IsSplitByDocument events
    → ExplainsDocument conflicts events d order → AllChange events order → IsDocRun Never (run_of order) t → IsLaid events d Never order t places
    → AreValidSoFar conflicts (records_of events d) places
laid_right conflicts events d order places t history split explained changes run laid = record {
  known = λ i p at.
      let q = reports_of (records_of events d) places order i p laid.placed at in (
        q.2.named,
        q.2.names,
        λ get.
            let pending : IsPending events q.0.no = subst (λ n. IsPending events n) (sym q.2.number) (unanswered_pending events d split p.rec q.2.named q.2.names get.1) in
            changes i q.0 q.1 pending (inl (q.2.operation ∙ get.0)),
      );
  once = λ i j p u at bt same.
      let q = reports_of (records_of events d) places order i p laid.placed at in
      let v = reports_of (records_of events d) places order j u laid.placed bt in
      let one : q.2.named ≡ v.2.named = same_some q.2.named v.2.named (sym q.2.names ∙ (ap (λ k. slice_get (records_of events d) k) same ∙ v.2.names)) in
      explained.once i j q.0 v.0 q.1 v.1 (q.2.number ∙ (ap (λ r. r.no) one ∙ sym v.2.number));
  pairs = λ i p r at named.
      let q = reports_of (records_of events d) places order i p laid.placed at in
      let one : q.2.named ≡ r = same_some q.2.named r (sym q.2.names ∙ named) in
      let step = placed_step Never order t run i q.0 q.1 in
      subst (λ o. GivesAsMay conflicts o.heard p.pair) one
      (pairs_may conflicts step.0 q.0.entry step.1 q.2.named.heard p.pair (λ plain. explained.plain plain i q.0 q.1) step.2 q.2.reports);
  in_time = λ i j p u r o less at bt named names before.
      let q = reports_of (records_of events d) places order i p laid.placed at in
      let v = reports_of (records_of events d) places order j u laid.placed bt in
      let one : q.2.named ≡ r = same_some q.2.named r (sym q.2.names ∙ named) in
      let two : v.2.named ≡ o = same_some v.2.named o (sym v.2.names ∙ names) in
      let first : Precedes events o.no r.no = heard_precedes events d split u.rec p.rec o r names named before in
      let order_is : j < i = explained.respects j i v.0 q.0 v.1 q.1
      (subst (λ n. Precedes events n q.0.no) (sym (v.2.number ∙ ap (λ x. x.no) two)) (subst (λ n. Precedes events o.no n) (sym (q.2.number ∙ ap (λ x. x.no) one)) first)) in
      omega arith;
  legal = (t, laid.run);
}

laid_answered : (conflicts : Conflicts) (events : List Event) (d : List ℕ) (order : List Placed) (places : List Place) (t : DocState) → IsHistory events → IsSplitByDocument events
    → ExplainsDocument conflicts events d order → IsLaid events d Never order t places
    → (k : ℕ) (r : Rec) → slice_get (records_of events d) k ≡ Some r → IsSome r.heard → IsNamed places k
laid_answered conflicts events d order places t history split explained laid k r at heard =
    let x = heard_some r.heard heard in
    let call = split.of_call d k r at in
    let reply : IsReplyAt events x.0.0 r.no x.0.1 = (split.heard d k r at x.0.0 x.0.1).0 x.1 in
    let stands = explained.answered x.0.0 r.call_at r.no call.0 r.op x.0.1 reply call.1 in
    let reported = reported_by (records_of events d) places order stands.0 stands.1 laid.placed stands.2 in
    (stands.0, reported.0, reported.1, same_number events d history split reported.0.rec k reported.2.named r reported.2.names at (sym reported.2.number ∙ stands.3))

valid : (conflicts : Conflicts) (events : List Event) (d : List ℕ) (order : List Placed) → IsHistory events → ExplainsDocument conflicts events d order → AllChange events order
    → (places : List Place) × AreValid conflicts (records_of events d) places × ArePlacedBy (records_of events d) places order
valid conflicts events d order history explained changes =
    let split = split_by_document events history in
    let run = document_run conflicts events d order explained in
    let laid = lay events d Never order run.0 (record_of conflicts events d order explained changes split) run.1 in (
      laid.0,
      record {
        right = laid_right conflicts events d order laid.0 run.0 history split explained changes run.1 laid.1;
        answered = laid_answered conflicts events d order laid.0 run.0 history split explained laid.1;
      },
      laid.1.placed,
    )

pub places_are_orders : PlacesAreOrders
places_are_orders = record { explains = explains; valid = valid }
