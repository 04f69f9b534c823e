-- Entries that cover a history have no more places of calls that are counted than it has such calls.
use Rattle.std.proofs.Common.{ℕ, zero, suc, ◌≡◌, ◌+◌, ◌<◌, ◌≤◌, List, [], ◌∷◌, ◌++◌, add-one, length, map, take, refl, sym, ap, subst, ◌∙◌, arith, Some, true, slice_get}
use Rattle.std.specs.Prelude.{filter}
use Rattle.std.proofs.lemmas.List.{length-map}
use Rattle.std.proofs.lemmas.Option.{slice_get_within}
use Rattle.doc_register.specs.declared.state.Conflicts.{Conflicts}
use Rattle.events.specs.declared.event.Event.{Event}
use Rattle.events.specs.declared.event.Event.TheVariants.{Call, Reply, Lost}
use Rattle.events.specs.Events.{IsHistory, records_of}
use Rattle.events.specs.Order.{Explains, IsOfCall, Placed}
use Rattle.events.proofs.CountLemmas.{AreOnce, distinct_within}
use Rattle.events.proofs.HistoryLemmas.{call_at}
use Rattle.places.specs.Documents.{DocPlaces, witness_places}
use Rattle.places.specs.Witness.{Witness}
use Rattle.compose.specs.Counts.{calls_counted, calls_of, is_counted, is_counted_call}
use Rattle.compose.specs.declared.counts.CallNumbers.{CallNumbers}
use Rattle.compose.specs.declared.counts.CallNumbers.TheVariants.{All}
use Rattle.covers.specs.Covers.{AreCover, AreWitnesses}
use Rattle.compose.specs.Laws.{names_number, places_in, places_numbered}
use Rattle.compose.specs.Verdicts.{LeavesOut, Proven}
use Rattle.compose.specs.aids.Counting.{counted_in, counted_places}
use Rattle.compose.proofs.Filtering.{part_from, rank, rank_at, rank_once, ranked_from}
use Rattle.compose.proofs.Locality.{covers_explain}
use Rattle.compose.proofs.Points.{call_place, called_there}
use Rattle.version_pair.proofs.ListLemmas.{mapped_from, take_one_more}

-- ---- the number of a placed call among all calls that are counted

-- how many of them stand before that of the placed one
abbrev call_rank : CallNumbers → List Event → Placed → ℕ
call_rank which events p = rank (is_counted_call which) events (call_place events p)

-- a call at the place of the placed one, with its number
placed_call : (which : CallNumbers) (events : List Event) (p : Placed) → IsOfCall events p → is_counted which p.no ≡ true
    → (e : Event) × (slice_get events (call_place events p) ≡ Some e) × (is_counted_call which e ≡ true)
placed_call which events p of counted =
    let c = call_at events (call_place events p) p.no (called_there events p of) in
    (Call c.0 p.no c.1 c.2, c.3, counted)

-- it is below the number of calls
rank_below : (which : CallNumbers) (events : List Event) (p : Placed) → IsOfCall events p → is_counted which p.no ≡ true
    → call_rank which events p < calls_counted which events
rank_below which events p of counted =
    let c = placed_call which events p of counted in
    slice_get_within _ (call_rank which events p) c.0 (rank_at (is_counted_call which) events (call_place events p) c.0 c.1 c.2)

-- and it determines the number of the call
rank_number : (which : CallNumbers) (events : List Event) (p q : Placed) → IsOfCall events p → IsOfCall events q → is_counted which p.no ≡ true → is_counted which q.no ≡ true
    → call_rank which events p ≡ call_rank which events q → p.no ≡ q.no
rank_number which events p q a b counted other same =
    let c = placed_call which events p a counted in
    let d = placed_call which events q b other in
    let place : call_place events p ≡ call_place events q =
    rank_once (is_counted_call which) events (call_place events p) (call_place events q) c.0 d.0 c.1 d.1 c.2 d.2 same in
    let x = call_at events (call_place events p) p.no (called_there events p a) in
    let y = call_at events (call_place events q) q.no (called_there events q b) in
    let one : Some (Call x.0 p.no x.1 x.2) ≡ Some (Call y.0 q.no y.1 y.2) = sym x.3 ∙ (ap (slice_get events) place ∙ y.3) in
    cc

-- ---- the count

-- the calls of an order that are counted
abbrev counted_part : CallNumbers → List Placed → List Placed
counted_part which order = filter (λ p. is_counted which p.no) order

-- an order has, each at most once, no more calls that are counted than there are
order_within : (which : CallNumbers) (conflicts : Conflicts) (events : List Event) (order : List Placed) → Explains conflicts events order
    → length (counted_part which order) ≤ calls_counted which events
order_within which conflicts events order explains =
    let few : length (map (call_rank which events) (counted_part which order)) ≤ calls_counted which events =
    distinct_within (map (call_rank which events) (counted_part which order)) (calls_counted which events) once below in
    let size : length (map (call_rank which events) (counted_part which order)) ≡ length (counted_part which order) = length-map (counted_part which order) (call_rank which events) in
    omega (arith, few, size) where
      once : AreOnce (map (call_rank which events) (counted_part which order))
      once i j k at bt =
          let p = mapped_from (call_rank which events) (counted_part which order) i k at in
          let q = mapped_from (call_rank which events) (counted_part which order) j k bt in
          let a = ranked_from (λ x. is_counted which x.no) order i p.0 p.1 in
          let b = ranked_from (λ x. is_counted which x.no) order j q.0 q.1 in
          let same : p.0.no ≡ q.0.no = rank_number which events p.0 q.0 (explains.is_order.calls a.0 p.0 a.1) (explains.is_order.calls b.0 q.0 b.1) a.2 b.2 (p.2 ∙ sym q.2) in
          let place : a.0 ≡ b.0 = explains.is_order.once a.0 b.0 p.0 q.0 a.1 b.1 same in
          sym a.3 ∙ (ap (rank (λ x. is_counted which x.no) order) place ∙ b.3)

      below : (i k : ℕ) → slice_get (map (call_rank which events) (counted_part which order)) i ≡ Some k → k < calls_counted which events
      below i k at =
          let p = mapped_from (call_rank which events) (counted_part which order) i k at in
          let a = part_from (λ x. is_counted which x.no) order i p.0 p.1 in
          subst (λ n. n < calls_counted which events) p.2 (rank_below which events p.0 (explains.is_order.calls a.0 p.0 a.1) a.2)

-- ---- all calls

-- each call of an order is counted among all
all_placed : (order : List Placed) → length (counted_part All order) ≡ length order
all_placed [] = refl
all_placed (p ∷ order) = ap suc (all_placed order)

-- and each call of a history
pub all_calls : (events : List Event) → calls_counted All events ≡ calls_of events
all_calls [] = refl
all_calls (Call h n d op ∷ events) = ap suc (all_calls events)
all_calls (Reply n r ∷ events) = all_calls events
all_calls (Lost n ∷ events) = all_calls events

-- witnesses that cover a history have no more places than it has calls
pub places_within : (conflicts : Conflicts) (events : List Event) (ws : List Witness) → IsHistory events → AreWitnesses conflicts events ws
    → places_in (map witness_places ws) ≤ calls_of events
places_within conflicts events ws history are =
    let order = covers_explain conflicts events (map witness_places ws) history are.cover in
    let few = order_within All conflicts events order.0 order.1 in
    let size = order.2.count in
    let all = all_placed order.0 in
    let calls = all_calls events in
    omega (arith, few, size, all, calls)

-- ---- witnesses

-- the places of the entries are those of the witnesses
places_of_witnesses : (which : CallNumbers) (conflicts : Conflicts) (events : List Event) (ws : List Witness)
    → ((i : ℕ) (w : Witness) → slice_get ws i ≡ Some w → w.records ≡ records_of events w.doc)
    → counted_places which ws ≡ places_numbered (is_counted which) events (map witness_places ws)
places_of_witnesses which conflicts events [] own = refl
places_of_witnesses which conflicts events (w ∷ ws) own =
    ap (λ rs. length (filter (names_number (is_counted which) rs) w.places) + counted_places which ws) (own 0 w refl)
    ∙ ap (λ n. length (filter (names_number (is_counted which) (records_of events w.doc)) w.places) + n)
    (places_of_witnesses which conflicts events ws (λ i v at. own (suc i) v at))

-- witnesses that cover a history have no more places of calls that are counted than it has such calls
pub counted_within : (which : CallNumbers) (conflicts : Conflicts) (events : List Event) (ws : List Witness) → IsHistory events → AreWitnesses conflicts events ws
    → counted_places which ws ≤ calls_counted which events
counted_within which conflicts events ws history are =
    let order = covers_explain conflicts events (map witness_places ws) history are.cover in
    let few = order_within which conflicts events order.0 order.1 in
    let size = order.2.numbered (is_counted which) in
    let same = places_of_witnesses which conflicts events ws (λ i w at. (are.own i w at).0) in
    omega (arith, few, size, same)

-- so many of the calls that are counted are not in an order
pub leaves_out : (which : CallNumbers) (p : Proven) (left_out : ℕ) → IsHistory p.events → AreWitnesses p.conflicts p.events p.witnesses
    → counted_places which p.witnesses + left_out ≡ calls_counted which p.events → LeavesOut which p left_out
leaves_out which p left_out history are rest =
    let order = covers_explain p.conflicts p.events (map witness_places p.witnesses) history are.cover in
    let size = order.2.numbered (is_counted which) in
    let same = places_of_witnesses which p.conflicts p.events p.witnesses (λ i w at. (are.own i w at).0) in
    record { order = order.0; explains = order.1; the_rest = omega (arith, size, same, rest); placed = omega (arith, same, rest) }

-- ---- the witnesses one by one

-- one more witness
pub counted_next : (which : CallNumbers) (ws : List Witness) (i : ℕ) (w : Witness) → slice_get ws i ≡ Some w
    → counted_places which (take (i + 1) ws) ≡ counted_places which (take i ws) + counted_in which w
counted_next which ws i w at =
    ap (λ n. counted_places which (take n ws)) (add-one i) ∙ (ap (counted_places which) (take_one_more ws i w at) ∙ counted_snoc (take i ws)) where
      counted_snoc : (vs : List Witness) → counted_places which (vs ++ w ∷ []) ≡ counted_places which vs + counted_in which w
      counted_snoc [] = omega arith
      counted_snoc (v ∷ vs) = let rest = counted_snoc vs in omega (arith, rest)

-- the first witnesses have no more such places than all
pub counted_front : (which : CallNumbers) (ws : List Witness) (i : ℕ) → counted_places which (take i ws) ≤ counted_places which ws
counted_front which [] zero = omega arith
counted_front which [] (suc i) = omega arith
counted_front which (w ∷ ws) zero = omega arith
counted_front which (w ∷ ws) (suc i) = let rest = counted_front which ws i in omega (arith, rest)
