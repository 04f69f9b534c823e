-- The points of a document's order: for each call in it the latest call place so far.
use Rattle.std.proofs.Common.{ℕ, zero, suc, ◌≡◌, ◌≤◌, ◌⊎◌, inl, inr, List, [], ◌∷◌, map, refl, sym, ap, subst, ◌∙◌, arith, Bool, true, false, cond, Some, slice_get}
use Rattle.std.specs.Prelude.{filter, option_map}
use Rattle.std.proofs.lemmas.Bool.{cases_lt, true≢false}
use Rattle.std.proofs.lemmas.Option.{slice_get-map}
use Rattle.doc_register.specs.Run.{part_of}
use Rattle.events.specs.declared.event.Event.{Event}
use Rattle.events.specs.Events.{PassesAt, is_call, is_same}
use Rattle.events.specs.Order.{IsOfCall, Placed, run_of}
use Rattle.events.proofs.HistoryLemmas.{call_passes}
use Rattle.version_pair.proofs.ListLemmas.{none_is_not_some, same_some}
use Rattle.compose.specs.Laws.{part_of_order}
use Rattle.compose.proofs.Filtering.{filter_made, part_from}
use Rattle.compose.proofs.Sorting.{IsBelowAll, IsRising}

-- A call of an order, with its point.
pub record Pointed : Type 0 where
  pub point : ℕ
  pub placed : Placed

-- the order without its points
abbrev pub placed_of : List Pointed → List Placed
placed_of ks = map (λ k. k.placed) ks

-- the call is of the document
abbrev pub is_of : List ℕ → Pointed → Bool
is_of d k = is_same k.placed.entry.doc d

-- those of the document
abbrev pub part : List ℕ → List Pointed → List Pointed
part d ks = filter (is_of d) ks

-- ---- lists with points and orders

-- what stands in the list stands in its order
pub placed_at : (ks : List Pointed) (i : ℕ) (k : Pointed) → slice_get ks i ≡ Some k → slice_get (placed_of ks) i ≡ Some k.placed
placed_at ks i k at = slice_get-map (λ k. k.placed) ks i ∙ ap (option_map (λ k. k.placed)) at

-- what stands in the order is of the list
pub pointed_at : (ks : List Pointed) (i : ℕ) (p : Placed) → slice_get (placed_of ks) i ≡ Some p → (k : Pointed) × (slice_get ks i ≡ Some k) × (k.placed ≡ p)
pointed_at [] i p at = absurd (none_is_not_some p at)
pointed_at (k ∷ ks) zero p at = (k, refl, same_some k.placed p at)
pointed_at (k ∷ ks) (suc i) p at = pointed_at ks i p at

-- what stands in a part of the order stands in the order
pub in_order : (test : Pointed → Bool) (ks : List Pointed) (r : ℕ) (p : Placed) → slice_get (placed_of (filter test ks)) r ≡ Some p → (i : ℕ) × (slice_get (placed_of ks) i ≡ Some p)
in_order test ks r p at =
    let k = pointed_at (filter test ks) r p at in
    let from = part_from test ks r k.0 k.1 in
    (from.0, subst (λ q. slice_get (placed_of ks) from.0 ≡ Some q) k.2 (placed_at ks from.0 k.0 from.1))

-- the part of the order is the order of the part
pub part_placed : (d : List ℕ) (ks : List Pointed) → part_of_order d (placed_of ks) ≡ placed_of (part d ks)
part_placed d ks = filter_made (λ k. k.placed) (λ p. is_same p.entry.doc d) ks

-- the part of the run is the run of the part
pub part_run : (d : List ℕ) (ks : List Pointed) → part_of d (run_of (placed_of ks)) ≡ run_of (placed_of (part d ks))
part_run d ks = filter_made (λ p. p.entry) (λ e. is_same e.doc d) (placed_of ks) ∙ ap run_of (part_placed d ks)

-- ---- the call places of an order

-- the first place at which the test passes, or any
abbrev first : (Event → Bool) → List Event → ℕ
first test [] = 0
first test (e ∷ es) = cond (test e) 0 (suc (first test es))

-- where it passes anywhere it passes there
first_passes : (test : Event → Bool) (es : List Event) (i : ℕ) → PassesAt test es i → PassesAt test es (first test es)
first_passes test [] i passes = absurd (none_is_not_some true passes)
first_passes test (e ∷ es) i passes = by_test (test e) refl i passes (λ j later. first_passes test es j later) where
  by_test : (b : Bool) → test e ≡ b → (i : ℕ) → PassesAt test (e ∷ es) i → ((j : ℕ) → PassesAt test es j → PassesAt test es (first test es))
      → PassesAt test (e ∷ es) (cond b 0 (suc (first test es)))
  by_test true is i here later = ap (λ b. Some b) is
  by_test false is zero here later = absurd (true≢false (sym (same_some (test e) true here) ∙ is))
  by_test false is (suc i) here later = later i here

-- the place of a call
pub call_place : List Event → Placed → ℕ
call_place events p = first (is_call p.no) events

-- a placed call stands at its place
pub called_there : (events : List Event) (p : Placed) → IsOfCall events p → PassesAt (is_call p.no) events (call_place events p)
unfolding call_place
called_there events p of = first_passes (is_call p.no) events of.0 (call_passes events of.0 p.no p.entry.shard p.entry.doc p.entry.op of.1)

-- ---- points

-- the greater of two numbers
greater : (m c : ℕ) → (n : ℕ) × (m ≤ n) × (c ≤ n) × ((n ≡ m) ⊎ (n ≡ c))
greater m c = elim (cases_lt m c) as (λ _. (n : ℕ) × (m ≤ n) × (c ≤ n) × ((n ≡ m) ⊎ (n ≡ c)))
    [ inl less ↦ (c, omega (arith, less), omega arith, inr refl) | inr not ↦ (m, omega arith, not, inl refl) ]

-- the order with its points, where the latest place before it is m
pub pointed : (Placed → ℕ) → ℕ → List Placed → List Pointed
pointed place m [] = []
pointed place m (p ∷ ps) = record { point = (greater m (place p)).0; placed = p } ∷ pointed place (greater m (place p)).0 ps

-- the order with its points is the order
pub pointed_placed : (place : Placed → ℕ) (m : ℕ) (ps : List Placed) → placed_of (pointed place m ps) ≡ ps
unfolding pointed
pointed_placed place m [] = refl
pointed_placed place m (p ∷ ps) = ap (λ qs. p ∷ qs) (pointed_placed place (greater m (place p)).0 ps)

-- no point is below what came before
pointed_below : (place : Placed → ℕ) (n m : ℕ) (ps : List Placed) → n ≤ m → IsBelowAll (λ k. k.point) n (pointed place m ps)
unfolding pointed
pointed_below place n m [] less = tt
pointed_below place n m (p ∷ ps) less =
    let more : m ≤ (greater m (place p)).0 = (greater m (place p)).1 in
    let low : n ≤ (greater m (place p)).0 = omega arith in
    (low, pointed_below place n (greater m (place p)).0 ps low)

-- points never fall along the order
pub pointed_rising : (place : Placed → ℕ) (m : ℕ) (ps : List Placed) → IsRising (λ k. k.point) (pointed place m ps)
unfolding pointed
pointed_rising place m [] = tt
pointed_rising place m (p ∷ ps) = (pointed_below place (greater m (place p)).0 (greater m (place p)).0 ps (omega arith), pointed_rising place (greater m (place p)).0 ps)

-- a call's place is not after its point
pub place_before : (place : Placed → ℕ) (m : ℕ) (ps : List Placed) (i : ℕ) (k : Pointed) → slice_get (pointed place m ps) i ≡ Some k → place k.placed ≤ k.point
unfolding pointed
place_before place m [] i k at = absurd (none_is_not_some k at)
place_before place m (p ∷ ps) zero k at =
    subst (λ q. place q.placed ≤ q.point) (same_some (record { point = (greater m (place p)).0; placed = p }) k at) (greater m (place p)).2
place_before place m (p ∷ ps) (suc i) k at = place_before place (greater m (place p)).0 ps i k at

-- the point at the place i is the place of this call or of one before it
abbrev pub IsReached : (Placed → ℕ) → List Pointed → ℕ → ℕ → Type 0
IsReached place ks i point = (j : ℕ) × (k : Pointed) × (j ≤ i) × (slice_get ks j ≡ Some k) × (place k.placed ≡ point)

-- the same with one more call in front
reached_next : (place : Placed → ℕ) (k : Pointed) (ks : List Pointed) (i point : ℕ) → IsReached place ks i point → IsReached place (k ∷ ks) (suc i) point
reached_next place k ks i point (j, l, less, at, is) = (suc j, l, omega (arith, less), at, is)

-- a point that is the first one is what came before, or is reached by the first call
reached_front : (place : Placed → ℕ) (m : ℕ) (p : Placed) (ks : List Pointed) (i point : ℕ) → point ≡ (greater m (place p)).0
    → ((greater m (place p)).0 ≡ m) ⊎ ((greater m (place p)).0 ≡ place p) → (point ≡ m) ⊎ IsReached place (record { point = (greater m (place p)).0; placed = p } ∷ ks) i point
reached_front place m p ks i point is (inl same) = inl (is ∙ same)
reached_front place m p ks i point is (inr own) = inr (0, record { point = (greater m (place p)).0; placed = p }, omega arith, refl, sym own ∙ sym is)

-- each point is what came before the order, or is reached
reached_or : (place : Placed → ℕ) (m : ℕ) (ps : List Placed) (i : ℕ) (k : Pointed) → slice_get (pointed place m ps) i ≡ Some k
    → (k.point ≡ m) ⊎ IsReached place (pointed place m ps) i k.point
unfolding pointed
reached_or place m [] i k at = absurd (none_is_not_some k at)
reached_or place m (p ∷ ps) zero k at =
    let same : record { point = (greater m (place p)).0; placed = p } ≡ k = same_some (record { point = (greater m (place p)).0; placed = p }) k at in
    reached_front place m p (pointed place (greater m (place p)).0 ps) 0 k.point (sym (ap (λ q. q.point) same)) (greater m (place p)).3
reached_or place m (p ∷ ps) (suc i) k at = by_case (reached_or place (greater m (place p)).0 ps i k at) where
  rest : List Pointed
  rest = pointed place (greater m (place p)).0 ps

  by_case : (k.point ≡ (greater m (place p)).0) ⊎ IsReached place rest i k.point
      → (k.point ≡ m) ⊎ IsReached place (record { point = (greater m (place p)).0; placed = p } ∷ rest) (suc i) k.point
  by_case (inl is) = reached_front place m p rest (suc i) k.point is (greater m (place p)).3
  by_case (inr found) = inr (reached_next place (record { point = (greater m (place p)).0; placed = p }) rest i k.point found)

-- an order with its points from the start
pub reached : (place : Placed → ℕ) (ps : List Placed) (i : ℕ) (k : Pointed) → slice_get (pointed place 0 ps) i ≡ Some k → IsReached place (pointed place 0 ps) i k.point
reached place ps i k at = by_case (reached_or place 0 ps i k at) where
  by_case : (k.point ≡ 0) ⊎ IsReached place (pointed place 0 ps) i k.point → IsReached place (pointed place 0 ps) i k.point
  by_case (inl start) = let before : place k.placed ≤ k.point = place_before place 0 ps i k at in (i, k, omega arith, at, omega arith)
  by_case (inr found) = found
