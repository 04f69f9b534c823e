-- The pairs that the witnesses of a history take, as a list; their order; and the least of them that is in
-- the list twice.
use Rattle.std.specs.Prelude.{◌≡◌, ◌<◌, ◌⊎◌, ℕ, List, [], Option, Some, None, option_map, option_and_then, filter_map, flat_map, position, slice_get}
use Rattle.std.specs.declared.cmp.Ordering.{Ordering}
use Rattle.std.specs.Ordering.{nat_cmp, ordering_then}
use Rattle.version_pair.specs.declared.pair.Pair.{Pair}
use Rattle.version_pair.specs.PairOrder.{IsBelow}
use Rattle.events.specs.declared.event.Event.{Event}
use Rattle.events.specs.declared.record.Rec.{Rec}
use Rattle.events.specs.Events.{documents_of, is_same}
use Rattle.places.specs.declared.place.Place.{Place}
use Rattle.places.specs.Witness.{Witness}
use Rattle.events.specs.Heard.{taken_by}

-- the shard of the document, if the history has it
abbrev pub shard_in : List Event → List ℕ → Option ℕ
shard_in events d =
    option_and_then (λ k. option_map (λ e. e.1) (slice_get (documents_of events) k)) (position (λ e. is_same d e.0) (documents_of events))

-- the pair that the call of a place takes
abbrev pub pair_at : List Rec → Place → Option Pair
pair_at records p = option_and_then (λ r. taken_by r.heard p.pair) (slice_get records p.rec)

-- the pairs that the calls of the places take, each with the shard
abbrev pub pairs_at : ℕ → List Rec → List Place → List (ℕ × Pair)
pairs_at h records places = filter_map (λ p. option_map (λ q. (h, q)) (pair_at records p)) places

-- the pairs that the calls of a document take, if its shard is known
abbrev pub pairs_of_document : Option ℕ → Witness → List (ℕ × Pair)
pairs_of_document None w = []
pairs_of_document (Some h) w = pairs_at h w.records w.places

-- the pairs that the calls of all documents take
abbrev pub pairs_taken : List Event → List Witness → List (ℕ × Pair)
pairs_taken events ws = flat_map (λ w. pairs_of_document (shard_in events w.doc) w) ws

-- by shard, then by term, then by sequence number
abbrev pub by_shard : ℕ × Pair → ℕ × Pair → Ordering
by_shard x y = ordering_then (nat_cmp x.0 y.0) (ordering_then (nat_cmp x.1.term y.1.term) (nat_cmp x.1.seq y.1.seq))

-- the first shard is below the second, or it is the same and the first pair is not above the second
abbrev pub IsAtMost : ℕ → Pair → ℕ → Pair → Type 0
IsAtMost h q g p = (h < g) ⊎ ((h ≡ g) × ((q ≡ p) ⊎ IsBelow q p))

-- the element is at two indices
abbrev pub IsTwice : List (ℕ × Pair) → ℕ × Pair → Type 0
IsTwice xs x = (i : ℕ) × (j : ℕ) × (i < j) × (slice_get xs i ≡ Some x) × (slice_get xs j ≡ Some x)

-- the least element that is at two indices, by shard and then by pair; `None` if there is none
abbrev pub IsLeastTwice : List (ℕ × Pair) → Option (ℕ × Pair) → Type 0
IsLeastTwice xs None = (x : ℕ × Pair) → ¬ IsTwice xs x
IsLeastTwice xs (Some x) = IsTwice xs x × ((y : ℕ × Pair) → IsTwice xs y → IsAtMost x.0 x.1 y.0 y.1)
