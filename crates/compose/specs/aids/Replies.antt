-- The replies of a history by their positions.
use Rattle.std.specs.Prelude.{◌≡◌, ◌≤◌, ◌<◌, ◌+◌, ◌-◌, ◌++◌, ◌∷◌, [], ℕ, List, Some, slice_get}
use Rattle.doc_register.specs.declared.reply.Reply.{Reply as Answer}
use Rattle.events.specs.declared.event.Event.{Event}
use Rattle.events.specs.declared.event.Event.TheVariants.{Call, Reply, Lost}
use Rattle.events.specs.Events.{IsReplyAt, prefix}
use Rattle.events.specs.Order.{IsLegalInResponseOrder}
use Rattle.compose.specs.declared.checking.SearchOutcome.{SearchOutcome}
use Rattle.compose.specs.declared.checking.SearchOutcome.TheVariants.{Found, NotFound}

-- a reply is at the position
abbrev pub IsReplyPlace : List Event → ℕ → Type 0
IsReplyPlace events p = (m : ℕ) × (r : Answer) × IsReplyAt events p m r

-- the positions are those of the replies before the position n, rising
pub record AreReplies (events : List Event) (n : ℕ) (places : List ℕ) : Type 0 where
  pub each : (i p : ℕ) → slice_get places i ≡ Some p → IsReplyPlace events p × (p < n)
  pub all : (p : ℕ) → p < n → IsReplyPlace events p → (i : ℕ) × (slice_get places i ≡ Some p)
  pub rise : (i j p q : ℕ) → slice_get places i ≡ Some p → slice_get places j ≡ Some q → i ≤ j → p ≤ q

-- the positions, with that of one more event if it is a reply
abbrev pub places_with : Event → ℕ → List ℕ → List ℕ
places_with (Call h n d op) p places = places
places_with (Reply n r) p places = places ++ p ∷ []
places_with (Lost n) p places = places

-- the events up to and including the position are not legal in response order
abbrev pub IsWrongAt : List Event → ℕ → Type 0
IsWrongAt events p = ¬ IsLegalInResponseOrder (prefix events (p + 1))

-- the same, unless orders were found for them
abbrev pub IsWrongUnlessFound : List Event → ℕ → SearchOutcome → Type 0
IsWrongUnlessFound events p Found = Unit {0}
IsWrongUnlessFound events p (NotFound place) = IsWrongAt events p

-- the events up to the position at this index are not legal in response order
abbrev pub IsWrongFrom : List Event → List ℕ → ℕ → Type 0
IsWrongFrom events places i = (p : ℕ) → slice_get places i ≡ Some p → IsWrongAt events p

-- A shorter range of indices, which ends at `high` or before. If the events up to the position at `high` are
-- not legal in response order, neither are those up to its last position.
pub record IsNarrower (events : List Event) (places : List ℕ) (low high : ℕ) (part : ℕ × ℕ) : Type 0 where
  pub order : part.0 ≤ part.1
  pub within : part.1 ≤ high
  pub fewer : part.1 - part.0 < high - low
  pub wrong : IsWrongFrom events places high → IsWrongFrom events places part.1
