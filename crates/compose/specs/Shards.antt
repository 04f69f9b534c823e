-- The part of a history that concerns one shard, and the law that histories are linearizable shard by shard.
use Rattle.std.specs.Prelude.{◌≡◌, ◌↔◌, ◌==◌, ◌&&◌, ℕ, Bool, true, false, List, [], Some, filter, slice_get}
use Rattle.std.specs.List.{list_any}
use Rattle.doc_register.specs.declared.op.Op.{Op}
use Rattle.doc_register.specs.declared.state.Conflicts.{Conflicts}
use Rattle.events.specs.declared.event.Event.{Event}
use Rattle.events.specs.declared.event.Event.TheVariants.{Call, Reply, Lost}
use Rattle.events.specs.Events.{IsCallAt, IsHistory}
use Rattle.events.specs.Order.{IsLinearizable}

-- ---- the part of a shard

-- the event is the call numbered n, and it names the shard h
abbrev pub is_call_on : ℕ → ℕ → Event → Bool
is_call_on h n (Call g m d op) = (m == n) && (g == h)
is_call_on h n (Reply m r) = false
is_call_on h n (Lost m) = false

-- The event concerns the shard: it is a call that names it, or the ending of such a call, which is looked up
-- in the whole list.
abbrev pub concerns : ℕ → List Event → Event → Bool
concerns h events (Call g n d op) = g == h
concerns h events (Reply n r) = list_any (is_call_on h n) events
concerns h events (Lost n) = list_any (is_call_on h n) events

-- the calls of the shard's documents and their endings, in their order
-- Source: Herlihy and Wing, section 2, the subhistory of an object: the object is the shard.
abbrev pub part_of_shard : ℕ → List Event → List Event
part_of_shard h events = filter (concerns h events) events

-- ---- the law

-- The events are split by shard.
-- Source: Herlihy and Wing, section 2, the subhistory of an object: the object is the shard.
pub record IsSplitByShard (events : List Event) : Type 0 where
  -- each event concerns exactly one shard
  pub one : (i : ℕ) (e : Event) → slice_get events i ≡ Some e
      → (h : ℕ) × (concerns h events e ≡ true) × ((g : ℕ) → concerns g events e ≡ true → g ≡ h)
  -- the part of a shard is a history
  pub history : (h : ℕ) → IsHistory (part_of_shard h events)
  -- the part of a shard without a call has no event
  pub empty : (h : ℕ) → ((i n : ℕ) (d : List ℕ) (op : Op) → ¬ IsCallAt events i n h d op) → part_of_shard h events ≡ []

-- Each history is split into the parts of its shards, and is linearizable if and only if each of them is.
-- Source: Herlihy and Wing, section 3.1, Theorem 1, both directions, with shards as the objects.
pub record LocalByShard : Type 0 where
  -- each history is so split
  pub split : (events : List Event) → IsHistory events → IsSplitByShard events
  -- it is linearizable if and only if the part of each shard is, in the same reading of conflicts
  pub linearizable : (conflicts : Conflicts) (events : List Event) → IsHistory events
      → IsLinearizable conflicts events ↔ ((h : ℕ) → IsLinearizable conflicts (part_of_shard h events))
