-- Pairs that the documents of a history are known to have, as the code keeps them.
use Rattle.std.specs.Prelude.{◌≡◌, ◌≢◌, ◌==◌, ◌&&◌, ℕ, Bool, true, false, List, Option, None, Some, slice_get}
use Rattle.version_pair.specs.declared.pair.Pair.{Pair}
use Rattle.events.specs.declared.event.Event.{Event}
use Rattle.events.specs.Events.{documents_of, records_of}
use Rattle.deciding.specs.Branches.{is_among}
use Rattle.deciding.specs.Reported.{known_pairs}
use Rattle.evidence.specs.declared.known_pairs.KnownPair.{KnownPair}

-- the document is of the shard, and known to have the pair
abbrev pub is_known_in : List Event → KnownPair → Option (List ℕ × ℕ) → Bool
is_known_in events k None = false
is_known_in events k (Some d) = d.1 == k.shard && is_among (known_pairs (records_of events d.0)) k.pair

-- the document of this number is
abbrev pub is_known_of : List Event → KnownPair → Bool
is_known_of events k = is_known_in events k (slice_get (documents_of events) k.doc)

-- each of them is known of its document
abbrev pub AreKnownOf : List Event → List KnownPair → Type 0
AreKnownOf events known = (i : ℕ) (k : KnownPair) → slice_get known i ≡ Some k → is_known_of events k ≡ true

-- one of them has the pair, and is of another document of the shard
pub record IsOther (known : List KnownPair) (shard doc : ℕ) (q : Pair) : Type 0 where
  pub index : ℕ
  pub entry : KnownPair
  pub at : slice_get known index ≡ Some entry
  pub same_shard : entry.shard ≡ shard
  pub differs : entry.doc ≢ doc
  pub has_pair : entry.pair ≡ q
