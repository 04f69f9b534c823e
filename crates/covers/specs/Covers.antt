-- Covers: the entries of a witness text that explain a history of any number of documents. An entry is a
-- document with its places (`DocPlaces`). Entries are numbered from 0, and so are the documents of a history,
-- in the order of their first calls.
use Rattle.std.specs.Prelude.{◌≡◌, ℕ, List, Some, map, slice_get}
use Rattle.version_pair.specs.declared.pair.Pair.{Pair}
use Rattle.doc_register.specs.declared.state.Conflicts.{Conflicts}
use Rattle.events.specs.declared.event.Event.{Event}
use Rattle.events.specs.declared.record.Rec.{Rec}
use Rattle.events.specs.Events.{documents_of, records_of}
use Rattle.places.specs.declared.place.Place.{Place}
use Rattle.places.specs.Places.{AreValid, IsPlaceOf}
use Rattle.places.specs.Documents.{DocPlaces, witness_places}
use Rattle.places.specs.Witness.{Witness}
use Rattle.doc_check.specs.NoOrders.{AreUnpaired}
use Rattle.events.specs.Heard.{taken_by}

-- the document is one of the history, and of this shard
abbrev pub IsOfShard : List Event → List ℕ → ℕ → Type 0
IsOfShard events d h = (k : ℕ) × (slice_get (documents_of events) k ≡ Some (d, h))

-- the entry's document is one of the history
abbrev pub IsKnown : List Event → DocPlaces → Type 0
IsKnown events e = (h : ℕ) × IsOfShard events e.doc h

-- some entry is of the document
abbrev pub IsEntered : List DocPlaces → List ℕ → Type 0
IsEntered entries d = (i : ℕ) × (e : DocPlaces) × (slice_get entries i ≡ Some e) × (e.doc ≡ d)

-- The entries are fine.
pub record AreValidEntries (conflicts : Conflicts) (events : List Event) (entries : List DocPlaces) : Type 0 where
  -- each is of a document of the history
  pub known : (i : ℕ) (e : DocPlaces) → slice_get entries i ≡ Some e → IsKnown events e
  -- no two are of one document
  pub once : (i j : ℕ) (e f : DocPlaces) → slice_get entries i ≡ Some e → slice_get entries j ≡ Some f → e.doc ≡ f.doc → i ≡ j
  -- the places of each are valid places of its document's records
  pub valid : (i : ℕ) (e : DocPlaces) → slice_get entries i ≡ Some e → AreValid conflicts (records_of events e.doc) e.places

-- each document of the history is entered
abbrev pub AreComplete : List Event → List DocPlaces → Type 0
AreComplete events entries = (k : ℕ) (d : List ℕ × ℕ) → slice_get (documents_of events) k ≡ Some d → IsEntered entries d.0

-- ---- pairs

-- at the place j of the entry i a call takes the pair q of the shard h
pub record IsTakenAt (events : List Event) (entries : List DocPlaces) (i j h : ℕ) (q : Pair) : Type 0 where
  pub entry : DocPlaces
  pub place : Place
  pub called : Rec
  -- the entry is at i
  pub entered : slice_get entries i ≡ Some entry
  -- the place is at j of this entry
  pub placed : slice_get entry.places j ≡ Some place
  -- the place names the call
  pub names : IsPlaceOf (records_of events entry.doc) place called
  -- the document is of the shard
  pub shard : IsOfShard events entry.doc h
  -- the call takes the pair
  pub takes : taken_by called.heard place.pair ≡ Some q

-- no pair of a shard is taken at two places, of one entry or of two
-- Source: OpenSearch: a sequence number is given once in a shard.
abbrev pub ArePairsDistinct : List Event → List DocPlaces → Type 0
ArePairsDistinct events entries = (i j k l h : ℕ) (q : Pair) → IsTakenAt events entries i j h q
    → IsTakenAt events entries k l h q → (i ≡ k) × (j ≡ l)

-- the pair of the shard is taken at two places
pub record IsTakenTwice (events : List Event) (entries : List DocPlaces) (h : ℕ) (q : Pair) : Type 0 where
  pub entry : ℕ
  pub place : ℕ
  pub other_entry : ℕ
  pub other_place : ℕ
  -- the pair is taken at a place
  pub one : IsTakenAt events entries entry place h q
  -- it is taken at another place
  pub other : IsTakenAt events entries other_entry other_place h q
  -- the two places are not the same
  pub apart : (entry ≡ other_entry) × (place ≡ other_place) → ⊥

-- ---- covers

-- The entries cover the history.
-- Source: after Herlihy and Wing, section 3.1: an order of each object gives one of all; profile (the pairs).
pub record AreCover (conflicts : Conflicts) (events : List Event) (entries : List DocPlaces) : Type 0 where
  -- they are fine: each is of a document of its own, with valid places
  pub fine : AreValidEntries conflicts events entries
  -- each document of the history is entered
  pub complete : AreComplete events entries
  -- no pair of a shard is taken at two places
  pub distinct : ArePairsDistinct events entries

-- The witnesses are those of the history.
-- Source: profile.
pub record AreWitnesses (conflicts : Conflicts) (events : List Event) (ws : List Witness) : Type 0 where
  -- each carries the records of its document in the history, and the reading of conflicts
  pub own : (i : ℕ) (w : Witness) → slice_get ws i ≡ Some w → (w.records ≡ records_of events w.doc) × (w.conflicts ≡ conflicts)
  -- as entries they cover the history
  pub cover : AreCover conflicts events (map witness_places ws)

-- no place of an entry gives a pair
abbrev pub AreAllUnpaired : List DocPlaces → Type 0
AreAllUnpaired entries = (i : ℕ) (e : DocPlaces) → slice_get entries i ≡ Some e → AreUnpaired e.places

-- no entries without a given pair cover the history
abbrev pub HasNoUnpairedCover : Conflicts → List Event → Type 0
HasNoUnpairedCover conflicts events = (entries : List DocPlaces) → AreAllUnpaired entries → ¬ AreCover conflicts events entries
