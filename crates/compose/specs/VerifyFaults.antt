-- The first fault of entries that do not cover a history.
use Rattle.std.specs.Prelude.{◌≡◌, ◌<◌, ℕ, List, Some, slice_get, take}
use Rattle.version_pair.specs.declared.pair.Pair.{Pair}
use Rattle.doc_register.specs.declared.state.Conflicts.{Conflicts}
use Rattle.events.specs.declared.event.Event.{Event}
use Rattle.events.specs.Events.{documents_of, records_of}
use Rattle.places.specs.Faults.{IsFirstFault}
use Rattle.places.specs.Documents.{DocPlaces}
use Rattle.shard_numbers.specs.Taken.{IsAtMost}
use Rattle.covers.specs.Covers.{AreComplete, AreValidEntries, IsEntered, IsKnown, IsTakenTwice}
use Rattle.compose.specs.declared.verify_fault.VerifyFault.{VerifyFault}
use Rattle.compose.specs.declared.verify_fault.VerifyFault.TheVariants as fault

-- the entry is at index i, and those before it are fine
pub record IsAtEntry (conflicts : Conflicts) (events : List Event) (entries : List DocPlaces) (i : ℕ) (e : DocPlaces) : Type 0 where
  -- the entry is at i
  pub here : slice_get entries i ≡ Some e
  -- those before it are fine
  pub fine : AreValidEntries conflicts events (take i entries)

-- The fault holds, and no fault that is reported before it. The order is: entry by entry DocStranger, a
-- document that the history lacks, DocTwice, one that was entered before, and Broken, the first fault of its
-- places (`IsFirstFault`); then DocMissing, the first document that is not entered; then PairTwice, the least
-- shard, and of it the least pair, that is taken at two places. NoMemory never is.
-- Source: profile.
abbrev pub IsFirstVerifyFault : Conflicts → List Event → List DocPlaces → VerifyFault → Type 0
IsFirstVerifyFault conflicts events entries (fault.DocStranger i) = (e : DocPlaces) × IsAtEntry conflicts events entries i e × (¬ IsKnown events e)
IsFirstVerifyFault conflicts events entries (fault.DocTwice i) =
    (e : DocPlaces) × IsAtEntry conflicts events entries i e × IsKnown events e × IsEntered (take i entries) e.doc
IsFirstVerifyFault conflicts events entries (fault.Broken i broken) =
    (e : DocPlaces) × IsAtEntry conflicts events entries i e × IsKnown events e × (¬ IsEntered (take i entries) e.doc)
    × IsFirstFault conflicts (records_of events e.doc) e.places broken
IsFirstVerifyFault conflicts events entries (fault.DocMissing k) =
    (d : List ℕ × ℕ) × AreValidEntries conflicts events entries × (slice_get (documents_of events) k ≡ Some d) × (¬ IsEntered entries d.0)
    × ((j : ℕ) (c : List ℕ × ℕ) → j < k → slice_get (documents_of events) j ≡ Some c → IsEntered entries c.0)
IsFirstVerifyFault conflicts events entries (fault.PairTwice shard pair) =
    AreValidEntries conflicts events entries × AreComplete events entries × IsTakenTwice events entries shard pair
    × ((h : ℕ) (q : Pair) → IsTakenTwice events entries h q → IsAtMost shard pair h q)
IsFirstVerifyFault conflicts events entries fault.NoMemory = ⊥
