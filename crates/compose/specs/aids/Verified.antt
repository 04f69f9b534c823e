-- Entries of a witness text, verified one after another.
use Rattle.std.specs.Prelude.{◌≡◌, ◌↔◌, ℕ, List, Bool, true, false, Some, length, map, slice_get}
use Rattle.doc_register.specs.declared.state.Conflicts.{Conflicts}
use Rattle.events.specs.declared.event.Event.{Event}
use Rattle.events.specs.Events.{documents_of, records_of}
use Rattle.places.specs.Documents.{DocPlaces, witness_places}
use Rattle.places.specs.Faults.{IsFirstFault}
use Rattle.places.specs.Places.{AreValid}
use Rattle.places.specs.declared.broken.Broken.{Broken}
use Rattle.places.specs.Witness.{Witness}
use Rattle.covers.specs.Covers.{AreValidEntries, IsEntered, IsKnown, IsOfShard}
use Rattle.compose.specs.declared.verify_fault.VerifyFault.{VerifyFault}
use Rattle.compose.specs.declared.verify_fault.VerifyFault.TheVariants as fault

-- The entries are fine, the witnesses have their places and the records of their documents, and a mark says
-- for each document of the history whether it is entered.
pub record AreVerified (conflicts : Conflicts) (events : List Event) (entries : List DocPlaces) (marks : List Bool) (ws : List Witness) : Type 0 where
  pub fine : AreValidEntries conflicts events entries
  pub places : map witness_places ws ≡ entries
  pub own : (i : ℕ) (w : Witness) → slice_get ws i ≡ Some w → (w.records ≡ records_of events w.doc) × (w.conflicts ≡ conflicts)
  pub size : length marks ≡ length (documents_of events)
  pub marked : (k : ℕ) (d : List ℕ × ℕ) → slice_get (documents_of events) k ≡ Some d → (slice_get marks k ≡ Some true) ↔ IsEntered entries d.0

-- the first fault of an entry after those that are fine
abbrev pub IsFaultOfEntry : Conflicts → List Event → List DocPlaces → DocPlaces → VerifyFault → Type 0
IsFaultOfEntry conflicts events before e (fault.DocStranger i) = (i ≡ length before) × (¬ IsKnown events e)
IsFaultOfEntry conflicts events before e (fault.DocTwice i) = (i ≡ length before) × IsKnown events e × IsEntered before e.doc
IsFaultOfEntry conflicts events before e (fault.Broken i broken) =
    (i ≡ length before) × IsKnown events e × (¬ IsEntered before e.doc) × IsFirstFault conflicts (records_of events e.doc) e.places broken
IsFaultOfEntry conflicts events before e (fault.DocMissing k) = ⊥
IsFaultOfEntry conflicts events before e (fault.PairTwice shard pair) = ⊥
IsFaultOfEntry conflicts events before e fault.NoMemory = ⊥

-- ---- one entry

-- the document has this number, and is not marked
abbrev pub IsOpen : List Event → List Bool → List ℕ → ℕ → Type 0
IsOpen events marks d k = (h : ℕ) × (slice_get (documents_of events) k ≡ Some (d, h)) × (slice_get marks k ≡ Some false)

-- the history has no such document, or it is marked
abbrev pub IsFaultOfDocument : List Event → List Bool → ℕ → List ℕ → VerifyFault → Type 0
IsFaultOfDocument events marks entry d (fault.DocStranger i) = (i ≡ entry) × ((h : ℕ) → ¬ IsOfShard events d h)
IsFaultOfDocument events marks entry d (fault.DocTwice i) =
    (i ≡ entry) × ((k : ℕ) × (h : ℕ) × (slice_get (documents_of events) k ≡ Some (d, h)) × (slice_get marks k ≡ Some true))
IsFaultOfDocument events marks entry d (fault.Broken i broken) = ⊥
IsFaultOfDocument events marks entry d (fault.DocMissing k) = ⊥
IsFaultOfDocument events marks entry d (fault.PairTwice shard pair) = ⊥
IsFaultOfDocument events marks entry d fault.NoMemory = ⊥

-- the witness has these places, which are valid for the records of the document with this number
abbrev pub IsWitnessAt : Conflicts → List Event → ℕ → DocPlaces → Witness → Type 0
IsWitnessAt conflicts events k e w = (d : List ℕ × ℕ) → slice_get (documents_of events) k ≡ Some d
    → (w ≡ record { doc = e.doc; records = records_of events d.0; places = e.places; conflicts = conflicts }) × AreValid conflicts (records_of events d.0) e.places

-- the places have this first fault, for the records of the document with this number
abbrev pub IsFaultOfPlaces : Conflicts → List Event → ℕ → ℕ → DocPlaces → VerifyFault → Type 0
IsFaultOfPlaces conflicts events k entry e reported = (d : List ℕ × ℕ) → slice_get (documents_of events) k ≡ Some d
    → (broken : Broken) × (reported ≡ fault.Broken entry broken) × IsFirstFault conflicts (records_of events d.0) e.places broken
