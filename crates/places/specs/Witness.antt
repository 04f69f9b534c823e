-- How contracts see a `DocWitness`.
use Rattle.std.specs.Prelude.{ℕ, List}
use Rattle.doc_register.specs.declared.state.Conflicts.{Conflicts}
use Rattle.events.specs.declared.record.Rec.{Rec}
use Rattle.places.specs.declared.place.Place.{Place}

-- A document's id, its records, the places of an order of them, and how a conflict is read. The type of the
-- code keeps that the places are valid places of the records in that reading.
pub record Witness : Type 0 where
  pub doc : List ℕ
  pub records : List Rec
  pub places : List Place
  pub conflicts : Conflicts
