-- Documents with their places.
use Rattle.std.specs.Prelude.{ℕ, List, Vec}
use Rattle.std.specs.declared.alloc.Global.{Global}
use Rattle.places.specs.declared.place.Place.{Place}
use Rattle.places.specs.Witness.{Witness}

-- a document's id, and its places: what a witness text is about
-- Source: profile.
pub record DocPlaces : Type 0 where
  -- the id of the document
  pub doc : List ℕ
  -- its places
  pub places : List Place

-- a document's id with its places, as the definitions have them
abbrev pub doc_places : List ℕ × Vec Place Global → DocPlaces
doc_places d = record { doc = d.0; places = d.1.items }

-- the document of a witness, with its places
abbrev pub witness_places : Witness → DocPlaces
witness_places w = record { doc = w.doc; places = w.places }
