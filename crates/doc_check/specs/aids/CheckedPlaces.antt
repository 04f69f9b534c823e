-- What the check says of places that were found.
use Rattle.std.specs.Prelude.{◌≡◌, ℕ, List}
use Rattle.doc_register.specs.declared.state.Conflicts.{Conflicts}
use Rattle.events.specs.declared.record.Rec.{Rec}
use Rattle.places.specs.declared.place.Place.{Place}
use Rattle.places.specs.Places.{AreValid}
use Rattle.doc_check.specs.declared.search.CheckedPlaces.{CheckedPlaces}
use Rattle.doc_check.specs.declared.search.CheckedPlaces.TheVariants.{Valid, Invalid}

-- The result is a witness with exactly these places, which are valid; or they aren't, and the result has the
-- id and the records again.
abbrev pub IsChecked : List ℕ → List Rec → List Place → Conflicts → CheckedPlaces → Type 0
IsChecked doc records places conflicts (Valid w) =
    (w.doc ≡ doc) × (w.records ≡ records) × (w.conflicts ≡ conflicts) × (w.places ≡ places) × AreValid conflicts records places
IsChecked doc records places conflicts (Invalid again recs) = (again ≡ doc) × (recs.items ≡ records) × ¬ AreValid conflicts records places
