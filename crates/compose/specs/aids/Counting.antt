-- How the places of witnesses are counted.
use Rattle.std.specs.Prelude.{ℕ, ◌+◌, List, [], ◌∷◌, filter, length}
use Rattle.places.specs.Witness.{Witness}
use Rattle.compose.specs.Counts.{is_counted}
use Rattle.compose.specs.Laws.{names_number}
use Rattle.compose.specs.declared.counts.CallNumbers.{CallNumbers}

-- the number of places of the witness that name calls that are counted
abbrev pub counted_in : CallNumbers → Witness → ℕ
counted_in which w = length (filter (names_number (is_counted which) w.records) w.places)

-- the number of such places of all witnesses
abbrev pub counted_places : CallNumbers → List Witness → ℕ
counted_places which [] = 0
counted_places which (w ∷ ws) = counted_in which w + counted_places which ws
