use Rattle.std.proofs.Common.{◌≡◌, map, take}
use Rattle.places.specs.Documents.{witness_places}
use Rattle.compose.specs.Laws.{places_in}
use Rattle.compose.proofs.counts.count_places.Given as goal

abbrev pub invariant-loop-i : goal.invariant-loop-i
invariant-loop-i l = l.places ≡ places_in (map witness_places (take l.i l.witnesses))
