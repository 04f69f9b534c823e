use Rattle.std.proofs.Common.{◌≡◌, take}
use Rattle.compose.specs.aids.Counting.{counted_places}
use Rattle.compose.proofs.counts.CallNumbers.count_all_places.Given as goal

abbrev pub invariant-loop-i : goal.invariant-loop-i
invariant-loop-i l = l.places ≡ counted_places l.self (take l.i l.witnesses)
