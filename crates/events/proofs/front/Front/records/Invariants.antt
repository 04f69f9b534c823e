use Rattle.std.proofs.Common.{◌≡◌, take}
use Rattle.events.proofs.RecordLemmas.{records_at_places}
use Rattle.events.proofs.front.Front.records.Given as goal

abbrev pub invariant-loop-k : goal.invariant-loop-k
invariant-loop-k l = l.records.items ≡ records_at_places l.self (take l.k l.places.items)
