use Rattle.std.proofs.Common.{◌≡◌, ◌<◌, ◌-◌, ◌++◌, length}
use Rattle.events.specs.aids.Documents.{places_back}
use Rattle.events.proofs.documents.Documents.calls.Given as goal

abbrev pub invariant-loop : goal.invariant-loop
invariant-loop l =
    let links = l.self-inside.links.items in
    (l.at < length links) × (places_back links l.count l.last ≡ l.places.items ++ places_back links (l.count - l.counter) l.at)
