-- What a proof and a case keep.
use Rattle.std.proofs.Common.{arith, List, ◌≡◌, ◌-◌, refl, length, map}
use Rattle.doc_register.specs.declared.state.Conflicts.{Conflicts}
use Rattle.events.specs.declared.event.Event.{Event}
use Rattle.events.specs.Events.{IsHistory, documents_of}
use Rattle.events.specs.Order.{IsLinearizable}
use Rattle.places.specs.Documents.{witness_places}
use Rattle.places.specs.Witness.{Witness}
use Rattle.compose.specs.Counts.{calls_of}
use Rattle.compose.specs.Laws.{places_in}
use Rattle.covers.specs.Covers.{AreWitnesses, HasNoUnpairedCover}
use Rattle.compose.specs.Verdicts.{AreCounts, HasNoOrderFound, HasOrder}
use Rattle.compose.proofs.CountedPlaces.{places_within}
use Rattle.compose.proofs.Locality.{covers_explain}
use Rattle.compose.proofs.Restriction.{legal_in_response_order_are_covered, complete_have_no_order}

pub witnesses_explain : (conflicts : Conflicts) (events : List Event) (ws : List Witness) → IsHistory events → AreWitnesses conflicts events ws → IsLinearizable conflicts events
witnesses_explain conflicts events ws history are = let order = covers_explain conflicts events _ history are.cover in (order.0, order.1)

pub uncovered_has_none : (conflicts : Conflicts) (events : List Event) → IsHistory events → HasNoUnpairedCover conflicts events → HasNoOrderFound conflicts events
uncovered_has_none conflicts events history none = record {
  uncovered = none;
  not_right = λ right. let cover = legal_in_response_order_are_covered conflicts events history right in none cover.0 cover.1 cover.2;
  complete = λ complete. complete_have_no_order conflicts events history complete none;
}

-- what is counted of a history and of the witnesses that cover it
pub are_counts : (conflicts : Conflicts) (events : List Event) (ws : List Witness) → IsHistory events → AreWitnesses conflicts events ws
    → AreCounts events (map witness_places ws) (length (documents_of events)) (calls_of events) (calls_of events - places_in (map witness_places ws))
are_counts conflicts events ws history are =
    let within = places_within conflicts events ws history are in
    record { documents = refl; all_calls = refl; the_rest = omega (arith, within) }

-- an order of so many calls
pub has_order : (conflicts : Conflicts) (events : List Event) (ws : List Witness) → IsHistory events → AreWitnesses conflicts events ws
    → HasOrder conflicts events (length (documents_of events)) (calls_of events) (calls_of events - places_in (map witness_places ws))
has_order conflicts events ws history are =
    let order = covers_explain conflicts events (map witness_places ws) history are.cover in
    let within = places_within conflicts events ws history are in
    let size : length order.0 ≡ places_in (map witness_places ws) = order.2.count in
    record {
      documents = refl;
      all_calls = refl;
      order = order.0;
      explains = order.1;
      the_rest = omega arith;
    }
