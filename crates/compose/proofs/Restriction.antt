-- An order that explains a history gives a cover of it, with no pair given where replies say which writes were performed.
use Rattle.events.proofs.OrderLemmas.{reply_order_explains}
use Rattle.events.specs.Order.{reply_order}
use Rattle.compose.specs.Laws.{OrdersAreCovers, LegalInResponseOrderAreCovered, CompleteHaveNoOrder}
use Rattle.compose.proofs.CoverLemmas.{restriction, restriction_covers}
use Rattle.compose.proofs.UnpairedPlaces.{replies_unpaired, complete_unpaired}

-- the order, restricted to each document, is a cover
pub orders_are_covers : OrdersAreCovers
orders_are_covers conflicts events order history explains =
    let made = restriction conflicts events order history explains in
    (made.0, restriction_covers conflicts events order made.0 history explains made.1, made.1.placed)

-- an order of a complete history gives a cover without a given pair
pub complete_have_no_order : CompleteHaveNoOrder
complete_have_no_order conflicts events history complete none (order, explains) =
    let made = orders_are_covers conflicts events order history explains in
    none made.0 (λ i e at. complete_unpaired conflicts events e.doc e.places history complete (made.1.fine.valid i e at)) made.1

-- the order of the replies gives a cover without a given pair
pub legal_in_response_order_are_covered : LegalInResponseOrderAreCovered
legal_in_response_order_are_covered conflicts events history right =
    let made = orders_are_covers conflicts events (reply_order events) history (reply_order_explains conflicts events history right) in
    (made.0, λ i e at. replies_unpaired events e.doc e.places history (made.2 i e at), made.1)
