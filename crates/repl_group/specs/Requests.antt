-- What tickets refer to, and how far they have come.
use Rattle.std.specs.Prelude.{ℕ, ◌+◌, ◌==◌, ◌&&◌, Bool, true, false, List, [], ◌∷◌, Option, Some, None, if◌then◌else◌, map, slice_set}
use Rattle.std.specs.List.{list_any}
use Rattle.version_pair.specs.declared.pair.Pair.{Pair}
use Rattle.doc_register.specs.declared.reply.Reply.{Reply}
use Rattle.doc_register.specs.declared.state.DocState.{DocState}
use Rattle.repl_group.specs.declared.request.Request.{Request}
use Rattle.repl_group.specs.declared.request.Stage.{Stage}
use Rattle.repl_group.specs.declared.request.Stage.TheVariants.{Queued, InFlight, Answered, Lost}

-- the operation is queued
abbrev pub is_queued : Stage → Bool
is_queued Queued = true
is_queued (InFlight q before) = false
is_queued (Answered r) = false
is_queued (Lost q) = false

-- the write is in flight
abbrev pub is_in_flight : Stage → Bool
is_in_flight Queued = false
is_in_flight (InFlight q before) = true
is_in_flight (Answered r) = false
is_in_flight (Lost q) = false

-- the pair that the write took, and its document before it, if it is in flight
abbrev pub flight_of : Stage → Option (Pair × DocState)
flight_of Queued = None
flight_of (InFlight q before) = Some (q, before)
flight_of (Answered r) = None
flight_of (Lost q) = None

-- the reply, if the operation is answered
abbrev pub answer_in : Stage → Option Reply
answer_in Queued = None
answer_in (InFlight q before) = None
answer_in (Answered r) = Some r
answer_in (Lost q) = None

-- a write is in flight on the document numbered d
abbrev pub is_busy : List Request → ℕ → Bool
is_busy requests d = list_any (λ x. is_in_flight x.stage && (d == x.doc)) requests

-- the tickets in flight, in rising order, if the first ticket counts as i
abbrev pub in_flight_from : ℕ → List Request → List ℕ
in_flight_from i [] = []
in_flight_from i (x ∷ xs) = if is_in_flight x.stage then i ∷ in_flight_from (i + 1) xs else in_flight_from (i + 1) xs

-- the ticket's request x has come to the stage
abbrev pub with_stage : List Request → ℕ → Request → Stage → List Request
with_stage requests t x s = slice_set requests t (record x { stage = s })

-- the stage after a promotion: what was in flight is lost
-- Source: profile.
abbrev pub lost_from : Stage → Stage
lost_from Queued = Queued
lost_from (InFlight q before) = Lost q
lost_from (Answered r) = Answered r
lost_from (Lost q) = Lost q

-- the request after a promotion
-- Source: profile.
abbrev pub lost_request : Request → Request
lost_request x = record x { stage = lost_from x.stage }

-- the requests, none of which is in flight any more
-- Source: profile.
abbrev pub with_flights_lost : List Request → List Request
with_flights_lost requests = map lost_request requests
