-- Which events a history refuses, and why.
use Rattle.std.specs.Prelude.{ℕ, ◌==◌, Bool, false, not, List, length, Option, Some, None, Result, Ok, Err, option_and_then, is_some, slice_get, nat_lt, if◌then◌else◌}
use Rattle.std.specs.Option.{option_map_or}
use Rattle.doc_register.specs.declared.op.Op.{Op}
use Rattle.doc_register.specs.Register.{fits}
use Rattle.events.specs.declared.event.Event.{Event}
use Rattle.events.specs.declared.event.Event.TheVariants.{Call, Reply, Lost}
use Rattle.events.specs.declared.fault.HistFault.{HistFault}
use Rattle.events.specs.declared.fault.HistFault.TheVariants.{SecondCall, NoCall, Ended, Kind, Full, NoMemory, ShardMoved}
use Rattle.events.specs.Events.{is_call, is_call_of, is_ending, place_of}

-- the greatest number of events that a `History` has, or that are read from a text: 1,048,576
-- Source: profile.
abbrev pub most_events : ℕ
most_events = 1048576

-- the first event that passes the test
abbrev pub first_event : (Event → Bool) → List Event → Option Event
first_event test events = option_and_then (slice_get events) (place_of test events)

-- the shard that a call names
abbrev pub shard_named : Event → Option ℕ
shard_named (Call h n d op) = Some h
shard_named (Reply n r) = None
shard_named (Lost n) = None

-- the operation of a call
abbrev pub op_named : Event → Option Op
op_named (Call h n d op) = Some op
op_named (Reply n r) = None
op_named (Lost n) = None

-- the shard of the document: that of its first call
-- Source: profile.
abbrev pub shard_of : List Event → List ℕ → Option ℕ
shard_of events d = option_and_then shard_named (first_event (is_call_of d) events)

-- the operation of the call numbered n
abbrev pub op_of : List Event → ℕ → Option Op
op_of events n = option_and_then op_named (first_event (is_call n) events)

-- the document was called before on another shard than h
abbrev pub is_moved : List Event → List ℕ → ℕ → Bool
is_moved events d h = option_map_or (λ s. not (s == h)) (shard_of events d) false

-- Full if the history has 1,048,576 events; otherwise no reason
abbrev pub when_full : List Event → Option HistFault
when_full events = if nat_lt (length events) most_events then None else Some Full

-- Ended if the call numbered n has an ending already; otherwise the later reason
abbrev pub when_ended : List Event → ℕ → Option HistFault → Option HistFault
when_ended events n later = if is_some (place_of (is_ending n) events) then Some Ended else later

-- The reason why the event can't be put at the end of the events, the first that holds: of a call SecondCall,
-- ShardMoved, Full; of a reply NoCall, Ended, Kind, Full; of a loss NoCall, Ended, Full. Nothing if it can.
-- Source: profile.
abbrev pub refusal_of : List Event → Event → Option HistFault
refusal_of events (Call h n d op) =
    if is_some (place_of (is_call n) events) then Some SecondCall
    else (if is_moved events d h then Some ShardMoved else when_full events)
refusal_of events (Reply n r) =
    option_map_or (λ op. when_ended events n (if fits op r then when_full events else Some Kind))
    (op_of events n) (Some NoCall)
refusal_of events (Lost n) =
    option_map_or (λ op. when_ended events n (when_full events)) (op_of events n) (Some NoCall)

-- the position of a call without an ending, by the positions of the call and of its ending; or why there is none
abbrev pub opened : Option ℕ → Option ℕ → Result ℕ HistFault
opened None ending = Err NoCall
opened (Some i) (Some j) = Err Ended
opened (Some i) None = Ok i

-- The position of the call numbered n, if it has no ending yet. Otherwise the reason why no ending can be added:
-- NoCall if there is no such call, Ended if it has one.
-- Source: profile.
abbrev pub open_call_of : List Event → ℕ → Result ℕ HistFault
open_call_of events n = opened (place_of (is_call n) events) (place_of (is_ending n) events)

-- the reason that a fault reports; being out of memory is none
abbrev pub reason_reported : HistFault → Option HistFault
reason_reported SecondCall = Some SecondCall
reason_reported NoCall = Some NoCall
reason_reported Ended = Some Ended
reason_reported Kind = Some Kind
reason_reported Full = Some Full
reason_reported NoMemory = None
reason_reported ShardMoved = Some ShardMoved

-- the reason that an answer reports, if it is a refusal; being out of memory is none
abbrev pub refusal_reported : {X : Type 0} → Result X HistFault → Option HistFault
refusal_reported (Ok x) = None
refusal_reported (Err e) = reason_reported e
