-- The numbers of calls of a history.
use Rattle.std.specs.Prelude.{ℕ, ◌==◌, ◌%◌, Bool, true, false, List, filter, length}
use Rattle.events.specs.declared.event.Event.{Event}
use Rattle.events.specs.declared.event.Event.TheVariants.{Call, Reply, Lost}
use Rattle.events.specs.Events.{is_any_call}
use Rattle.compose.specs.declared.counts.CallNumbers.{CallNumbers}
use Rattle.compose.specs.declared.counts.CallNumbers.TheVariants.{All, Even}

-- the number of calls of a history
abbrev pub calls_of : List Event → ℕ
calls_of events = length (filter is_any_call events)

-- whether calls of this number are counted: all of them, or those with an even number
abbrev pub is_counted : CallNumbers → ℕ → Bool
is_counted All n = true
is_counted Even n = n % 2 == 0

-- whether the event is a call that is counted
abbrev pub is_counted_call : CallNumbers → Event → Bool
is_counted_call which (Call h n d op) = is_counted which n
is_counted_call which (Reply n r) = false
is_counted_call which (Lost n) = false

-- the number of calls of a history that are counted
abbrev pub calls_counted : CallNumbers → List Event → ℕ
calls_counted which events = length (filter (is_counted_call which) events)
