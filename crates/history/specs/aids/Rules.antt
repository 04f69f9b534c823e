-- How a reader takes a line by rules: aids of its contracts.
use Rattle.std.specs.Prelude.{◌≡◌, ℕ, ◌≤◌, List, [], ◌∷◌, ◌++◌, Bool, true, false, Option, Some, None, Result, Ok, Err}
use Rattle.api_lines.specs.Faults.{◌>>=◌}
use Rattle.api_lines.specs.Fields.{BodyValues}
use Rattle.api_lines.specs.declared.history_line.LineSaid.{LineSaid}
use Rattle.api_lines.specs.declared.history_line.LineSaid.TheVariants as said
use Rattle.api_lines.specs.declared.text_fault.TextCause.{TextCause}
use Rattle.api_lines.specs.declared.text_fault.TextCause.TheVariants.{Full}
use Rattle.events.specs.declared.event.Event.{Event}
use Rattle.events.specs.Refusal.{most_events}
use Rattle.history.specs.ByRules.{TextState, in_room, room_of_call, room_taken, strict_rules}
use Rattle.history.specs.aids.Taking.{takes_said}
use Rattle.history.specs.declared.text_rules.Writes.{Writes}

-- the room that the event of what a line says takes
abbrev pub room_said : Writes → LineSaid → ℕ
room_said w (said.Call n h d op) = room_of_call w op
room_said w (said.Reply n status) = 1
room_said w (said.Lost n) = 1

-- the events after what a line says, if there is room
abbrev pub takes_in_room : Writes → List Event → BodyValues → LineSaid → Result (List Event) TextCause
takes_in_room w events body s = takes_said events body s >>= in_room w

-- why a line is refused for which there is no room: the first cause that it is refused for anyway, otherwise Full
abbrev pub cause_without_room : Result (List Event) TextCause → TextCause
cause_without_room (Ok events) = Full
cause_without_room (Err cause) = cause

-- the number of the call of which a line says that nothing was performed, if it says so
abbrev pub voided : Bool → LineSaid → Option ℕ
voided false s = None
voided true (said.Call n h d op) = None
voided true (said.Reply n status) = None
voided true (said.Lost n) = Some n

-- the numbers, with this one at the end, if there is one
abbrev pub with_number : Option ℕ → List ℕ → List ℕ
with_number None ns = ns
with_number (Some n) ns = ns ++ n ∷ []

-- the room that the events take is that many, and it is there
pub record IsRoomTaken (w : Writes) (events : List Event) (room : ℕ) : Type 0 where
  pub taken : room ≡ room_taken w events
  pub within : room ≤ most_events

-- these events, read by the strict rules
abbrev pub strict_state : List Event → TextState
strict_state events = record { rules = strict_rules; read = record { history = events; voids = [] } }

-- what was read was read by the strict rules
abbrev pub IsStrict : TextState → Type 0
IsStrict s = s ≡ strict_state s.read.history
