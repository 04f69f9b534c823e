-- How the reader takes what a line says: aids of its contracts.
use Rattle.std.specs.Prelude.{ℕ, ◌<◌, List, Result, Ok, Err}
use Rattle.api_lines.specs.Faults.{◌>>=◌}
use Rattle.api_lines.specs.Fields.{BodyValues}
use Rattle.api_lines.specs.declared.history_line.LineSaid.{LineSaid}
use Rattle.api_lines.specs.declared.history_line.LineSaid.TheVariants as said
use Rattle.version_pair.specs.Shards.{most_shards}
use Rattle.api_lines.specs.declared.text_fault.LineFault.{LineFault}
use Rattle.api_lines.specs.declared.text_fault.TextCause.{TextCause}
use Rattle.events.specs.declared.event.Event.{Event}
use Rattle.events.specs.declared.fault.HistFault.{HistFault}
use Rattle.history.specs.Faults.{line_fault}
use Rattle.history.specs.Reading.{adds, event_said}

-- the events after what a line says
abbrev pub takes_said : List Event → BodyValues → LineSaid → Result (List Event) TextCause
takes_said events body s = event_said events body s >>= adds events

-- the events after a reply line
abbrev pub takes_reply : List Event → ℕ → ℕ → BodyValues → Result (List Event) TextCause
takes_reply events n status body = takes_said events body (said.Reply n status)

-- the shard of a call is one of those that exist
abbrev pub HasSaidShard : LineSaid → Type 0
HasSaidShard (said.Call n h d op) = h < most_shards
HasSaidShard (said.Reply n status) = Unit {0}
HasSaidShard (said.Lost n) = Unit {0}

-- a result for an event as one for its line
abbrev pub line_result : Result (Unit {0}) HistFault → Result (Unit {0}) LineFault
line_result (Ok u) = Ok u
line_result (Err fault) = Err (line_fault fault)
