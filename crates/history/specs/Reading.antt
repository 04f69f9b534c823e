-- How a history text is read: the event that each line gives after the events so far, or the first cause to
-- refuse it. That the texts which are read are those of `IsHistoryText` is the law `TextsAreRead`.
use Rattle.std.specs.Prelude.{ℕ, List, [], ◌∷◌, ◌++◌, Option, Some, None, Result, Ok, Err}
use Rattle.serde_json.specs.Data.{Data}
use Rattle.api_lines.specs.Faults.{◌>>=◌}
use Rattle.api_lines.specs.Fields.{BodyValues, LineValues, line_values}
use Rattle.api_lines.specs.HistoryLines.{line_parsed}
use Rattle.api_lines.specs.Lines.{lines_of}
use Rattle.api_lines.specs.ReplyTable.{heard}
use Rattle.api_lines.specs.Texts.{read_lines}
use Rattle.api_lines.specs.declared.history_line.LineSaid.{LineSaid}
use Rattle.api_lines.specs.declared.history_line.LineSaid.TheVariants as said
use Rattle.api_lines.specs.declared.reply_table.Heard.{Heard}
use Rattle.api_lines.specs.declared.reply_table.Heard.TheVariants as heard
use Rattle.api_lines.specs.declared.text_fault.TextCause.{TextCause}
use Rattle.api_lines.specs.declared.text_fault.TextCause.TheVariants.{Ended, NoCall, Stranger}
use Rattle.api_lines.specs.declared.text_fault.TextFault.{TextFault}
use Rattle.events.specs.declared.event.Event.{Event}
use Rattle.events.specs.declared.event.Event.TheVariants.{Call, Reply, Lost}
use Rattle.events.specs.declared.fault.HistFault.{HistFault}
use Rattle.events.specs.Events.{is_call, is_ending, place_of}
use Rattle.history.specs.Faults.{cause_of}
use Rattle.events.specs.Refusal.{first_event, refusal_of}

-- ---- the event of a line

-- what is heard of a call, by a status and a body; of any other event the outcome is Unknown
abbrev pub heard_of_call : Event → ℕ → BodyValues → Heard
heard_of_call (Call h n d op) status body = heard op d status body
heard_of_call (Reply n r) status body = heard.Unknown
heard_of_call (Lost n) status body = heard.Unknown

-- The event of what was heard of the call numbered n: its reply; a loss if the outcome is Unknown. A
-- stranger's reply is refused with the cause Stranger.
-- Source: profile.
abbrev pub event_heard : ℕ → Heard → Result Event TextCause
event_heard n (heard.Reply r) = Ok (Reply n r)
event_heard n heard.Unknown = Ok (Lost n)
event_heard n heard.Stranger = Err Stranger

-- The event of a reply line, by the call with its number and by the ending of this call: NoCall if there is
-- no such call, Ended if it has an ending already, otherwise what is heard.
-- Source: profile.
abbrev pub ending_parsed : ℕ → ℕ → BodyValues → Option Event → Option ℕ → Result Event TextCause
ending_parsed n status body None ending = Err NoCall
ending_parsed n status body (Some call) (Some place) = Err Ended
ending_parsed n status body (Some call) None = event_heard n (heard_of_call call status body)

-- the event of what a line says
-- Source: profile.
abbrev pub event_said : List Event → BodyValues → LineSaid → Result Event TextCause
event_said events body (said.Call n h d op) = Ok (Call h n d op)
event_said events body (said.Reply n status) =
    ending_parsed n status body (first_event (is_call n) events) (place_of (is_ending n) events)
event_said events body (said.Lost n) = Ok (Lost n)

-- the event that a line gives after these events, by its fields; or the first cause to refuse it
-- Source: profile.
abbrev pub event_parsed : List Event → LineValues → Result Event TextCause
event_parsed events line = line_parsed line >>= event_said events line.body

-- ---- the whole text

-- the events with one more, if there is no reason against it; otherwise the cause of that reason
-- Source: profile.
abbrev pub with_more : List Event → Event → Option HistFault → Result (List Event) TextCause
with_more events e None = Ok (events ++ e ∷ [])
with_more events e (Some fault) = Err (cause_of fault)

-- the events with one more, if `refusal_of` has no reason against it
-- Source: profile.
abbrev pub adds : List Event → Event → Result (List Event) TextCause
adds events e = with_more events e (refusal_of events e)

-- the events after a line of these fields
-- Source: profile.
abbrev pub takes_line : List Event → LineValues → Result (List Event) TextCause
takes_line events line = event_parsed events line >>= adds events

-- the events after the value of a line
abbrev pub takes_value : List Event → Data → Result (List Event) TextCause
takes_value events v = takes_line events (line_values v)

-- The events of a history text; or the first line that is refused, with its first cause. Lines are numbered
-- from 1, and are read one after another, from no event.
-- Source: profile.
abbrev pub history_text : List ℕ → Result (List Event) TextFault
history_text bytes = read_lines takes_value 1 [] (lines_of bytes)
