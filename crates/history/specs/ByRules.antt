-- How a history text is read by rules: what its lost lines may say, and how much room its events take. By the
-- strict rules a text is read as by `history_text` (the law `TextsAreReadByRules`).
use Rattle.std.specs.Prelude.{ℕ, List, [], ◌∷◌, ◌++◌, Bool, true, false, Result, Ok, Err, if◌then◌else◌, is_none, nat_le, sum_by, unwrap_or}
use Rattle.doc_register.specs.declared.op.Op.{Op}
use Rattle.doc_register.specs.declared.op.Op.TheVariants.{Get, Index, Delete, Create}
use Rattle.serde_json.specs.Data.{Data}
use Rattle.api_lines.specs.Faults.{◌>>=◌}
use Rattle.api_lines.specs.Fields.{LineValues, line_values}
use Rattle.api_lines.specs.HistoryLines.{line_parsed, void_parsed}
use Rattle.api_lines.specs.Lines.{lines_of}
use Rattle.api_lines.specs.Texts.{read_lines}
use Rattle.api_lines.specs.declared.history_line.LineSaid.{LineSaid}
use Rattle.api_lines.specs.declared.history_line.LineSaid.TheVariants as said
use Rattle.api_lines.specs.declared.text_fault.TextCause.{TextCause}
use Rattle.api_lines.specs.declared.text_fault.TextCause.TheVariants.{Full}
use Rattle.api_lines.specs.declared.text_fault.TextFault.{TextFault}
use Rattle.events.specs.declared.event.Event.{Event}
use Rattle.events.specs.declared.event.Event.TheVariants.{Call, Reply, Lost}
use Rattle.events.specs.Refusal.{most_events}
use Rattle.history.specs.Reading.{adds, event_said}
use Rattle.history.specs.declared.text_read.TextRead.{TextRead}
use Rattle.history.specs.declared.text_rules.Failed.{Failed}
use Rattle.history.specs.declared.text_rules.Failed.TheVariants as failed
use Rattle.history.specs.declared.text_rules.TextRules.{TextRules}
use Rattle.history.specs.declared.text_rules.Writes.{Writes}
use Rattle.history.specs.declared.text_rules.Writes.TheVariants.{Once, Repeated}

-- the strict rules: a lost line says nothing more, and a write is performed once at most
abbrev pub strict_rules : TextRules
strict_rules = record { failed = failed.Lost; writes = Once }

-- ---- lost lines that say that nothing was performed

-- Whether a line says that nothing was performed, if that is heeded; Shape if its field `void` is of another kind.
-- If it isn't heeded the field doesn't count, whatever it holds.
-- Source: profile.
abbrev pub void_heeded : Failed → LineValues → Result Bool TextCause
void_heeded failed.Lost line = Ok false
void_heeded failed.Trusted line = do
  said ← void_parsed line
  Ok (unwrap_or said false)

-- the number of the call of which a line says so; none if it says nothing of the kind
abbrev pub number_voided : Bool → LineSaid → List ℕ
number_voided false s = []
number_voided true (said.Call n h d op) = []
number_voided true (said.Reply n status) = []
number_voided true (said.Lost n) = n ∷ []

-- ---- room

-- the operation is a write without a condition, which a store may perform again
-- Source: OpenSearch.
abbrev pub is_repeatable : Op → Bool
is_repeatable Get = false
is_repeatable (Index k condition) = is_none condition
is_repeatable (Delete condition) = is_none condition
is_repeatable (Create k) = true

-- the room of a call: two if its write may be performed a second time, otherwise one
abbrev pub room_of_call : Writes → Op → ℕ
room_of_call Once op = 1
room_of_call Repeated op = if is_repeatable op then 2 else 1

-- the room that an event takes
-- Source: profile.
abbrev pub room_of : Writes → Event → ℕ
room_of w (Call h n d op) = room_of_call w op
room_of w (Reply n r) = 1
room_of w (Lost n) = 1

-- the room that the events take together
abbrev pub room_taken : Writes → List Event → ℕ
room_taken w events = sum_by (room_of w) events

-- the events, if they take 1,048,576 at most; otherwise Full
-- Source: profile.
abbrev pub in_room : Writes → List Event → Result (List Event) TextCause
in_room w events = if nat_le (room_taken w events) most_events then Ok events else Err Full

-- ---- the whole text

-- the rules by which a text is read, and what was read so far
pub record TextState : Type 0 where
  -- the rules
  pub rules : TextRules
  -- the events so far, and the numbers of the calls of which it was said that nothing was performed
  pub read : TextRead

-- the state with these events, and with these numbers after those that it has
abbrev pub with_line : TextState → List Event → List ℕ → TextState
with_line s events numbers =
    record { rules = s.rules; read = record { history = events; voids = s.read.voids ++ numbers } }

-- The state after a line of these fields; or the first cause to refuse it. A field `void` of another kind is Shape
-- as other fields are, so it comes before what the values of the line are refused for; and that there is no
-- room comes last.
-- Source: profile.
abbrev pub takes_line_by : TextState → LineValues → Result TextState TextCause
takes_line_by s line = do
  void ← void_heeded s.rules.failed line
  l ← line_parsed line
  e ← event_said s.read.history line.body l
  more ← adds s.read.history e
  events ← in_room s.rules.writes more
  Ok (with_line s events (number_voided void l))

-- the state after the value of a line
abbrev pub takes_value_by : TextState → Data → Result TextState TextCause
takes_value_by s v = takes_line_by s (line_values v)

-- nothing was read yet, and is to be read by these rules
abbrev pub start_by : TextRules → TextState
start_by rules = record { rules = rules; read = record { history = []; voids = [] } }

-- what was read, without the rules
abbrev pub read_of : Result TextState TextFault → Result TextRead TextFault
read_of (Ok s) = Ok s.read
read_of (Err reported) = Err reported

-- The events of a text that is read by these rules, and the numbers of the lost calls of which it says that
-- nothing was performed, in the order of their lines; or the first line that is refused, with its first cause.
-- Source: profile.
abbrev pub history_text_by : TextRules → List ℕ → Result TextRead TextFault
history_text_by rules bytes = read_of (read_lines takes_value_by 1 (start_by rules) (lines_of bytes))
