-- Laws of history texts.
use Rattle.std.specs.Prelude.{◌≡◌, ◌<◌, ℕ, List, [], ◌≤◌, Contains, Result, Ok, Err, Some, slice_get, take}
use Rattle.api_lines.specs.Lines.{lines_of}
use Rattle.api_lines.specs.Texts.{ReadsLineByLine}
use Rattle.api_lines.specs.declared.text_fault.TextFault.{TextFault}
use Rattle.events.specs.Events.{IsPending}
use Rattle.events.specs.Refusal.{most_events}
use Rattle.events.specs.declared.event.Event.{Event}
use Rattle.events.specs.declared.event.Event.TheVariants.{Lost}
use Rattle.history.specs.ByRules.{history_text_by, room_taken, start_by, strict_rules, takes_value_by}
use Rattle.history.specs.Reading.{history_text, takes_value}
use Rattle.history.specs.Text.{IsHistoryText}
use Rattle.history.specs.declared.text_read.TextRead.{TextRead}
use Rattle.history.specs.declared.text_rules.TextRules.{TextRules}

-- a text is the text of one history at most
-- Source: profile.
abbrev pub TextOfOneHistory : Type 0
TextOfOneHistory = (bytes : List ℕ) (events others : List Event) → IsHistoryText bytes events
    → IsHistoryText bytes others → events ≡ others

-- The line reported is the first at which the text is not a history text: the text of the lines before it is
-- a text of some history, and with this line, and with any lines after it, it is a text of none.
-- Source: profile.
pub record IsFirstRefused (bytes : List ℕ) (reported : TextFault) : Type 0 where
  -- the line is numbered from 1
  pub line_from_one : 1 ≤ reported.line
  -- for n below this number the text of the first n lines is a history text
  pub before : (front : List ℕ) (n : ℕ) → lines_of front ≡ take n (lines_of bytes) → n < reported.line
      → (events : List Event) × IsHistoryText front events
  -- for n from this number on it is none
  pub with_it : (front : List ℕ) (n : ℕ) → lines_of front ≡ take n (lines_of bytes) → reported.line ≤ n
      → (events : List Event) → ¬ IsHistoryText front events

-- The two definitions of a text agree: a text is read as the history that it is a text of, and as no other;
-- and if it is refused, the line reported is the first at which it is not a history text.
-- Source: profile.
pub record TextsAreRead : Type 0 where
  -- bytes that are read as events are a history text of them
  pub read : (bytes : List ℕ) (events : List Event) → history_text bytes ≡ Ok events → IsHistoryText bytes events
  -- each history text is read so
  pub is_read : (bytes : List ℕ) (events : List Event) → IsHistoryText bytes events → history_text bytes ≡ Ok events
  -- if bytes are refused, the line reported is the first at which they are not a history text
  pub refused : (bytes : List ℕ) (reported : TextFault) → history_text bytes ≡ Err reported → IsFirstRefused bytes reported

-- Histories are read line by line (`ReadsLineByLine`), from no event: a reader that takes one line more gives
-- what is read of the text with that line.
-- Source: profile.
abbrev pub HistoriesLineByLine : Type 0
HistoriesLineByLine = ReadsLineByLine takes_value []

-- ---- texts that are read by rules

-- what is read by the strict rules: the events, and no number of a lost call
abbrev pub without_voids : Result (List Event) TextFault → Result TextRead TextFault
without_voids (Ok events) = Ok (record { history = events; voids = [] })
without_voids (Err reported) = Err reported

-- the call numbered n is lost: it's there, has no reply, and its ending is that its outcome is lost
pub record IsLostCall (events : List Event) (n : ℕ) : Type 0 where
  -- it's there, and has no reply
  pub pending : IsPending events n
  -- its ending
  pub lost : (i : ℕ) × (slice_get events i ≡ Some (Lost n))

-- these are numbers of lost calls
abbrev pub AreLost : List Event → List ℕ → Type 0
AreLost events numbers = (n : ℕ) → Contains numbers n → IsLostCall events n

-- What the rules leave as it is. By the strict rules a text is read as `history_text` reads it.
-- Source: profile.
pub record TextsAreReadByRules : Type 0 where
  -- by the strict rules the events, or the refused line, are those of `history_text`, and there is no number
  pub strict : (bytes : List ℕ) → history_text_by strict_rules bytes ≡ without_voids (history_text bytes)
  -- by any rules the text is a history text of the events
  pub read : (rules : TextRules) (bytes : List ℕ) (read : TextRead) → history_text_by rules bytes ≡ Ok read → IsHistoryText bytes read.history
  -- the numbers are of lost calls of these events
  pub voids : (rules : TextRules) (bytes : List ℕ) (read : TextRead) → history_text_by rules bytes ≡ Ok read → AreLost read.history read.voids
  -- the events take the room of 1,048,576 at most
  pub room : (rules : TextRules) (bytes : List ℕ) (read : TextRead) → history_text_by rules bytes ≡ Ok read → room_taken rules.writes read.history ≤ most_events

-- Texts are read line by line by any rules too, from no event.
-- Source: profile.
abbrev pub ReadLineByLineByRules : Type 0
ReadLineByLineByRules = (rules : TextRules) → ReadsLineByLine takes_value_by (start_by rules)
