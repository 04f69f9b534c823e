-- How a text is read line by line: what each line gives, and the first line that is refused with its first
-- cause.
use Rattle.std.specs.Prelude.{◌≡◌, ℕ, suc, ◌+◌, ◌<◌, List, [], ◌∷◌, ◌++◌, Option, Some, None, Result, Ok, Err, length, nat_lt, if◌then◌else◌}
use Rattle.serde_json.specs.Data.{Data}
use Rattle.api_lines.specs.Faults.{◌>>=◌}
use Rattle.api_lines.specs.Json.{json_value}
use Rattle.api_lines.specs.Lines.{AreWholeLines, HasNoLineFeed, is_blank, lines_of, longest_line, most_lines}
use Rattle.api_lines.specs.declared.text_fault.TextCause.{TextCause}
use Rattle.api_lines.specs.declared.text_fault.TextCause.TheVariants.{Json, Lines, Long}
use Rattle.api_lines.specs.declared.text_fault.TextFault.{TextFault}

-- the value of a line; Json if it has none
-- Source: profile.
abbrev pub value_given : Option Data → Result (Option Data) TextCause
value_given None = Err Json
value_given (Some v) = Ok (Some v)

-- What the line with this number gives: nothing if it is blank, otherwise its value. Causes in their order:
-- Lines if the number is above 4,194,304, Long if it has more than 65,536 bytes, Json if it is not JSON.
-- Source: profile.
abbrev pub line_given : ℕ → List ℕ → Result (Option Data) TextCause
line_given number line =
    if nat_lt most_lines number then Err Lines
    else (if nat_lt longest_line (length line) then Err Long
    else (if is_blank line then Ok None
    else value_given (json_value line)))

-- the state after what a line gives: a blank line leaves it as it was
abbrev pub taken : {S : Type 0} → (S → Data → Result S TextCause) → S → Option Data → Result S TextCause
taken takes s None = Ok s
taken takes s (Some v) = takes s v

-- the state after one line
-- Source: profile.
abbrev pub read_line : {S : Type 0} → (S → Data → Result S TextCause) → ℕ → S → List ℕ → Result S TextCause
read_line takes number s line = line_given number line >>= taken takes s

-- what follows the line with this number, or the line with its cause
-- Source: profile.
abbrev pub read_on : {S : Type 0} → ℕ → Result S TextCause → (S → Result S TextFault) → Result S TextFault
read_on number (Ok s) next = next s
read_on number (Err cause) next = Err (record { line = number; cause = cause })

-- The state after the lines, if the first of them has this number; or the first line that is refused, with
-- its first cause. Both kinds of text are read so, each with its own `takes`.
-- Source: profile.
abbrev pub read_lines : {S : Type 0} → (S → Data → Result S TextCause) → ℕ → S → List (List ℕ) → Result S TextFault
read_lines takes number s [] = Ok s
read_lines takes number s (line ∷ lines) =
    read_on number (read_line takes number s line) (λ t. read_lines takes (suc number) t lines)

-- ---- one more line

-- the state after some lines of a text, and the number of these lines
pub record SoFar (S : Type 0) : Type 0 where
  -- the state after the lines
  pub state : S
  -- the number of these lines
  pub lines : ℕ

-- this state, after this many lines
abbrev pub so_far : {S : Type 0} → S → ℕ → SoFar S
so_far s n = record { state = s; lines = n }

-- the state after the line with this number, or that line with its cause
abbrev pub after_line : {S : Type 0} → ℕ → Result S TextCause → Result (SoFar S) TextFault
after_line number (Ok s) = Ok (so_far s number)
after_line number (Err cause) = Err (record { line = number; cause = cause })

-- What a reader's next line gives, whose number is the next one: the state after it; or that line with its
-- first cause.
-- Source: profile.
abbrev pub next_line : {S : Type 0} → (S → Data → Result S TextCause) → SoFar S → List ℕ → Result (SoFar S) TextFault
next_line takes r line = after_line (r.lines + 1) (read_line takes (r.lines + 1) r.state line)

-- the state alone
abbrev pub state_of : {S : Type 0} → Result (SoFar S) TextFault → Result S TextFault
state_of (Ok r) = Ok r.state
state_of (Err reported) = Err reported

-- the text has that many whole lines, and they are read to this state
pub record IsReadTo {S : Type 0} (takes : S → Data → Result S TextCause) (start : S) (text : List ℕ) (r : SoFar S) : Type 0 where
  -- the text is of whole lines
  pub whole : AreWholeLines text
  -- it has as many lines as `r` counts
  pub count : length (lines_of text) ≡ r.lines
  -- they are read to the state of `r`
  pub read : read_lines takes 1 start (lines_of text) ≡ Ok r.state

-- A text can be read line by line. The result of the next line after the lines before it is that of reading
-- the text with it, ended by a line feed or by the end of the text. A text with a line that is refused is
-- refused in the same way, whatever follows; and with a line that is too long, however that line continues.
-- In all of this the line has no line feed in it.
-- Source: profile.
pub record ReadsLineByLine {S : Type 0} (takes : S → Data → Result S TextCause) (start : S) : Type 0 where
  -- the empty text is read to the start, as no line
  pub none : IsReadTo takes start [] (so_far start 0)
  -- with a line that is taken, ended by a line feed, the text is read to what `next_line` gives
  pub more : (text line : List ℕ) (r q : SoFar S) → IsReadTo takes start text r → HasNoLineFeed line → next_line takes r line ≡ Ok q
      → IsReadTo takes start (text ++ (line ++ 10 ∷ [])) q
  -- the text with the line, ended by a line feed, is read as `next_line` says
  pub ended : (text line : List ℕ) (r : SoFar S) → IsReadTo takes start text r → HasNoLineFeed line
      → read_lines takes 1 start (lines_of (text ++ (line ++ 10 ∷ []))) ≡ state_of (next_line takes r line)
  -- the text with a line that is not empty, ended by the end of the text, is read in the same way
  pub last : (text line : List ℕ) (r : SoFar S) → IsReadTo takes start text r → HasNoLineFeed line → 0 < length line
      → read_lines takes 1 start (lines_of (text ++ line)) ≡ state_of (next_line takes r line)
  -- if the line is refused, the text is refused in this way, whatever follows
  pub refused : (text line rest : List ℕ) (r : SoFar S) (reported : TextFault) → IsReadTo takes start text r → HasNoLineFeed line
      → next_line takes r line ≡ Err reported → read_lines takes 1 start (lines_of (text ++ (line ++ 10 ∷ rest))) ≡ Err reported
  -- a line of more than 65,536 bytes is refused, and so is each text in which it continues
  pub too_long : (text line : List ℕ) (r : SoFar S) → IsReadTo takes start text r → HasNoLineFeed line → longest_line < length line
      → (reported : TextFault) × (next_line takes r line ≡ Err reported)
      × ((rest : List ℕ) → read_lines takes 1 start (lines_of (text ++ (line ++ rest))) ≡ Err reported)
