-- The lines of a reader, whose bytes are known or not.
use Rattle.std.specs.Prelude.{ℕ, ◌≡◌, ◌+◌, ◌*◌, ◌<◌, ◌≤◌, ◌++◌, ◌∷◌, [], ◌⊎◌, List, Option, Some, None, OnSome, Result, IfErr, length}
use Rattle.std.specs.Io.KnownBytes.{Consumes, IsAtEnd, Keeps}
use Rattle.api_lines.specs.Lines.{AreWholeLines, HasNoLineFeed, lines_of, longest_line, most_lines}
use Rattle.api_lines.specs.declared.line_input.Part.{Part}
use Rattle.api_lines.specs.declared.line_input.Part.TheVariants.{More, Last, End}
use Rattle.api_lines.specs.declared.text_fault.TextFault.{TextFault}

-- the greatest number of bytes that are held of a line, 65,537: one more than it may have
-- Source: profile.
abbrev pub most_held : ℕ
most_held = 65537

-- the greatest number of bytes that one read brings: 32,768
-- Source: profile.
abbrev pub most_brought : ℕ
most_brought = 32768

-- What one look at the bytes at hand adds to a line: some bytes of it; its last ones and the line feed, so
-- that it has at most 65,536; nothing, at the end of all bytes.
abbrev pub IsPart : Part → Option (List ℕ) → Option (List ℕ) → List ℕ → List ℕ → Type 0
IsPart More old new before after =
    (bytes : List ℕ) × (after ≡ before ++ bytes) × HasNoLineFeed bytes × (0 < length bytes) × Consumes old new bytes
IsPart Last old new before after =
    (bytes : List ℕ) × (after ≡ before ++ bytes) × HasNoLineFeed bytes × (length after ≤ longest_line) × Consumes old new (bytes ++ 10 ∷ [])
IsPart End old new before after = (after ≡ before) × IsAtEnd old × Keeps old new

-- A line was taken: with its line feed, and at most 65,536 bytes; the last one, without; or a prefix of one
-- that is too long.
abbrev pub EndsLine : Option (List ℕ) → Option (List ℕ) → List ℕ → Type 0
EndsLine old new line =
    (Consumes old new (line ++ 10 ∷ []) × (length line ≤ longest_line))
    ⊎ (Consumes old new line × ((OnSome old (IsAtEnd new) × (0 < length line)) ⊎ (longest_line < length line)))

-- bytes of one line: without a line feed, or with the one that ends it
abbrev pub AreOfOneLine : List ℕ → Type 0
AreOfOneLine bytes = HasNoLineFeed bytes ⊎ ((line : List ℕ) × (bytes ≡ line ++ 10 ∷ []) × HasNoLineFeed line)

-- This much of a text was taken, and the rest is left: the lines before the one with this number; of that
-- line its first bytes, at most 65,537 and its line feed among these; and after them what the last read
-- brought, at most 32,768 bytes. The lines before are at most 4,194,304; if they are that many, nothing comes
-- after them but what the last read brought.
-- Source: profile.
pub record IsTakenUpTo (number : ℕ) (text rest : List ℕ) : Type 0 where
  -- the lines before the one with this number
  pub before : List ℕ
  -- the first bytes of that line
  pub line : List ℕ
  -- what the last read brought after them
  pub brought : List ℕ
  -- the text is these three and the rest
  pub split : text ≡ before ++ (line ++ (brought ++ rest))
  -- the lines before are whole
  pub whole : AreWholeLines before
  -- the lines before are one fewer than the number
  pub count : length (lines_of before) + 1 ≡ number
  -- the first bytes are of one line, or that line with its line feed
  pub of_line : AreOfOneLine line
  -- the first bytes are at most 65,537
  pub short : length line ≤ most_held
  -- the lines before and the first bytes have at most 4,194,304 times 65,537 bytes
  pub few : length before + length line ≤ most_lines * most_held
  -- the number is at most 4,194,305
  pub few_lines : number ≤ most_lines + 1
  -- if it is 4,194,305, no first bytes were taken
  pub none_past : number ≡ most_lines + 1 → line ≡ []
  -- what the last read brought is at most 32,768 bytes
  pub brought_at_once : length brought ≤ most_brought

-- What was taken for a text that is read in this way, if its bytes are known: no line after the first that is
-- refused, and nothing after that one but what the last read brought. Of unknown bytes this says nothing.
-- Source: profile.
abbrev pub IsTakenFor : {S : Type 0} → (List ℕ → Result S TextFault) → Option (List ℕ) → Option (List ℕ) → Type 0
IsTakenFor reads None new = Unit {0}
IsTakenFor reads (Some text) None = ⊥
IsTakenFor reads (Some text) (Some rest) =
    (number : ℕ) × IsTakenUpTo number text rest × IfErr (reads text) (λ reported. number ≤ reported.line)
