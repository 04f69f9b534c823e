-- The lines of a text.
use Rattle.std.specs.Prelude.{◌≡◌, ℕ, ◌==◌, ◌⊎◌, Bool, false, not, ◌||◌, List, [], ◌∷◌, ◌++◌, if◌then◌else◌}
use Rattle.std.specs.List.{list_all, list_any}

-- the lines, with b at the beginning of the first
-- Source: profile.
abbrev pub onto_first : ℕ → List (List ℕ) → List (List ℕ)
onto_first b [] = (b ∷ []) ∷ []
onto_first b (line ∷ lines) = (b ∷ line) ∷ lines

-- the lines of a text: each ends at a line feed or at the end of the text; nothing after the last line feed
-- is no line
-- Source: profile.
abbrev pub lines_of : List ℕ → List (List ℕ)
lines_of [] = []
lines_of (b ∷ bytes) = if b == 10 then [] ∷ lines_of bytes else onto_first b (lines_of bytes)

-- one of the bytes is a line feed
abbrev pub has_line_feed : List ℕ → Bool
has_line_feed bytes = list_any (λ b. b == 10) bytes

-- none of the bytes is a line feed
abbrev pub HasNoLineFeed : List ℕ → Type 0
HasNoLineFeed bytes = has_line_feed bytes ≡ false

-- a text of whole lines: it is empty, or ends at a line feed
abbrev pub AreWholeLines : List ℕ → Type 0
AreWholeLines text = (text ≡ []) ⊎ ((front : List ℕ) × (text ≡ front ++ 10 ∷ []))

-- a space, a tab or a carriage return: the byte 32, 9 or 13
-- Source: profile.
abbrev pub is_space : ℕ → Bool
is_space b = (b == 32) || (b == 9) || (b == 13)

-- a line that has only such bytes, or none
-- Source: profile.
abbrev pub is_blank : List ℕ → Bool
is_blank line = list_all is_space line

-- a line that is not blank
-- Source: profile.
abbrev pub is_written : List ℕ → Bool
is_written line = not (is_blank line)

-- the greatest number of lines of a text: 4,194,304
-- Source: profile.
abbrev pub most_lines : ℕ
most_lines = 4194304

-- the greatest number of bytes of a line, without its line feed: 65,536
-- Source: profile.
abbrev pub longest_line : ℕ
longest_line = 65536
