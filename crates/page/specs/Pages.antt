-- The bytes of a page.
use Rattle.std.specs.Prelude.{◌≡◌, ◌≢◌, ◌==◌, ℕ, ◌⊎◌, List, [], ◌∷◌, ◌++◌, codes, decimal, flat_map, if◌then◌else◌, string_bytes}
use Rattle.page.specs.declared.piece.Piece.{Piece}
use Rattle.page.specs.declared.piece.Piece.TheVariants.{Fixed, Number, Text}
use Rattle.page.specs.Markups.{markup_bytes}

-- ---- texts

-- a byte of a text as a page has it: the entity `&lt;`, `&gt;`, `&amp;` or `&quot;` for `<`, `>`, `&` or `"`,
-- otherwise the byte itself
-- Source: HTML, character references.
abbrev pub escaped_byte : ℕ → List ℕ
escaped_byte b =
    if b == 60 then codes "&lt;"
    else (if b == 62 then codes "&gt;"
    else (if b == 38 then codes "&amp;"
    else (if b == 34 then codes "&quot;" else b ∷ [])))

-- a text as a page has it
abbrev pub escaped : List ℕ → List ℕ
escaped text = flat_map escaped_byte text

-- what follows an `&` is the rest of one of the four entities, with anything after it
abbrev pub EndsEntity : List ℕ → Type 0
EndsEntity rest =
    (after : List ℕ) × ((rest ≡ codes "lt;" ++ after) ⊎ ((rest ≡ codes "gt;" ++ after) ⊎ ((rest ≡ codes "amp;" ++ after) ⊎ (rest ≡ codes "quot;" ++ after))))

-- no byte is `<`, `>` or `"`, and each `&` begins one of the four entities
abbrev pub IsInert : List ℕ → Type 0
IsInert [] = Unit {0}
IsInert (b ∷ rest) = (b ≢ 60) × (b ≢ 62) × (b ≢ 34) × (b ≡ 38 → EndsEntity rest) × IsInert rest

-- each text, escaped, is inert
abbrev pub EscapedTextsAreInert : Type 0
EscapedTextsAreInert = (text : List ℕ) → IsInert (escaped text)

-- ---- pages

-- markup is written unchanged, a number in decimal digits, and a text escaped
-- Source: profile.
abbrev pub piece_bytes : Piece → List ℕ
piece_bytes (Fixed markup) = markup_bytes markup
piece_bytes (Number n) = decimal n
piece_bytes (Text text) = escaped (string_bytes text)

-- the bytes of the pieces, one after the other
abbrev pub page_bytes : List Piece → List ℕ
page_bytes pieces = flat_map piece_bytes pieces

-- The bytes are those of pieces, one after the other. So whatever of a history comes into a page is a number
-- or an escaped text.
-- Source: profile.
abbrev pub IsPage : List ℕ → Type 0
IsPage bytes = (pieces : List Piece) × (bytes ≡ page_bytes pieces)
