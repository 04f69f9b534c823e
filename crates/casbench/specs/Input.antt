-- Which text is standard input.
use Rattle.std.specs.Prelude.{ℕ, Bool, true, List, Option, None, Some, codes, unwrap_or}
use Rattle.std.specs.Str.{bytes_eq}

-- true if the text is standard input: if no file is named, or `-`
-- Source: profile.
abbrev pub names_input : Option (List ℕ) → Bool
names_input None = true
names_input (Some name) = bytes_eq name (codes "-")

-- the name of a text: that of its file, `-` if none is named
-- Source: profile.
abbrev pub name_of : Option (List ℕ) → List ℕ
name_of file = unwrap_or file (codes "-")
