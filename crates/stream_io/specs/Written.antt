-- What a writer holds after an answer.
use Rattle.std.specs.Prelude.{ℕ, List, Option, take}
use Rattle.std.specs.Io.KnownBytes.{Appends}
use Rattle.stream_io.specs.declared.status.Status.{Status}

-- the writer holds, after what it held, a text for which P holds
abbrev pub HasAnswer : (List ℕ → Type 0) → Option (List ℕ) → Option (List ℕ) → Type 0
HasAnswer P old new = (text : List ℕ) × Appends old new text × P text

-- the writer holds, after what it held, a prefix of a text, which may be empty, or the whole text; P holds of
-- the text, with some status
abbrev pub HasPrefix : (Status → List ℕ → Type 0) → Option (List ℕ) → Option (List ℕ) → Type 0
HasPrefix P old new = (status : Status) × (text : List ℕ) × (n : ℕ) × Appends old new (take n text) × P status text
