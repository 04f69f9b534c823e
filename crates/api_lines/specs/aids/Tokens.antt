-- The values that tokens spell, as a reader takes them: aids of contracts and lemmas.
use Rattle.std.specs.Prelude.{◌≡◌, ℕ, List, Some, length}
use Rattle.json.specs.Json.{items, members, value}
use Rattle.json.specs.Token.{Token}
use Rattle.serde_json.specs.Data.{Data, Items, Members, no_members}
use Rattle.serde_json.specs.Read.{converted, of_items, of_json, of_members}

-- the first value of the tokens, nested no deeper than this, and the tokens after it
abbrev pub BeginsWithValue : ℕ → List Token → Data → List Token → Type 0
BeginsWithValue depth tokens v rest = converted of_json (value depth tokens) ≡ Some (v, rest)

-- the items up to the bracket that closes their array, and the tokens after it
abbrev pub BeginsWithItems : ℕ → List Token → Items → List Token → Type 0
BeginsWithItems depth tokens vs rest = converted of_items (items (value depth) (length tokens) tokens) ≡ Some (vs, rest)

-- the members up to the brace that closes their object, and the tokens after it
abbrev pub BeginsWithMembers : ℕ → List Token → Members → List Token → Type 0
BeginsWithMembers depth tokens ms rest = converted (λ m. of_members m no_members) (members (value depth) (length tokens) tokens) ≡ Some (ms, rest)
