-- The value of a line that is JSON.
use Rattle.std.proofs.Common.{ℕ, ◌≡◌, List, refl, ap, ◌∙◌, Bool, true, false, Some, None}
use Rattle.std.specs.Prelude.{if◌then◌else◌, IsUtf8}
use Rattle.std.specs.Str.{is_utf8}
use Rattle.std.proofs.lemmas.Str.{IsUtf8-from_is_utf8, is_utf8-from_IsUtf8}
use Rattle.serde_json.specs.Data.{Data}
use Rattle.serde_json.specs.Read.{read}
use Rattle.api_lines.specs.Json.{json_value}
use Rattle.api_lines.specs.aids.JsonLines.{IsJsonLine}

pub json_value_is : (line : List ℕ) (v : Data) → IsJsonLine line v → json_value line ≡ Some v
json_value_is line v json = ap (λ b. if b then read line else None) (is_utf8-from_IsUtf8 line json.0) ∙ json.1

pub is_json_line : (line : List ℕ) (v : Data) → json_value line ≡ Some v → IsJsonLine line v
is_json_line line v value = by_test (is_utf8 line) refl value where
  by_test : (b : Bool) → is_utf8 line ≡ b → (if b then read line else None) ≡ Some v → IsJsonLine line v
  by_test false is found = cc
  by_test true is found = (IsUtf8-from_is_utf8 line is, found)

-- where a text is no JSON of any value, read from what `from_slice` says of it
pub json_value_refused : (line : List ℕ) → (IsUtf8 line → read line ≡ None) → json_value line ≡ None
json_value_refused line refused = by_test (is_utf8 line) refl where
  by_test : (b : Bool) → is_utf8 line ≡ b → (if b then read line else None) ≡ None
  by_test false is = refl
  by_test true is = refused (IsUtf8-from_is_utf8 line is)
