-- Fields of the kind that is required.
use Rattle.std.specs.Prelude.{ℕ, List, Bool, true, false, not, Option, Some, None, Result, Ok, Err}
use Rattle.std.specs.Str.{bytes_eq}
use Rattle.api_lines.specs.Json.{FieldValue, absent, whole, not_whole, text, truth, other}
use Rattle.api_lines.specs.declared.number.Number.{Number}
use Rattle.api_lines.specs.declared.number.Number.TheVariants.{Whole, NotWhole}
use Rattle.api_lines.specs.declared.text_fault.TextCause.{TextCause}
use Rattle.api_lines.specs.declared.text_fault.TextCause.TheVariants.{Shape}

-- the number of a field that may be absent; Shape if it is of another kind
-- Source: profile.
abbrev pub optional_number : FieldValue → Result (Option Number) TextCause
optional_number absent = Ok None
optional_number (whole n) = Ok (Some (Whole n))
optional_number not_whole = Ok (Some NotWhole)
optional_number (text t) = Err Shape
optional_number (truth b) = Err Shape
optional_number other = Err Shape

-- the number of a field that must be present; otherwise Shape
-- Source: profile.
abbrev pub required_number : FieldValue → Result Number TextCause
required_number absent = Err Shape
required_number (whole n) = Ok (Whole n)
required_number not_whole = Ok NotWhole
required_number (text t) = Err Shape
required_number (truth b) = Err Shape
required_number other = Err Shape

-- the text of a field that must be present; otherwise Shape
-- Source: profile.
abbrev pub required_text : FieldValue → Result (List ℕ) TextCause
required_text absent = Err Shape
required_text (whole n) = Err Shape
required_text not_whole = Err Shape
required_text (text t) = Ok t
required_text (truth b) = Err Shape
required_text other = Err Shape

-- the truth value of a field that may be absent; Shape if it is of another kind
-- Source: profile.
abbrev pub optional_truth : FieldValue → Result (Option Bool) TextCause
optional_truth absent = Ok None
optional_truth (whole n) = Err Shape
optional_truth not_whole = Err Shape
optional_truth (text t) = Err Shape
optional_truth (truth b) = Ok (Some b)
optional_truth other = Err Shape

-- the field is this text
abbrev pub is_text : List ℕ → FieldValue → Bool
is_text t absent = false
is_text t (whole n) = false
is_text t not_whole = false
is_text t (text found) = bytes_eq found t
is_text t (truth b) = false
is_text t other = false

-- the field is a text other than this one
abbrev pub is_other_text : List ℕ → FieldValue → Bool
is_other_text t absent = false
is_other_text t (whole n) = false
is_other_text t not_whole = false
is_other_text t (text found) = not (bytes_eq found t)
is_other_text t (truth b) = false
is_other_text t other = false

-- the two truth values are the same
abbrev pub same_truth : Bool → Bool → Bool
same_truth true b = b
same_truth false b = not b

-- the field is this truth value
abbrev pub is_truth : Bool → FieldValue → Bool
is_truth wanted absent = false
is_truth wanted (whole n) = false
is_truth wanted not_whole = false
is_truth wanted (text t) = false
is_truth wanted (truth b) = same_truth wanted b
is_truth wanted other = false
