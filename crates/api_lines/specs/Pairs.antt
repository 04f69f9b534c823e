-- The pair of two numbers.
use Rattle.std.specs.Prelude.{◌≡◌, ℕ, ◌^◌, Bool, true, false, nat_le, nat_lt, Option, Some, None, Result, Ok, Err, refl}
use Rattle.std.proofs.lemmas.Bool.{leb-true, ltb-true}
use Rattle.version_pair.specs.declared.pair.Pair.{Pair}
use Rattle.api_lines.specs.declared.number.Number.{Number}
use Rattle.api_lines.specs.declared.number.Number.TheVariants.{Whole, NotWhole}
use Rattle.api_lines.specs.declared.text_fault.TextCause.{TextCause}
use Rattle.api_lines.specs.declared.text_fault.TextCause.TheVariants.{Half, Range}

-- the pair, if the three tests of its ranges are true; the pair keeps their truth
abbrev pub tested_pair : (term seq : ℕ) (from_one fits seq_fits : Bool) → nat_le 1 term ≡ from_one → nat_lt term (2 ^ 63) ≡ fits
    → nat_lt seq (2 ^ 63) ≡ seq_fits → Option Pair
tested_pair term seq true true true a b c =
    Some (record { term = term; seq = seq; term_from_one = leb-true 1 term a; term_fits = ltb-true term (2 ^ 63) b; seq_fits = ltb-true seq (2 ^ 63) c })
tested_pair term seq true true false a b c = None
tested_pair term seq true false t a b c = None
tested_pair term seq false s t a b c = None

-- the pair of a term, 1 to 2^63-1, and a sequence number below 2^63; none if one of them is outside its range
unfoldable pub pair_of : ℕ → ℕ → Option Pair
pair_of term seq = tested_pair term seq (nat_le 1 term) (nat_lt term (2 ^ 63)) (nat_lt seq (2 ^ 63)) refl refl refl

-- the whole number; Range if it is not whole
-- Source: profile.
abbrev pub whole_parsed : Number → Result ℕ TextCause
whole_parsed (Whole n) = Ok n
whole_parsed NotWhole = Err Range

-- the pair of two numbers that are both present; Range if there is none, because a number is outside its
-- range
-- Source: profile.
abbrev pub in_range : Option Pair → Result (Option Pair) TextCause
in_range None = Err Range
in_range (Some p) = Ok (Some p)

-- the pair of a sequence number and a term: none if both are absent, Half if one is, and Range if one is not
-- whole or outside its range
-- Source: profile.
abbrev pub pair_parsed : Option Number → Option Number → Result (Option Pair) TextCause
pair_parsed None None = Ok None
pair_parsed None (Some term) = Err Half
pair_parsed (Some seq) None = Err Half
pair_parsed (Some NotWhole) (Some term) = Err Range
pair_parsed (Some (Whole s)) (Some NotWhole) = Err Range
pair_parsed (Some (Whole s)) (Some (Whole t)) = in_range (pair_of t s)
