-- Texts whose bytes stand for themselves: aids of contracts and lemmas.
use Rattle.std.specs.Prelude.{◌≡◌, ℕ, ◌∷◌, List, [], Bool, false, true, ◌==◌, ◌||◌, nat_le, nat_lt}
use Rattle.json.specs.Lex.{begins_colon, between, lex}
use Rattle.json.specs.Word.{ends_word}

-- a byte that may end a plain text: a quote, one that a text doesn't hold as it is, or one outside ASCII
abbrev pub is_stop : ℕ → Bool
is_stop b = (b == 34) || (b == 92) || nat_lt b 32 || nat_le 128 b

-- a comma or a closing bracket is next
abbrev pub is_ended : List ℕ → Bool
is_ended [] = false
is_ended (b ∷ bytes) = (b == 44) || (b == 125) || (b == 93)

-- a text, a number or a literal may have ended before these bytes
pub record EndsValue (bytes : List ℕ) : Type 0 where
  pub word : ends_word bytes ≡ true
  pub no_colon : begins_colon (lex between bytes) ≡ false
