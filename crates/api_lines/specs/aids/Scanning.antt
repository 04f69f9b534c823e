-- The tokens of the bytes that a scanner has left: aids of contracts and lemmas.
use Rattle.std.specs.Prelude.{ℕ, List}
use Rattle.json.specs.Lex.{Place, after_comma, after_value, between, fresh, lex, punctuate}
use Rattle.json.specs.Token.{Token}
use Rattle.api_lines.specs.declared.scanner.CommaState.{CommaState as Stand}
use Rattle.api_lines.specs.declared.scanner.CommaState.TheVariants.{AfterComma, AfterValue, Fresh}
use Rattle.api_lines.specs.declared.scanner.Scanner.{Scanner}

-- the lexer's place
abbrev pub place_of : Stand → Place
place_of Fresh = fresh
place_of AfterComma = after_comma
place_of AfterValue = after_value

-- the tokens of bytes at that place
abbrev pub tokens_at : Place → List ℕ → List Token
tokens_at place bytes = punctuate place (lex between bytes)

abbrev pub tokens_left : Scanner → List Token
tokens_left s = tokens_at (place_of s.place) s.rest.now
