-- The tokens of bytes that are read one thing at a time: a bracket, a comma, a key, a text, a number, a word.
use Rattle.std.proofs.Common.{◌≡◌, ◌<◌, ◌≤◌, ◌+◌, ◌^◌, ℕ, List, [], ◌∷◌, ◌++◌, Bool, true, false, not, length, get_or, take, drop, refl, sym, ap, ap₂, subst, ◌∙◌, arith, add-one, drop-cons, length-take, cond}
use Rattle.std.specs.Prelude.{IsUtf8, nat_lt, ◌==◌, ◌||◌}
use Rattle.std.specs.List.{list_all}
use Rattle.std.specs.Str.{bytes_eq}
use Rattle.std.specs.Str.Parse.{AllDigits, digits_value}
use Rattle.std.proofs.lemmas.Bool.{and_parts, eqb-false, eqb-true, leb-false, lt-ltb, ltb-false, not-true, or_parts}
use Rattle.std.proofs.lemmas.Fmt.{decimal-digits_value}
use Rattle.std.proofs.lemmas.List.{take-append-drop}
use Rattle.std.proofs.lemmas.Slice.Eq.{bytes_eq-Decides}
use Rattle.std.proofs.lemmas.Str.Parse.{digits_value_short, numerals_by_value, tells_digits}
use Rattle.json.specs.Lex.{Lexeme, Place, after_comma, after_key, after_value, begins_colon, between, fresh, lex, may_begin, may_close, punctuate, string_token}
use Rattle.json.specs.Print.{IsNumber, escape}
use Rattle.json.specs.Token.{bad, begin_array, begin_object, boolean, end_array, end_object, key, null, number, string}
use Rattle.json.specs.Word.{ends_word, word}
use Rattle.json.proofs.Printed.Decimals.{IsNumber-decimal}
use Rattle.json.proofs.Printed.Numbers.{in_word-ended, lex-number}
use Rattle.json.proofs.Printed.Strings.{content-escape, escape_byte_plain, lex-escape}
use Rattle.json.proofs.Printed.Utf8.{IsUtf8-are_ascii, are_ascii}
use Rattle.api_lines.specs.Lines.{is_space}
use Rattle.api_lines.specs.aids.PlainTexts.{EndsValue, is_ended, is_stop}
use Rattle.api_lines.specs.aids.Scanning.{tokens_at}

-- ---- plain texts

abbrev pub is_plain : ℕ → Bool
is_plain b = not (is_stop b)

record IsPlainByte (b : ℕ) : Type 0 where
  no_quote : b ≡ 34 → ⊥
  no_backslash : b ≡ 92 → ⊥
  no_control : 32 ≤ b
  is_ascii : nat_lt b 128 ≡ true

plain_byte : (b : ℕ) → is_plain b ≡ true → IsPlainByte b
plain_byte b h =
    let high = or_parts _ _ (not-true (is_stop b) h) in
    let control = or_parts _ _ high.0 in
    let quote = or_parts (b == 34) _ control.0 in
    let small : b < 128 = leb-false 128 b high.1 in
    record { no_quote = eqb-false b 34 quote.0; no_backslash = eqb-false b 92 quote.1; no_control = ltb-false b 32 control.1; is_ascii = lt-ltb b 128 small }

escape-plain : (s : List ℕ) → list_all is_plain s ≡ true → escape s ≡ s
escape-plain [] h = refl
escape-plain (b ∷ s) h =
    let both = and_parts _ _ h in
    let one = plain_byte b both.0 in
    ap₂ (λ xs ys. xs ++ ys) (escape_byte_plain b one.no_quote one.no_backslash one.no_control) (escape-plain s both.1)

ascii-plain : (s : List ℕ) → list_all is_plain s ≡ true → are_ascii s ≡ true
ascii-plain [] h = refl
ascii-plain (b ∷ s) h = let both = and_parts _ _ h in rw ((plain_byte b both.0).is_ascii, ascii-plain s both.1) refl

pub IsUtf8-plain : (s : List ℕ) → list_all is_plain s ≡ true → IsUtf8 s
IsUtf8-plain s h = IsUtf8-are_ascii s (ascii-plain s h)

-- ---- what stands behind a text

pub split_at : (xs : List ℕ) (i : ℕ) → i < length xs → xs ≡ take i xs ++ get_or xs i 0 ∷ drop (i + 1) xs
split_at xs i h = sym (take-append-drop i xs) ∙ ap (λ l. take i xs ++ l) (rw (add-one, drop-cons xs i 0) refl)

-- what is left after a word
pub stripped : (word s rest : List ℕ) → bytes_eq (take (length word) s) word ≡ true → rest ≡ drop (length word) s → s ≡ word ++ rest
stripped word s rest same is = sym (take-append-drop (length word) s) ∙ ap₂ (λ a b. a ++ b) ((bytes_eq-Decides (take (length word) s) word).0 same) (sym is)

-- ---- brackets and commas

pub object_opened : (p : Place) (r : List ℕ) → may_begin p ≡ true → tokens_at p (123 ∷ r) ≡ begin_object ∷ tokens_at fresh r
unfolding lex punctuate
object_opened fresh r h = refl
object_opened after_value r h = absurd (cc)
object_opened after_comma r h = refl
object_opened after_key r h = absurd (cc)

pub array_opened : (p : Place) (r : List ℕ) → may_begin p ≡ true → tokens_at p (91 ∷ r) ≡ begin_array ∷ tokens_at fresh r
unfolding lex punctuate
array_opened fresh r h = refl
array_opened after_value r h = absurd (cc)
array_opened after_comma r h = refl
array_opened after_key r h = absurd (cc)

pub object_closed : (p : Place) (r : List ℕ) → may_close p ≡ true → tokens_at p (125 ∷ r) ≡ end_object ∷ tokens_at after_value r
unfolding lex punctuate
object_closed fresh r h = refl
object_closed after_value r h = refl
object_closed after_comma r h = absurd (cc)
object_closed after_key r h = absurd (cc)

pub array_closed : (p : Place) (r : List ℕ) → may_close p ≡ true → tokens_at p (93 ∷ r) ≡ end_array ∷ tokens_at after_value r
unfolding lex punctuate
array_closed fresh r h = refl
array_closed after_value r h = refl
array_closed after_comma r h = absurd (cc)
array_closed after_key r h = absurd (cc)

pub comma_passed : (r : List ℕ) → tokens_at after_value (44 ∷ r) ≡ tokens_at after_comma r
unfolding lex punctuate
comma_passed r = refl

pub no_bytes : (bytes : List ℕ) → length bytes ≡ 0 → bytes ≡ []
no_bytes [] none = refl
no_bytes (b ∷ bytes) none = absurd (omega arith)

pub none_left : (p : Place) → may_close p ≡ true → tokens_at p [] ≡ []
unfolding lex punctuate
none_left fresh h = refl
none_left after_value h = refl
none_left after_comma h = absurd (cc)
none_left after_key h = absurd (cc)

-- ---- where a value ends

ended_by : (P : List ℕ → Type 0) → ((bs : List ℕ) → P (44 ∷ bs)) → ((bs : List ℕ) → P (125 ∷ bs)) → ((bs : List ℕ) → P (93 ∷ bs)) → (r : List ℕ) → is_ended r ≡ true → P r
ended_by P comma brace bracket [] h = absurd (cc)
ended_by P comma brace bracket (b ∷ bs) h = by_comma (b == 44) refl (b == 125) refl (b == 93) refl h where
  by_comma : (x : Bool) → (b == 44) ≡ x → (y : Bool) → (b == 125) ≡ y → (z : Bool) → (b == 93) ≡ z → x || y || z ≡ true → P (b ∷ bs)
  by_comma true is y ys z zs h = subst (λ c. P (c ∷ bs)) (sym (eqb-true b 44 is)) (comma bs)
  by_comma false is true ys z zs h = subst (λ c. P (c ∷ bs)) (sym (eqb-true b 125 ys)) (brace bs)
  by_comma false is false ys true zs h = subst (λ c. P (c ∷ bs)) (sym (eqb-true b 93 zs)) (bracket bs)
  by_comma false is false ys false zs h = absurd (cc)

pub word_ended : (r : List ℕ) → is_ended r ≡ true → ends_word r ≡ true
word_ended = ended_by (λ r. ends_word r ≡ true) (λ bs. refl) (λ bs. refl) (λ bs. refl)

pub no_colon_next : (r : List ℕ) → is_ended r ≡ true → begins_colon (lex between r) ≡ false
unfolding lex
no_colon_next = ended_by (λ r. begins_colon (lex between r) ≡ false) (λ bs. refl) (λ bs. refl) (λ bs. refl)

-- ---- spaces

pub space_passed : (b : ℕ) (r : List ℕ) → is_space b ≡ true → lex between (b ∷ r) ≡ lex between r
unfolding lex
space_passed b r h = by_space (b == 32) refl (b == 9) refl (b == 13) refl h where
  by_space : (x : Bool) → (b == 32) ≡ x → (y : Bool) → (b == 9) ≡ y → (z : Bool) → (b == 13) ≡ z → x || y || z ≡ true → lex between (b ∷ r) ≡ lex between r
  by_space true is y ys z zs h = rw (eqb-true b 32 is) refl
  by_space false is true ys z zs h = rw (eqb-true b 9 ys) refl
  by_space false is false ys true zs h = rw (eqb-true b 13 zs) refl
  by_space false is false ys false zs h = absurd (cc)

pub space_ends : (b : ℕ) (r : List ℕ) → is_space b ≡ true → ends_word (b ∷ r) ≡ true
space_ends b r h = by_space (b == 32) refl (b == 9) refl (b == 13) refl h where
  by_space : (x : Bool) → (b == 32) ≡ x → (y : Bool) → (b == 9) ≡ y → (z : Bool) → (b == 13) ≡ z → x || y || z ≡ true → ends_word (b ∷ r) ≡ true
  by_space true is y ys z zs h = rw (eqb-true b 32 is) refl
  by_space false is true ys z zs h = rw (eqb-true b 9 ys) refl
  by_space false is false ys true zs h = rw (eqb-true b 13 zs) refl
  by_space false is false ys false zs h = absurd (cc)

-- ---- keys and values

string_lexed : (s r : List ℕ) → list_all is_plain s ≡ true → lex between (34 ∷ (s ++ 34 ∷ r)) ≡ Lexeme.token (string s) ∷ lex between r
unfolding lex
string_lexed s r plain =
    ap (λ q. lex between (34 ∷ (q ++ 34 ∷ r))) (sym (escape-plain s plain)) ∙ ap₂ (λ c l. Lexeme.token (string_token c) ∷ l) (content-escape s r) (lex-escape s r)

colon_lexed : (r : List ℕ) → lex between (58 ∷ r) ≡ Lexeme.colon ∷ lex between r
unfolding lex
colon_lexed r = refl

key_placed : (p : Place) (s : List ℕ) (ls : List Lexeme) → may_begin p ≡ true → punctuate p (Lexeme.token (string s) ∷ Lexeme.colon ∷ ls) ≡ key s ∷ punctuate fresh ls
unfolding punctuate
key_placed fresh s ls h = refl
key_placed after_value s ls h = absurd (cc)
key_placed after_comma s ls h = refl
key_placed after_key s ls h = absurd (cc)

pub key_taken : (p : Place) (s r : List ℕ) → may_begin p ≡ true → list_all is_plain s ≡ true → tokens_at p (34 ∷ (s ++ 34 ∷ 58 ∷ r)) ≡ key s ∷ tokens_at fresh r
key_taken p s r begins plain = ap (punctuate p) (string_lexed s (58 ∷ r) plain ∙ ap (λ l. Lexeme.token (string s) ∷ l) (colon_lexed r)) ∙ key_placed p s (lex between r) begins

string_placed : (p : Place) (s : List ℕ) (ls : List Lexeme) → may_begin p ≡ true → begins_colon ls ≡ false → punctuate p (Lexeme.token (string s) ∷ ls) ≡ string s ∷ punctuate after_value ls
unfolding punctuate
string_placed fresh s ls h none = rw none refl
string_placed after_value s ls h none = absurd (cc)
string_placed after_comma s ls h none = rw none refl
string_placed after_key s ls h none = absurd (cc)

pub text_taken : (p : Place) (s r : List ℕ) → may_begin p ≡ true → list_all is_plain s ≡ true → EndsValue r → tokens_at p (34 ∷ (s ++ 34 ∷ r)) ≡ string s ∷ tokens_at after_value r
text_taken p s r begins plain ended = ap (punctuate p) (string_lexed s r plain) ∙ string_placed p s (lex between r) begins ended.no_colon

number_placed : (p : Place) (s : List ℕ) (ls : List Lexeme) → may_begin p ≡ true → punctuate p (Lexeme.token (number s) ∷ ls) ≡ number s ∷ punctuate after_value ls
unfolding punctuate
number_placed fresh s ls h = refl
number_placed after_value s ls h = absurd (cc)
number_placed after_comma s ls h = refl
number_placed after_key s ls h = absurd (cc)

pub number_taken : (p : Place) (s r : List ℕ) → may_begin p ≡ true → IsNumber s → EndsValue r → tokens_at p (s ++ r) ≡ number s ∷ tokens_at after_value r
number_taken p s r begins is ended = ap (punctuate p) (lex-number s r is ended.word) ∙ number_placed p s (lex between r) begins

boolean_placed : (p : Place) (b : Bool) (ls : List Lexeme) → may_begin p ≡ true → punctuate p (Lexeme.token (boolean b) ∷ ls) ≡ boolean b ∷ punctuate after_value ls
unfolding punctuate
boolean_placed fresh b ls h = refl
boolean_placed after_value b ls h = absurd (cc)
boolean_placed after_comma b ls h = refl
boolean_placed after_key b ls h = absurd (cc)

true_lexed : (r : List ℕ) → ends_word r ≡ true → lex between (116 ∷ 114 ∷ 117 ∷ 101 ∷ r) ≡ Lexeme.token (boolean true) ∷ lex between r
unfolding lex word
true_lexed r ended = ap₂ (λ b l. Lexeme.token (cond b (boolean true) bad) ∷ l) ended (in_word-ended r ended)

pub true_taken : (p : Place) (r : List ℕ) → may_begin p ≡ true → EndsValue r → tokens_at p (116 ∷ 114 ∷ 117 ∷ 101 ∷ r) ≡ boolean true ∷ tokens_at after_value r
true_taken p r begins ended = ap (punctuate p) (true_lexed r ended.word) ∙ boolean_placed p true (lex between r) begins

false_lexed : (r : List ℕ) → ends_word r ≡ true → lex between (102 ∷ 97 ∷ 108 ∷ 115 ∷ 101 ∷ r) ≡ Lexeme.token (boolean false) ∷ lex between r
unfolding lex word
false_lexed r ended = ap₂ (λ b l. Lexeme.token (cond b (boolean false) bad) ∷ l) ended (in_word-ended r ended)

pub false_taken : (p : Place) (r : List ℕ) → may_begin p ≡ true → EndsValue r → tokens_at p (102 ∷ 97 ∷ 108 ∷ 115 ∷ 101 ∷ r) ≡ boolean false ∷ tokens_at after_value r
false_taken p r begins ended = ap (punctuate p) (false_lexed r ended.word) ∙ boolean_placed p false (lex between r) begins

null_placed : (p : Place) (ls : List Lexeme) → may_begin p ≡ true → punctuate p (Lexeme.token null ∷ ls) ≡ null ∷ punctuate after_value ls
unfolding punctuate
null_placed fresh ls h = refl
null_placed after_value ls h = absurd (cc)
null_placed after_comma ls h = refl
null_placed after_key ls h = absurd (cc)

null_lexed : (r : List ℕ) → ends_word r ≡ true → lex between (110 ∷ 117 ∷ 108 ∷ 108 ∷ r) ≡ Lexeme.token null ∷ lex between r
unfolding lex word
null_lexed r ended = ap₂ (λ b l. Lexeme.token (cond b null bad) ∷ l) ended (in_word-ended r ended)

pub null_taken : (p : Place) (r : List ℕ) → may_begin p ≡ true → EndsValue r → tokens_at p (110 ∷ 117 ∷ 108 ∷ 108 ∷ r) ≡ null ∷ tokens_at after_value r
null_taken p r begins ended = ap (punctuate p) (null_lexed r ended.word) ∙ null_placed p (lex between r) begins

-- ---- digits

pub IsNumber-digits : (ds : List ℕ) → AllDigits 10 ds → 0 < length ds → (get_or ds 0 0 ≡ 48 → length ds ≡ 1) → digits_value 10 ds < 2 ^ 64 → IsNumber ds
IsNumber-digits ds all some lead small =
    subst IsNumber (decimal-digits_value (numerals_by_value _ tells_digits) ds all some lead small) (IsNumber-decimal (digits_value 10 ds) small)

pub short_digits : (bytes : List ℕ) (at most : ℕ) → AllDigits 10 (take at bytes) → at ≤ most → digits_value 10 (take at bytes) < 10 ^ most
short_digits bytes at most all few = digits_value_short (numerals_by_value _ tells_digits) (take at bytes) most all (omega (arith, length-take at bytes))
