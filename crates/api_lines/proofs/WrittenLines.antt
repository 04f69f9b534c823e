-- Lines that are written: where their bytes hold no line feed they are the lines of the text.
use Rattle.std.proofs.Common.{ℕ, ℤ, pos, negsuc, zero, suc, ◌≡◌, ◌<◌, ◌≤◌, ◌+◌, ◌*◌, ◌/◌, ◌%◌, ◌^◌, List, [], ◌∷◌, ◌++◌, length, length-append, refl, ap, ◌∙◌, arith, Bool, true, false, ◌||◌, ◌⊎◌, inl, inr, decimal}
use Rattle.std.specs.Prelude.{◌==◌, ◌&&◌, if◌then◌else◌, nat_le, nat_lt, not}
use Rattle.std.specs.Fmt.{digit_glyph, digits, digits_onto, signed_decimal}
use Rattle.std.proofs.lemmas.Bool.{and_parts, cases_eq, cases_lt, leb-true, ne_eqb, not-true, or_from, or_parts}
use Rattle.std.proofs.lemmas.Fmt.{length-decimal-le}
use Rattle.std.proofs.lemmas.List.Folds.{list_any-append}
use Rattle.json.specs.Print.{escape, escape_byte, quoted}
use Rattle.json.proofs.Printed.Strings.{escape_byte_plain}
use Rattle.serde_json.specs.Data.{Num, unsigned, negative, float, Data, null, boolean, number, string, array, object, Items, no_items, item, Members, no_members, member}
use Rattle.serde_json.specs.Written.{comma_if, compact_text, items_text, members_text, number_text}
use Rattle.api_lines.specs.Lines.{HasNoLineFeed, has_line_feed, lines_of, onto_first}

pub no_line_feed-cons : (b : ℕ) (bytes : List ℕ) → (b ≡ 10 → ⊥) → HasNoLineFeed bytes → HasNoLineFeed (b ∷ bytes)
no_line_feed-cons b bytes other none = or_from (b == 10) (has_line_feed bytes) (ne_eqb b 10 other) none

pub no_line_feed-append : (xs ys : List ℕ) → HasNoLineFeed xs → HasNoLineFeed ys → HasNoLineFeed (xs ++ ys)
no_line_feed-append xs ys first second = list_any-append (λ b. b == 10) xs ys ∙ or_from (has_line_feed xs) (has_line_feed ys) first second

-- ---- lines

-- a line that is written before a text is the first line of both
pub one_line : (line rest : List ℕ) → HasNoLineFeed line → lines_of (line ++ 10 ∷ rest) ≡ line ∷ lines_of rest
one_line [] rest none = refl
one_line (b ∷ line) rest none =
    let parts = or_parts (b == 10) (has_line_feed line) none in
    ap (λ (t : Bool). if t then [] ∷ lines_of (line ++ 10 ∷ rest) else onto_first b (lines_of (line ++ 10 ∷ rest))) parts.0
    ∙ ap (onto_first b) (one_line line rest parts.1)

-- ---- numbers

glyph_is_no_line_feed : (small : Bool) (d : ℕ) → (if small then 48 + d else 87 + d) ≡ 10 → ⊥
glyph_is_no_line_feed true d h = omega arith
glyph_is_no_line_feed false d h = omega arith

either : (b : Bool) (xs ys : List ℕ) → HasNoLineFeed xs → HasNoLineFeed ys → HasNoLineFeed (if b then xs else ys)
either true xs ys first other = first
either false xs ys first other = other

no_line_feed-digits_onto : (k n : ℕ) (after : List ℕ) → HasNoLineFeed after → HasNoLineFeed (digits_onto k 10 false n after)
no_line_feed-digits_onto zero n after none = none
no_line_feed-digits_onto (suc k) n after none =
    let more = no_line_feed-cons (digit_glyph false (n % 10)) after (glyph_is_no_line_feed (nat_lt (n % 10) 10) (n % 10)) none in
    either (n / 10 == 0) (digit_glyph false (n % 10) ∷ after) (digits_onto k 10 false (n / 10) (digit_glyph false (n % 10) ∷ after)) more
    (no_line_feed-digits_onto k (n / 10) (digit_glyph false (n % 10) ∷ after) more)

pub no_line_feed-decimal : (n : ℕ) → HasNoLineFeed (decimal n)
unfolding digits
no_line_feed-decimal n = no_line_feed-digits_onto 64 n [] refl

pub no_line_feed-signed_decimal : (z : ℤ) → HasNoLineFeed (signed_decimal z)
no_line_feed-signed_decimal (pos n) = no_line_feed-decimal n
no_line_feed-signed_decimal (negsuc n) = no_line_feed-decimal (suc n)

-- a number below 2^64 has at most 20 digits
pub decimal_length : (n : ℕ) → n < 2 ^ 64 → length (decimal n) ≤ 20
decimal_length n h = length-decimal-le 20 n (omega arith) (omega arith) h

-- ---- texts in quotes

-- what stands for the byte in quotes has up to six bytes, and no line feed
abbrev is_short_line : ℕ → Bool
is_short_line x = not (has_line_feed (escape_byte x)) && nat_le (length (escape_byte x)) 6

abbrev all_below : (ℕ → Bool) → ℕ → Bool
all_below test zero = true
all_below test (suc n) = test n && all_below test n

each_below : (test : ℕ → Bool) (n : ℕ) → all_below test n ≡ true → (x : ℕ) → x < n → test x ≡ true
each_below test zero all x below = absurd (omega arith)
each_below test (suc n) all x below =
    let parts = and_parts (test n) (all_below test n) all in
    elim (cases_eq x n) as (λ _. test x ≡ true) [ inl same ↦ ap test same ∙ parts.0 | inr other ↦ each_below test n parts.1 x (omega arith) ]

is_short_line-control : all_below is_short_line 32 ≡ true
unfolding escape_byte
is_short_line-control = refl

is_short_line-quote : is_short_line 34 ≡ true
unfolding escape_byte
is_short_line-quote = refl

is_short_line-backslash : is_short_line 92 ≡ true
unfolding escape_byte
is_short_line-backslash = refl

is_short_line-plain : (x : ℕ) → 32 ≤ x → (x ≡ 34 → ⊥) → (x ≡ 92 → ⊥) → is_short_line x ≡ true
is_short_line-plain x above quote backslash =
    ap (λ bytes. not (has_line_feed bytes) && nat_le (length bytes) 6) (escape_byte_plain x quote backslash above)
    ∙ ap (λ b. not (b || false) && true) (ne_eqb x 10 (λ same. omega arith))

is_short_line-all : (x : ℕ) → is_short_line x ≡ true
is_short_line-all x = by_cases (cases_lt x 32) (cases_eq x 34) (cases_eq x 92)
  where
    by_cases : (x < 32) ⊎ (32 ≤ x) → (x ≡ 34) ⊎ (x ≡ 34 → ⊥) → (x ≡ 92) ⊎ (x ≡ 92 → ⊥) → is_short_line x ≡ true
    by_cases (inl below) q b = each_below is_short_line 32 is_short_line-control x below
    by_cases (inr above) (inl same) b = ap is_short_line same ∙ is_short_line-quote
    by_cases (inr above) (inr quote) (inl same) = ap is_short_line same ∙ is_short_line-backslash
    by_cases (inr above) (inr quote) (inr backslash) = is_short_line-plain x above quote backslash

no_line_feed-escape_byte : (x : ℕ) → HasNoLineFeed (escape_byte x)
no_line_feed-escape_byte x =
    not-true (has_line_feed (escape_byte x)) (and_parts (not (has_line_feed (escape_byte x))) (nat_le (length (escape_byte x)) 6) (is_short_line-all x)).0

length-escape_byte : (x : ℕ) → length (escape_byte x) ≤ 6
length-escape_byte x =
    leb-true (length (escape_byte x)) 6 (and_parts (not (has_line_feed (escape_byte x))) (nat_le (length (escape_byte x)) 6) (is_short_line-all x)).1

no_line_feed-escape : (s : List ℕ) → HasNoLineFeed (escape s)
no_line_feed-escape [] = refl
no_line_feed-escape (x ∷ s) = no_line_feed-append (escape_byte x) (escape s) (no_line_feed-escape_byte x) (no_line_feed-escape s)

pub no_line_feed-quoted : (s : List ℕ) → HasNoLineFeed (quoted s)
no_line_feed-quoted s = no_line_feed-append (escape s) (34 ∷ []) (no_line_feed-escape s) refl

length-escape : (s : List ℕ) → length (escape s) ≤ 6 * length s
length-escape [] = omega arith
length-escape (x ∷ s) =
    let here = length-escape_byte x in
    let rest = length-escape s in
    let whole = length-append (escape_byte x) (escape s) in
    omega arith

-- a text in quotes has at most six bytes for each of its own
pub quoted_length : (s : List ℕ) → length (quoted s) ≤ 2 + 6 * length s
quoted_length s =
    let inside = length-escape s in
    let whole = length-append (escape s) (34 ∷ []) in
    omega arith

-- ---- JSON

no_line_feed-number_text : (n : Num) → HasNoLineFeed (number_text n)
no_line_feed-number_text (unsigned n) = no_line_feed-decimal n
no_line_feed-number_text (negative z) = no_line_feed-signed_decimal z
no_line_feed-number_text (float x) = refl

no_line_feed-comma_if : (later : Bool) → HasNoLineFeed (comma_if later)
no_line_feed-comma_if true = refl
no_line_feed-comma_if false = refl

-- what is written of a value with no space has no line feed
mutual
  pub no_line_feed-compact_text : (v : Data) → HasNoLineFeed (compact_text v)
  no_line_feed-compact_text null = refl
  no_line_feed-compact_text (boolean true) = refl
  no_line_feed-compact_text (boolean false) = refl
  no_line_feed-compact_text (number n) = no_line_feed-number_text n
  no_line_feed-compact_text (string s) = no_line_feed-quoted s
  no_line_feed-compact_text (array ds) = no_line_feed-items_text false ds
  no_line_feed-compact_text (object ms) = no_line_feed-members_text false ms

  no_line_feed-items_text : (later : Bool) (ds : Items) → HasNoLineFeed (items_text later ds)
  no_line_feed-items_text later no_items = refl
  no_line_feed-items_text later (item d ds) =
      no_line_feed-append (comma_if later) (compact_text d ++ items_text true ds) (no_line_feed-comma_if later)
      (no_line_feed-append (compact_text d) (items_text true ds) (no_line_feed-compact_text d) (no_line_feed-items_text true ds))

  no_line_feed-members_text : (later : Bool) (ms : Members) → HasNoLineFeed (members_text later ms)
  no_line_feed-members_text later no_members = refl
  no_line_feed-members_text later (member k d ms) =
      no_line_feed-append (comma_if later) (quoted k ++ 58 ∷ (compact_text d ++ members_text true ms)) (no_line_feed-comma_if later)
      (no_line_feed-append (quoted k) (58 ∷ (compact_text d ++ members_text true ms)) (no_line_feed-quoted k)
      (no_line_feed-append (compact_text d) (members_text true ms) (no_line_feed-compact_text d) (no_line_feed-members_text true ms)))
