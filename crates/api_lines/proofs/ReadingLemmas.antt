-- Texts that are read line by line: a line, and the lines after it.
use Rattle.std.proofs.Common.{ℕ, suc, ◌≡◌, ◌<◌, ◌≤◌, ◌+◌, List, [], ◌∷◌, length, refl, sym, ap, ◌∙◌, arith, Bool, true, false, Option, Some, None, Ok, Err, Result, add-one, zero, take, ◌⊎◌, inl, inr}
use Rattle.std.specs.Prelude.{◌==◌, IfErr, if◌then◌else◌, nat_lt}
use Rattle.std.proofs.lemmas.Bool.{le-ltb, ltb-false}
use Rattle.serde_json.specs.Data.{Data}
use Rattle.api_lines.specs.Faults.{IfTextReported, IfReported, text_fault, ◌>>=◌}
use Rattle.api_lines.specs.Json.{json_value}
use Rattle.api_lines.specs.Lines.{is_blank, lines_of, longest_line, most_lines, onto_first}
use Rattle.api_lines.specs.Texts.{line_given, read_line, read_lines, read_on, value_given}
use Rattle.api_lines.specs.declared.text_fault.LineFault.{LineFault}
use Rattle.api_lines.specs.declared.text_fault.LineFault.TheVariants.{Reported, NoMemory}
use Rattle.api_lines.specs.declared.text_fault.TextCause.{TextCause}
use Rattle.api_lines.specs.declared.text_fault.TextCause.TheVariants.{Lines, Long}
use Rattle.api_lines.specs.declared.text_fault.TextFault.{TextFault}

-- what is refused after a first step was refused there, or its next one is
pub first_ok : {A B E : Type 0} (r : Result A E) (f : A → Result B E) (y : B) → (r >>= f) ≡ Ok y → (x : A) × (r ≡ Ok x) × (f x ≡ Ok y)
first_ok (Ok x) f y is = (x, refl, is)
first_ok (Err e) f y is = absurd (cc)

-- a line that gives something is not past the last one, and not too long
pub given_within : (n : ℕ) (line : List ℕ) (o : Option Data) → line_given n line ≡ Ok o → (n ≤ most_lines) × (length line ≤ longest_line)
given_within n line o given = by_number (nat_lt most_lines n) refl given where
  rest : Result (Option Data) TextCause
  rest = if is_blank line then Ok None else value_given (json_value line)

  by_length : (b : Bool) → nat_lt longest_line (length line) ≡ b → (if b then Err Long else rest) ≡ Ok o → length line ≤ longest_line
  by_length true is given = absurd (cc)
  by_length false is given = ltb-false longest_line (length line) is

  by_number : (b : Bool) → nat_lt most_lines n ≡ b → (if b then Err Lines else (if nat_lt longest_line (length line) then Err Long else rest)) ≡ Ok o
      → (n ≤ most_lines) × (length line ≤ longest_line)
  by_number true is given = absurd (cc)
  by_number false is given = (ltb-false most_lines n is, by_length (nat_lt longest_line (length line)) refl given)

pub lines_on : {S : Type 0} (takes : S → Data → Result S TextCause) (n : ℕ) (s t : S) (line : List ℕ) (lines : List (List ℕ))
    → read_line takes n s line ≡ Ok t → read_lines takes n s (line ∷ lines) ≡ read_lines takes (suc n) t lines
lines_on takes n s t line lines read = ap (λ r. read_on n r (λ u. read_lines takes (suc n) u lines)) read

pub lines_stop : {S : Type 0} (takes : S → Data → Result S TextCause) (n : ℕ) (s : S) (line : List ℕ) (lines : List (List ℕ)) (cause : TextCause)
    → read_line takes n s line ≡ Err cause → read_lines takes n s (line ∷ lines) ≡ Err (record { line = n; cause = cause })
lines_stop takes n s line lines cause read = ap (λ r. read_on n r (λ u. read_lines takes (suc n) u lines)) read

same_err : {S : Type 0} (x y : TextFault) → (let r : Result S TextFault = Err x in r) ≡ Err y → x ≡ y
same_err x y is = cc

-- the line that is refused is the first one or a later one
pub refused_from : {S : Type 0} (takes : S → Data → Result S TextCause) (k : ℕ) (s : S) (lines : List (List ℕ)) (reported : TextFault)
    → read_lines takes k s lines ≡ Err reported → k ≤ reported.line
refused_from takes k s [] reported stop = absurd (cc)
refused_from {S} takes k s (line ∷ lines) reported stop = by_read (read_line takes k s line) (λ t rest. refused_from takes (suc k) t lines reported rest) stop where
  by_read : (r : Result S TextCause) → ((t : S) → read_lines takes (suc k) t lines ≡ Err reported → suc k ≤ reported.line) → read_on k r (λ t. read_lines takes (suc k) t lines) ≡ Err reported
      → k ≤ reported.line
  by_read (Ok t) rest stop = let later : suc k ≤ reported.line = rest t stop in omega arith
  by_read (Err cause) rest stop =
      let is : record { line = k; cause = cause } ≡ reported = same_err (record { line = k; cause = cause }) reported stop in
      let here : k ≡ reported.line = ap (λ (x : TextFault). x.line) is in omega arith

-- a text that is not empty has a line
no_lines : (text : List ℕ) → 0 < length text → lines_of text ≡ [] → ⊥
no_lines [] some none = absurd (omega arith)
no_lines (b ∷ text) some none = by_feed (b == 10) (lines_of text) none where
  by_feed : (t : Bool) (lines : List (List ℕ)) → (if t then [] ∷ lines else onto_first b lines) ≡ [] → ⊥
  by_feed true lines none = absurd (cc)
  by_feed false [] none = absurd (cc)
  by_feed false (line ∷ lines) none = absurd (cc)

-- ---- a text up to a rest of it

-- The lines of the text up to the rest are read: so many, and they led to this state.
pub IsReadUpTo : {S : Type 0} → (S → Data → Result S TextCause) → S → List ℕ → List ℕ → ℕ → S → Type 0
IsReadUpTo takes start text rest n s =
    (read_lines takes 1 start (lines_of text) ≡ read_lines takes (suc n) s (lines_of rest)) × (n ≤ most_lines)

pub read_none : {S : Type 0} (takes : S → Data → Result S TextCause) (start : S) (text : List ℕ) → IsReadUpTo takes start text text 0 start
unfolding IsReadUpTo
read_none takes start text = (refl, omega arith)

pub read_more : {S : Type 0} (takes : S → Data → Result S TextCause) (start : S) (text rest after line : List ℕ) (n : ℕ) (s t : S)
    → IsReadUpTo takes start text rest n s → lines_of rest ≡ line ∷ lines_of after
    → read_line takes (n + 1) s line ≡ Ok t → n + 1 ≤ most_lines → IsReadUpTo takes start text after (n + 1) t
unfolding IsReadUpTo
read_more takes start text rest after line n s t so_far split read few = (
  so_far.0 ∙ (ap (read_lines takes (suc n) s) split
      ∙ (lines_on takes (suc n) s t line (lines_of after) (ap (λ k. read_line takes k s line) (sym (add-one n)) ∙ read)
      ∙ ap (λ k. read_lines takes (suc k) t (lines_of after)) (sym (add-one n)))),
  few,
)

pub read_refused : {S : Type 0} (takes : S → Data → Result S TextCause) (start : S) (text rest line : List ℕ) (lines : List (List ℕ)) (n : ℕ) (s : S) (cause : TextCause)
    → IsReadUpTo takes start text rest n s → lines_of rest ≡ line ∷ lines → read_line takes (n + 1) s line ≡ Err cause
    → read_lines takes 1 start (lines_of text) ≡ Err (record { line = n + 1; cause = cause })
unfolding IsReadUpTo
read_refused takes start text rest line lines n s cause so_far split stop =
    so_far.0 ∙ (ap (read_lines takes (suc n) s) split
    ∙ (ap (λ k. read_lines takes k s (line ∷ lines)) (sym (add-one n)) ∙ lines_stop takes (n + 1) s line lines cause stop))

pub read_stops : {S : Type 0} (takes : S → Data → Result S TextCause) (start : S) (text rest after line : List ℕ) (n : ℕ) (s : S) (fault : LineFault)
    → IsReadUpTo takes start text rest n s → lines_of rest ≡ line ∷ lines_of after
    → IfReported fault (λ cause. read_line takes (n + 1) s line ≡ Err cause)
    → IfTextReported (text_fault (n + 1) fault) (λ reported. read_lines takes 1 start (lines_of text) ≡ Err reported)
read_stops takes start text rest after line n s (Reported cause) so_far split stop = read_refused takes start text rest line (lines_of after) n s cause so_far split stop
read_stops takes start text rest after line n s NoMemory so_far split stop = tt

pub read_all : {S : Type 0} (takes : S → Data → Result S TextCause) (start : S) (text rest : List ℕ) (n : ℕ) (s : S)
    → IsReadUpTo takes start text rest n s → length rest ≡ 0 → read_lines takes 1 start (lines_of text) ≡ Ok s
unfolding IsReadUpTo
read_all takes start text [] n s so_far end = so_far.0
read_all takes start text (b ∷ rest) n s so_far end = absurd (omega arith)

-- no line up to the rest is refused
pub read_later : {S : Type 0} (takes : S → Data → Result S TextCause) (start : S) (text rest : List ℕ) (n : ℕ) (s : S)
    → IsReadUpTo takes start text rest n s → IfErr (read_lines takes 1 start (lines_of text)) (λ reported. suc n ≤ reported.line)
unfolding IsReadUpTo
read_later {S} takes start text rest n s so_far = by_read (read_lines takes 1 start (lines_of text)) refl where
  by_read : (r : Result S TextFault) → read_lines takes 1 start (lines_of text) ≡ r → IfErr r (λ reported. suc n ≤ reported.line)
  by_read (Ok t) is = tt
  by_read (Err reported) is = refused_from takes (suc n) s (lines_of rest) reported (sym so_far.0 ∙ is)

-- behind the most lines there is none that is taken
pub read_past_last : {S : Type 0} (takes : S → Data → Result S TextCause) (start : S) (text rest : List ℕ) (s : S)
    → IsReadUpTo takes start text rest most_lines s → 0 < length rest → read_lines takes 1 start (lines_of text) ≡ Err (record { line = 4194305; cause = Lines })
unfolding IsReadUpTo
read_past_last {S} takes start text rest s so_far more = by_lines (lines_of rest) refl where
  by_lines : (lines : List (List ℕ)) → lines_of rest ≡ lines → read_lines takes 1 start (lines_of text) ≡ Err (record { line = 4194305; cause = Lines })
  by_lines [] is = absurd (no_lines rest more is)
  by_lines (line ∷ lines) is = so_far.0 ∙ ap (read_lines takes 4194305 s) is

pub read_few : {S : Type 0} (takes : S → Data → Result S TextCause) (start : S) (text rest : List ℕ) (n : ℕ) (s : S)
    → IsReadUpTo takes start text rest n s → n ≤ 4194304
unfolding IsReadUpTo
read_few takes start text rest n s so_far = so_far.1

-- ---- what a line gives

-- a line that gives nothing is blank, and one that gives a value isn't, and is JSON of this value
pub given_of : (n : ℕ) (line : List ℕ) (o : Option Data) → line_given n line ≡ Ok o
    → ((o ≡ None) × (is_blank line ≡ true)) ⊎ ((v : Data) × (o ≡ Some v) × (is_blank line ≡ false) × (json_value line ≡ Some v))
given_of n line o given = by_number (nat_lt most_lines n) given where
  rest : Result (Option Data) TextCause
  rest = if is_blank line then Ok None else value_given (json_value line)

  Given : Type 0
  Given = ((o ≡ None) × (is_blank line ≡ true)) ⊎ ((v : Data) × (o ≡ Some v) × (is_blank line ≡ false) × (json_value line ≡ Some v))

  by_value : (j : Option Data) → json_value line ≡ j → is_blank line ≡ false → value_given j ≡ Ok o → Given
  by_value None found written given = absurd (cc)
  by_value (Some v) found written given = inr (v, cc, written, found)

  by_blank : (b : Bool) → is_blank line ≡ b → (if b then Ok None else value_given (json_value line)) ≡ Ok o → Given
  by_blank true is given = inl (cc, is)
  by_blank false is given = by_value (json_value line) refl is given

  by_length : (b : Bool) → (if b then Err Long else rest) ≡ Ok o → Given
  by_length true given = absurd (cc)
  by_length false given = by_blank (is_blank line) refl given

  by_number : (b : Bool) → (if b then Err Lines else (if nat_lt longest_line (length line) then Err Long else rest)) ≡ Ok o → Given
  by_number true given = absurd (cc)
  by_number false given = by_length (nat_lt longest_line (length line)) given

-- a line within the limits gives what it is
given_on : (n : ℕ) (line : List ℕ) → n ≤ most_lines → length line ≤ longest_line
    → line_given n line ≡ (if is_blank line then Ok None else value_given (json_value line))
given_on n line few short = rw (le-ltb most_lines n few, le-ltb longest_line (length line) short) refl

pub given_blank : (n : ℕ) (line : List ℕ) → n ≤ most_lines → length line ≤ longest_line → is_blank line ≡ true → line_given n line ≡ Ok None
given_blank n line few short blank = given_on n line few short ∙ ap (λ b. if b then Ok None else value_given (json_value line)) blank

pub given_value : (n : ℕ) (line : List ℕ) (v : Data) → n ≤ most_lines → length line ≤ longest_line → is_blank line ≡ false → json_value line ≡ Some v
    → line_given n line ≡ Ok (Some v)
given_value n line v few short written json =
    given_on n line few short ∙ (ap (λ b. if b then Ok None else value_given (json_value line)) written ∙ ap value_given json)

-- ---- the first line that is refused

-- The lines before the one that is refused are read, and with it they are refused so.
pub read_front : {S : Type 0} (takes : S → Data → Result S TextCause) (k : ℕ) (s : S) (lines : List (List ℕ)) (reported : TextFault)
    → read_lines takes k s lines ≡ Err reported → (n : ℕ)
    → (k + n ≤ reported.line → (t : S) × (read_lines takes k s (take n lines) ≡ Ok t)) × (reported.line < k + n → read_lines takes k s (take n lines) ≡ Err reported)
read_front takes k s [] reported stop n = absurd (cc)
read_front takes k s (line ∷ lines) reported stop zero = (λ _. (s, refl), λ below. let least = refused_from takes k s (line ∷ lines) reported stop in absurd (omega arith))
read_front {S} takes k s (line ∷ lines) reported stop (suc n) = by_read (read_line takes k s line) refl (λ t rest. read_front takes (suc k) t lines reported rest n) stop where
  by_read : (r : Result S TextCause) → read_line takes k s line ≡ r
      → ((t : S) → read_lines takes (suc k) t lines ≡ Err reported
      → (suc k + n ≤ reported.line → (u : S) × (read_lines takes (suc k) t (take n lines) ≡ Ok u)) × (reported.line < suc k + n → read_lines takes (suc k) t (take n lines) ≡ Err reported))
      → read_on k r (λ t. read_lines takes (suc k) t lines) ≡ Err reported
      → (k + suc n ≤ reported.line → (u : S) × (read_lines takes k s (line ∷ take n lines) ≡ Ok u)) × (reported.line < k + suc n → read_lines takes k s (line ∷ take n lines) ≡ Err reported)
  by_read (Ok t) is rest stop =
      let later = rest t stop in
      let on : read_lines takes k s (line ∷ take n lines) ≡ read_lines takes (suc k) t (take n lines) = lines_on takes k s t line (take n lines) is in
      (λ few. let u = later.0 (omega arith) in (u.0, on ∙ u.1), λ below. on ∙ later.1 (omega arith))
  by_read (Err cause) is rest stop =
      let same : record { line = k; cause = cause } ≡ reported = same_err (record { line = k; cause = cause }) reported stop in
      let here : k ≡ reported.line = ap (λ (x : TextFault). x.line) same in
      (λ few. absurd (omega arith), λ below. lines_stop takes k s line (take n lines) cause is ∙ stop)
