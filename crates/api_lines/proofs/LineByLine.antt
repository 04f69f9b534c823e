-- Texts that are read line by line: what the next line makes of a text of whole lines.
use Rattle.std.proofs.Common.{ℕ, suc, ◌≡◌, ◌<◌, ◌≤◌, ◌+◌, List, [], ◌∷◌, ◌++◌, length, length-append, append_assoc, refl, sym, ap, subst, ◌∙◌, arith, Bool, true, false, inl, inr, Ok, Err, Result}
use Rattle.std.specs.Prelude.{◌==◌, if◌then◌else◌, nat_lt}
use Rattle.std.proofs.lemmas.Bool.{lt-ltb, or_parts}
use Rattle.serde_json.specs.Data.{Data}
use Rattle.api_lines.specs.Lines.{AreWholeLines, HasNoLineFeed, has_line_feed, lines_of, longest_line, most_lines, onto_first}
use Rattle.api_lines.specs.Texts.{IsReadTo, ReadsLineByLine, SoFar, after_line, next_line, read_line, read_lines, read_on, so_far, state_of}
use Rattle.api_lines.specs.Faults.{IfTextReported, IfReported, text_fault}
use Rattle.api_lines.specs.declared.text_fault.LineFault.{LineFault}
use Rattle.api_lines.specs.declared.text_fault.LineFault.TheVariants.{Reported, NoMemory}
use Rattle.api_lines.specs.declared.text_fault.ReadFault.{ReadFault}
use Rattle.api_lines.specs.declared.text_fault.ReadFault.TheVariants as refusal
use Rattle.api_lines.specs.declared.text_fault.TextCause.{TextCause}
use Rattle.api_lines.specs.declared.text_fault.TextCause.TheVariants.{Lines, Long}
use Rattle.api_lines.specs.declared.text_fault.TextFault.{TextFault}
use Rattle.api_lines.proofs.ReadingLemmas.{IsReadUpTo, lines_on, lines_stop, read_more, read_stops}
use Rattle.api_lines.proofs.WrittenLines.{one_line}

-- ---- the lines of two texts, one after the other

-- a text that ends at a line feed has a line
some_line : (front : List ℕ) → (line : List ℕ) × (lines : List (List ℕ)) × (lines_of (front ++ 10 ∷ []) ≡ line ∷ lines)
some_line [] = ([], [], refl)
some_line (b ∷ front) = by_test (b == 10) (some_line front) where
  by_test : (t : Bool) → (line : List ℕ) × (lines : List (List ℕ)) × (lines_of (front ++ 10 ∷ []) ≡ line ∷ lines)
      → (line : List ℕ) × (lines : List (List ℕ))
      × ((if t then [] ∷ lines_of (front ++ 10 ∷ []) else onto_first b (lines_of (front ++ 10 ∷ []))) ≡ line ∷ lines)
  by_test true some = ([], lines_of (front ++ 10 ∷ []), refl)
  by_test false some = (b ∷ some.0, some.1, ap (onto_first b) some.2)

onto_front : (b : ℕ) (front rest : List (List ℕ)) (line : List ℕ) (lines : List (List ℕ)) → front ≡ line ∷ lines
    → onto_first b (front ++ rest) ≡ onto_first b front ++ rest
onto_front b front rest line lines is = ap (λ ls. onto_first b (ls ++ rest)) is ∙ sym (ap (λ ls. onto_first b ls ++ rest) is)

-- what comes after a line feed leaves the lines before it
lines_past_feed : (front rest : List ℕ) → lines_of (front ++ 10 ∷ rest) ≡ lines_of (front ++ 10 ∷ []) ++ lines_of rest
lines_past_feed [] rest = refl
lines_past_feed (b ∷ front) rest = by_test (b == 10) (lines_past_feed front rest) where
  by_test : (t : Bool) → lines_of (front ++ 10 ∷ rest) ≡ lines_of (front ++ 10 ∷ []) ++ lines_of rest
      → (if t then [] ∷ lines_of (front ++ 10 ∷ rest) else onto_first b (lines_of (front ++ 10 ∷ rest)))
      ≡ (if t then [] ∷ lines_of (front ++ 10 ∷ []) else onto_first b (lines_of (front ++ 10 ∷ []))) ++ lines_of rest
  by_test true same = ap (λ ls. [] ∷ ls) same
  by_test false same =
      let some = some_line front in
      ap (onto_first b) same ∙ onto_front b (lines_of (front ++ 10 ∷ [])) (lines_of rest) some.0 some.1 some.2

-- the lines of whole lines and more are theirs, and those of what comes after
pub lines_after : (text rest : List ℕ) → AreWholeLines text → lines_of (text ++ rest) ≡ lines_of text ++ lines_of rest
lines_after text rest (inl none) = ap (λ t. lines_of (t ++ rest)) none ∙ sym (ap (λ t. lines_of t ++ lines_of rest) none)
lines_after text rest (inr (front, ends)) =
    ap (λ t. lines_of (t ++ rest)) ends
    ∙ (ap lines_of (append_assoc front (10 ∷ []) rest) ∙ (lines_past_feed front rest ∙ sym (ap (λ t. lines_of t ++ lines_of rest) ends)))

-- a last line without a line feed
pub last_line : (line : List ℕ) → HasNoLineFeed line → 0 < length line → lines_of line ≡ line ∷ []
last_line [] none some = absurd (omega arith)
last_line (b ∷ []) none some =
    ap (λ (t : Bool). if t then [] ∷ [] else (b ∷ []) ∷ []) (or_parts (b == 10) false none).0
last_line (b ∷ c ∷ line) none some =
    let parts = or_parts (b == 10) (has_line_feed (c ∷ line)) none in
    ap (λ (t : Bool). if t then [] ∷ lines_of (c ∷ line) else onto_first b (lines_of (c ∷ line))) parts.0
    ∙ ap (onto_first b) (last_line (c ∷ line) parts.1 (omega arith))

-- a line that may go on
pub open_line : (line rest : List ℕ) → HasNoLineFeed line → 0 < length line
    → (more : List ℕ) × (lines : List (List ℕ)) × (lines_of (line ++ rest) ≡ (line ++ more) ∷ lines)
open_line [] rest none some = absurd (omega arith)
open_line (b ∷ []) rest none some = by_lines (lines_of rest) refl where
  first : lines_of (b ∷ rest) ≡ onto_first b (lines_of rest)
  first = ap (λ (t : Bool). if t then [] ∷ lines_of rest else onto_first b (lines_of rest)) (or_parts (b == 10) false none).0

  by_lines : (ls : List (List ℕ)) → lines_of rest ≡ ls
      → (more : List ℕ) × (lines : List (List ℕ)) × (lines_of (b ∷ rest) ≡ (b ∷ more) ∷ lines)
  by_lines [] is = ([], [], first ∙ ap (onto_first b) is)
  by_lines (l ∷ ls) is = (l, ls, first ∙ ap (onto_first b) is)
open_line (b ∷ c ∷ line) rest none some =
    let parts = or_parts (b == 10) (has_line_feed (c ∷ line)) none in
    let on = open_line (c ∷ line) rest parts.1 (omega arith) in (
      on.0,
      on.1,
      ap (λ (t : Bool). if t then [] ∷ lines_of (c ∷ line ++ rest) else onto_first b (lines_of (c ∷ line ++ rest))) parts.0
          ∙ ap (onto_first b) on.2,
    )

-- ---- lines that are read, and more lines

read_after : {S : Type 0} (takes : S → Data → Result S TextCause) (k : ℕ) (s t : S) (front lines : List (List ℕ))
    → read_lines takes k s front ≡ Ok t → read_lines takes k s (front ++ lines) ≡ read_lines takes (k + length front) t lines
read_after takes k s t [] lines read =
    let same : s ≡ t = cc in
    let number : k ≡ k + 0 = omega arith in
    ap (λ u. read_lines takes k u lines) same ∙ ap (λ n. read_lines takes n t lines) number
read_after {S} takes k s t (line ∷ front) lines read =
    by_line (read_line takes k s line) refl (λ u rest. read_after takes (suc k) u t front lines rest) read where
      by_line : (r : Result S TextCause) → read_line takes k s line ≡ r
          → ((u : S) → read_lines takes (suc k) u front ≡ Ok t → read_lines takes (suc k) u (front ++ lines) ≡ read_lines takes (suc k + length front) t lines)
          → read_on k r (λ u. read_lines takes (suc k) u front) ≡ Ok t
          → read_lines takes k s (line ∷ front ++ lines) ≡ read_lines takes (k + suc (length front)) t lines
      by_line (Ok u) is later read =
          let number : suc k + length front ≡ k + suc (length front) = omega arith in
          lines_on takes k s u line (front ++ lines) is ∙ (later u read ∙ ap (λ n. read_lines takes n t lines) number)
      by_line (Err cause) is later read = absurd (cc)

-- a text of whole lines, and more
pub read_past : {S : Type 0} (takes : S → Data → Result S TextCause) (start : S) (text rest : List ℕ) (r : SoFar S)
    → IsReadTo takes start text r
    → read_lines takes 1 start (lines_of (text ++ rest)) ≡ read_lines takes (r.lines + 1) r.state (lines_of rest)
read_past takes start text rest r before =
    let number : 1 + length (lines_of text) ≡ r.lines + 1 = omega (arith, before.count) in
    ap (read_lines takes 1 start) (lines_after text rest before.whole)
    ∙ (read_after takes 1 start r.state (lines_of text) (lines_of rest) before.read ∙ ap (λ n. read_lines takes n r.state (lines_of rest)) number)

-- ---- the next line

-- one line alone
one_read : {S : Type 0} (takes : S → Data → Result S TextCause) (r : SoFar S) (line : List ℕ)
    → read_lines takes (r.lines + 1) r.state (line ∷ []) ≡ state_of (next_line takes r line)
one_read {S} takes r line = by_line (read_line takes (r.lines + 1) r.state line) where
  by_line : (o : Result S TextCause) → read_on (r.lines + 1) o (λ t. Ok t) ≡ state_of (after_line (r.lines + 1) o)
  by_line (Ok t) = refl
  by_line (Err cause) = refl

-- a line that is refused, and more lines
stops_there : {S : Type 0} (takes : S → Data → Result S TextCause) (r : SoFar S) (line : List ℕ) (lines : List (List ℕ)) (reported : TextFault)
    → next_line takes r line ≡ Err reported → read_lines takes (r.lines + 1) r.state (line ∷ lines) ≡ Err reported
stops_there {S} takes r line lines reported = by_line (read_line takes (r.lines + 1) r.state line) where
  by_line : (o : Result S TextCause) → after_line (r.lines + 1) o ≡ Err reported
      → read_on (r.lines + 1) o (λ t. read_lines takes (suc (r.lines + 1)) t lines) ≡ Err reported
  by_line (Ok t) is = absurd (cc)
  by_line (Err cause) is = cc

-- a line that is too long is refused, and so is each that begins with it
pub long_stops : {S : Type 0} (takes : S → Data → Result S TextCause) (n : ℕ) (s : S) (line : List ℕ) → longest_line < length line
    → read_line takes n s line ≡ Err (if nat_lt most_lines n then Lines else Long)
long_stops takes n s line long = by_number (nat_lt most_lines n) refl where
  by_number : (b : Bool) → nat_lt most_lines n ≡ b → read_line takes n s line ≡ Err (if b then Lines else Long)
  by_number true past = rw past refl
  by_number false few = rw (few, lt-ltb longest_line (length line) long) refl

goes_on : {S : Type 0} (takes : S → Data → Result S TextCause) (start : S) (text line : List ℕ) (r q : SoFar S) → IsReadTo takes start text r → HasNoLineFeed line
    → next_line takes r line ≡ Ok q → IsReadTo takes start (text ++ (line ++ 10 ∷ [])) q
goes_on {S} takes start text line r q before none next = by_line (read_line takes (r.lines + 1) r.state line) refl next where
  lines : lines_of (text ++ (line ++ 10 ∷ [])) ≡ lines_of text ++ line ∷ []
  lines = lines_after text (line ++ 10 ∷ []) before.whole ∙ ap (λ ls. lines_of text ++ ls) (one_line line [] none)

  counted : length (lines_of (text ++ (line ++ 10 ∷ []))) ≡ r.lines + 1
  counted = ap length lines ∙ (length-append (lines_of text) (line ∷ []) ∙ ap (λ n. n + 1) before.count)

  by_line : (o : Result S TextCause) → read_line takes (r.lines + 1) r.state line ≡ o → after_line (r.lines + 1) o ≡ Ok q
      → IsReadTo takes start (text ++ (line ++ 10 ∷ [])) q
  by_line (Ok t) is next =
      let same : so_far t (r.lines + 1) ≡ q = cc in
      subst (IsReadTo takes start (text ++ (line ++ 10 ∷ []))) same (record {
        whole = inr (text ++ line, sym (append_assoc text line (10 ∷ [])));
        count = counted;
        read =
            read_past takes start text (line ++ 10 ∷ []) r before
            ∙ (ap (read_lines takes (r.lines + 1) r.state) (one_line line [] none) ∙ lines_on takes (r.lines + 1) r.state t line [] is);
      })
  by_line (Err cause) is next = absurd (cc)

-- a line that is too long, where it may go on
stops_early : {S : Type 0} (takes : S → Data → Result S TextCause) (start : S) (text line : List ℕ) (r : SoFar S) → IsReadTo takes start text r → HasNoLineFeed line
    → longest_line < length line
    → (reported : TextFault) × (next_line takes r line ≡ Err reported) × ((rest : List ℕ) → read_lines takes 1 start (lines_of (text ++ (line ++ rest))) ≡ Err reported)
stops_early {S} takes start text line r before none long = (reported, next, stops) where
  n : ℕ
  n = r.lines + 1

  cause : TextCause
  cause = if nat_lt most_lines n then Lines else Long

  reported : TextFault
  reported = record { line = n; cause = cause }

  next : next_line takes r line ≡ Err reported
  next = ap (after_line n) (long_stops takes n r.state line long)

  stops : (rest : List ℕ) → read_lines takes 1 start (lines_of (text ++ (line ++ rest))) ≡ Err reported
  stops rest =
      let on = open_line line rest none (omega arith) in
      let longer : longest_line < length (line ++ on.0) = omega (arith, length-append line on.0) in
      read_past takes start text (line ++ rest) r before
      ∙ (ap (read_lines takes n r.state) on.2 ∙ lines_stop takes n r.state (line ++ on.0) on.1 cause (long_stops takes n r.state (line ++ on.0) longer))

pub reads_line_by_line : {S : Type 0} (takes : S → Data → Result S TextCause) (start : S) → ReadsLineByLine takes start
reads_line_by_line takes start = record {
  none = record { whole = inl refl; count = refl; read = refl };
  more = goes_on takes start;
  ended = λ text line r before none.
      read_past takes start text (line ++ 10 ∷ []) r before
      ∙ (ap (read_lines takes (r.lines + 1) r.state) (one_line line [] none) ∙ one_read takes r line);
  last = λ text line r before none some.
      read_past takes start text line r before
      ∙ (ap (read_lines takes (r.lines + 1) r.state) (last_line line none some) ∙ one_read takes r line);
  refused = λ text line rest r reported before none stop.
      read_past takes start text (line ++ 10 ∷ rest) r before
      ∙ (ap (read_lines takes (r.lines + 1) r.state) (one_line line rest none) ∙ stops_there takes r line (lines_of rest) reported stop);
  too_long = stops_early takes start;
}

-- ---- a reader that takes one line after the other

-- what a reader's next line gives, by what the line gives
pub next_taken : {S : Type 0} (takes : S → Data → Result S TextCause) (r : SoFar S) (line : List ℕ) (t : S) → read_line takes (r.lines + 1) r.state line ≡ Ok t
    → next_line takes r line ≡ Ok (so_far t (r.lines + 1))
next_taken takes r line t read = ap (after_line (r.lines + 1)) read

pub next_refused : {S : Type 0} (takes : S → Data → Result S TextCause) (r : SoFar S) (line : List ℕ) (fault : LineFault)
    → IfReported fault (λ cause. read_line takes (r.lines + 1) r.state line ≡ Err cause)
    → IfTextReported (text_fault (r.lines + 1) fault) (λ reported. next_line takes r line ≡ Err reported)
next_refused takes r line (Reported cause) stop = ap (after_line (r.lines + 1)) stop
next_refused takes r line NoMemory stop = tt

-- the lines of a text up to a rest of it, and one line more
pub taken_more : {S : Type 0} (takes : S → Data → Result S TextCause) (start : S) (text rest after line : List ℕ) (r q : SoFar S)
    → IsReadUpTo takes start text rest r.lines r.state → lines_of rest ≡ line ∷ lines_of after → next_line takes r line ≡ Ok q → q.lines ≤ most_lines
    → IsReadUpTo takes start text after q.lines q.state
taken_more {S} takes start text rest after line r q before split next few = by_line (read_line takes (r.lines + 1) r.state line) refl next where
  by_line : (o : Result S TextCause) → read_line takes (r.lines + 1) r.state line ≡ o → after_line (r.lines + 1) o ≡ Ok q
      → IsReadUpTo takes start text after q.lines q.state
  by_line (Ok t) is next =
      let same : so_far t (r.lines + 1) ≡ q = cc in
      let number : r.lines + 1 ≡ q.lines = ap (λ (p : SoFar S). p.lines) same in
      subst (λ (p : SoFar S). IsReadUpTo takes start text after p.lines p.state) same
      (read_more takes start text rest after line r.lines r.state t before split is (omega (arith, number, few)))
  by_line (Err cause) is next = absurd (cc)

stopped_at : {S : Type 0} (takes : S → Data → Result S TextCause) (start : S) (text rest after line : List ℕ) (r : SoFar S) (reported : TextFault)
    → IsReadUpTo takes start text rest r.lines r.state → lines_of rest ≡ line ∷ lines_of after → next_line takes r line ≡ Err reported
    → read_lines takes 1 start (lines_of text) ≡ Err reported
stopped_at {S} takes start text rest after line r reported before split next = by_line (read_line takes (r.lines + 1) r.state line) refl next where
  by_line : (o : Result S TextCause) → read_line takes (r.lines + 1) r.state line ≡ o → after_line (r.lines + 1) o ≡ Err reported
      → read_lines takes 1 start (lines_of text) ≡ Err reported
  by_line (Ok t) is next = absurd (cc)
  by_line (Err cause) is next =
      let here : TextFault = record { line = r.lines + 1; cause = cause } in
      let same : here ≡ reported = cc in
      read_stops takes start text rest after line r.lines r.state (Reported cause) before split is ∙ ap (λ (t : TextFault). Err t) same

pub taken_until : {S : Type 0} (takes : S → Data → Result S TextCause) (start : S) (text rest after line : List ℕ) (r : SoFar S) (fault : ReadFault)
    → IsReadUpTo takes start text rest r.lines r.state → lines_of rest ≡ line ∷ lines_of after → IfTextReported fault (λ reported. next_line takes r line ≡ Err reported)
    → IfTextReported fault (λ reported. read_lines takes 1 start (lines_of text) ≡ Err reported)
taken_until takes start text rest after line r (refusal.Text reported) before split next = stopped_at takes start text rest after line r reported before split next
taken_until takes start text rest after line r refusal.NoMemory before split next = tt
