-- Lines that are taken from a reader's bytes, and the text of all bytes.
use Rattle.std.proofs.Common.{ℕ, suc, ◌≡◌, ◌<◌, ◌≤◌, ◌+◌, ◌⊎◌, List, [], ◌∷◌, ◌++◌, drop, length, take, refl, sym, subst, ap, ◌∙◌, arith, get_or, length-append, take-append-drop, append_assoc, append-nil, Option, None, Some, IfSome, Ok, Err, Result, inl, inr}
use Rattle.std.specs.Prelude.{◌==◌, IfErr, OnSome}
use Rattle.std.specs.Io.KnownBytes.{Consumes, IsAtEnd, Keeps, prepend_known}
use Rattle.std.proofs.KnownBytes.{Consumes-kept, Consumes-nil, Keeps-refl, prepend_known-nil, prepend_known-read}
use Rattle.memchr.specs.Find.{Nowhere, Passes, is_byte}
use Rattle.serde_json.specs.Data.{Data}
use Rattle.api_lines.specs.Faults.{IfTextReported}
use Rattle.api_lines.specs.Lines.{HasNoLineFeed, lines_of, longest_line, most_lines}
use Rattle.api_lines.specs.Sources.{AreOfOneLine, EndsLine, IsTakenFor, most_brought, most_held}
use Rattle.api_lines.specs.Texts.{SoFar, after_line, line_given, next_line, read_line, read_lines, so_far, taken}
use Rattle.api_lines.specs.declared.text_fault.ReadFault.{ReadFault}
use Rattle.api_lines.specs.declared.text_fault.ReadFault.TheVariants as refusal
use Rattle.api_lines.specs.declared.text_fault.TextCause.{TextCause}
use Rattle.api_lines.specs.declared.text_fault.TextCause.TheVariants.{Lines}
use Rattle.api_lines.specs.declared.text_fault.TextFault.{TextFault}
use Rattle.api_lines.proofs.LineLemmas.{front_without}
use Rattle.api_lines.proofs.LineByLine.{last_line, long_stops, open_line, taken_more, taken_until}
use Rattle.api_lines.proofs.ReadingLemmas.{IsReadUpTo, first_ok, given_within, read_all, read_few, read_later, read_none, read_past_last, read_refused}
use Rattle.api_lines.proofs.TakenLemmas.{IsFront, front_last, front_more, front_none, front_stops, no_rest}
use Rattle.api_lines.proofs.WrittenLines.{one_line}
use Rattle.std.proofs.lemmas.Bool.{false_from_ne_true}

-- a front of bytes before which there is no line feed
pub front_unfed : (bytes : List ℕ) (n : ℕ) → n ≤ length bytes → Nowhere (Passes (is_byte 10) bytes) 0 n → HasNoLineFeed (take n bytes)
front_unfed bytes n within none = front_without bytes n within (λ k below. false_from_ne_true (get_or bytes k 0 == 10) (none k (omega arith) below))

pub fewer : (bytes : List ℕ) (n m : ℕ) → n ≤ m → Nowhere (Passes (is_byte 10) bytes) 0 m → Nowhere (Passes (is_byte 10) bytes) 0 n
fewer bytes n m within none k low high = none k low (omega arith)

-- the first bytes at hand are taken
pub front_taken : (old rest : Option (List ℕ)) (at_hand bytes left : List ℕ) (n : ℕ) → Keeps old (prepend_known at_hand rest) → bytes ≡ at_hand → left ≡ drop n at_hand
    → Consumes old (prepend_known left rest) (take n bytes)
front_taken old rest at_hand bytes left n kept same after =
    let split : at_hand ≡ take n bytes ++ left =
    sym (take-append-drop n at_hand) ∙ (ap (λ l. take n l ++ drop n at_hand) (sym same) ∙ ap (λ l. take n bytes ++ l) (sym after)) in
    (prepend_known-read old rest at_hand left (take n bytes) ⊥ kept split (λ none. absurd none)).0

-- ---- a line that is too long

-- it is refused as any front of it that is too long
long_refused : {S : Type 0} (takes : S → Data → Result S TextCause) (n : ℕ) (s : S) (line more : List ℕ) (cause : TextCause)
    → longest_line < length line → read_line takes n s line ≡ Err cause → read_line takes n s (line ++ more) ≡ Err cause
long_refused takes n s line more cause long refused =
    long_stops takes n s (line ++ more) (omega (arith, long, length-append line more)) ∙ (sym (long_stops takes n s line long) ∙ refused)

-- a line that is taken is none
taken_short : {S : Type 0} (takes : S → Data → Result S TextCause) (r q : SoFar S) (line : List ℕ) → next_line takes r line ≡ Ok q → length line ≤ longest_line
taken_short {S} takes r q line next = by_line (read_line takes (r.lines + 1) r.state line) refl next where
  by_line : (o : Result S TextCause) → read_line takes (r.lines + 1) r.state line ≡ o → after_line (r.lines + 1) o ≡ Ok q → length line ≤ longest_line
  by_line (Ok t) is next =
      let given = first_ok (line_given (r.lines + 1) line) (taken takes r.state) t is in
      (given_within (r.lines + 1) line given.0 given.1).1
  by_line (Err cause) is next = absurd (cc)

-- each line counts
pub next_counts : {S : Type 0} (takes : S → Data → Result S TextCause) (r q : SoFar S) (line : List ℕ) → next_line takes r line ≡ Ok q → q.lines ≡ r.lines + 1
next_counts {S} takes r q line next = by_line (read_line takes (r.lines + 1) r.state line) next where
  by_line : (o : Result S TextCause) → after_line (r.lines + 1) o ≡ Ok q → q.lines ≡ r.lines + 1
  by_line (Ok t) next =
      let same : so_far t (r.lines + 1) ≡ q = cc in
      ap (λ (p : SoFar S). p.lines) (sym same)
  by_line (Err cause) next = absurd (cc)

-- ---- the bytes up to what is left

-- The lines of the bytes up to those that are left are read, and led to this; each is within the limits. Of unknown bytes
-- nothing is said.
pub IsReadOn : {S : Type 0} → (S → Data → Result S TextCause) → S → Option (List ℕ) → Option (List ℕ) → SoFar S → Type 0
IsReadOn takes start None rest r = Unit {0}
IsReadOn takes start (Some text) None r = ⊥
IsReadOn takes start (Some text) (Some rest) r = IsReadUpTo takes start text rest r.lines r.state × IsFront text rest r.lines

pub on_none : {S : Type 0} (takes : S → Data → Result S TextCause) (start : S) (input : Option (List ℕ)) → IsReadOn takes start input input (so_far start 0)
unfolding IsReadOn
on_none takes start None = tt
on_none takes start (Some text) = (read_none takes start text, front_none text)

pub on_all : {S : Type 0} (takes : S → Data → Result S TextCause) (start : S) (input rest : Option (List ℕ)) (r : SoFar S)
    → IsReadOn takes start input rest r → IsAtEnd rest → IfSome input (λ text. read_lines takes 1 start (lines_of text) ≡ Ok r.state)
unfolding IsReadOn
on_all takes start None rest r before end = tt
on_all takes start (Some text) None r before end = absurd before
on_all takes start (Some text) (Some rest) r before end = read_all takes start text rest r.lines r.state before.0 (ap length end)

-- the lines of known bytes, where one was taken of them
line_taken : (ys zs line : List ℕ) → HasNoLineFeed line → ys ≡ (line ++ 10 ∷ []) ++ zs → lines_of ys ≡ line ∷ lines_of zs
line_taken ys zs line unfed took = ap lines_of (took ∙ append_assoc line (10 ∷ []) zs) ∙ one_line line zs unfed

end_taken : (ys zs line : List ℕ) → HasNoLineFeed line → ys ≡ line ++ zs → zs ≡ [] → 0 < length line → lines_of ys ≡ line ∷ lines_of zs
end_taken ys zs line unfed took end some =
    ap lines_of (took ∙ ap (λ l. line ++ l) end ∙ append-nil line) ∙ last_line line unfed some ∙ ap (λ l. line ∷ lines_of l) (sym end)

-- one line more, taken
pub on_more : {S : Type 0} (takes : S → Data → Result S TextCause) (start : S) (input old new : Option (List ℕ)) (line : List ℕ) (r q : SoFar S)
    → IsReadOn takes start input old r → HasNoLineFeed line → EndsLine old new line
    → next_line takes r line ≡ Ok q → q.lines ≤ most_lines → IsReadOn takes start input new q
unfolding IsReadOn
on_more takes start None old new line r q before unfed ends next few = tt
on_more takes start (Some text) None new line r q before unfed ends next few = absurd before
on_more takes start (Some text) (Some ys) None line r q before unfed (inl took) next few = absurd took.0
on_more takes start (Some text) (Some ys) (Some zs) line r q before unfed (inl (took, short)) next few = (
  taken_more takes start text ys zs line r q before.0 (line_taken ys zs line unfed took) next few,
  subst (IsFront text zs) (sym (next_counts takes r q line next)) (front_more text ys zs line r.lines before.1 unfed short took),
)
on_more takes start (Some text) (Some ys) None line r q before unfed (inr rest) next few = absurd rest.0
on_more takes start (Some text) (Some ys) (Some zs) line r q before unfed (inr (took, inl (end, some))) next few = (
  taken_more takes start text ys zs line r q before.0 (end_taken ys zs line unfed took end some) next few,
  subst (IsFront text zs) (sym (next_counts takes r q line next))
      (front_last text ys zs line r.lines before.1 unfed (taken_short takes r q line next) took end some),
)
on_more takes start (Some text) (Some ys) (Some zs) line r q before unfed (inr (took, inr long)) next few =
    let short = taken_short takes r q line next in
    absurd (omega (arith, long, short))

-- one line more, refused
on_reported : {S : Type 0} (takes : S → Data → Result S TextCause) (start : S) (input old new : Option (List ℕ)) (line : List ℕ) (r : SoFar S) (reported : TextFault)
    → IsReadOn takes start input old r → HasNoLineFeed line → EndsLine old new line
    → next_line takes r line ≡ Err reported → IfSome input (λ text. read_lines takes 1 start (lines_of text) ≡ Err reported)
unfolding IsReadOn
on_reported takes start None old new line r reported before unfed ends stop = tt
on_reported takes start (Some text) None new line r reported before unfed ends stop = absurd before
on_reported takes start (Some text) (Some ys) None line r reported before unfed (inl took) stop = absurd took.0
on_reported takes start (Some text) (Some ys) (Some zs) line r reported before unfed (inl (took, short)) stop =
    taken_until takes start text ys zs line r (refusal.Text reported) before.0 (line_taken ys zs line unfed took) stop
on_reported takes start (Some text) (Some ys) None line r reported before unfed (inr rest) stop = absurd rest.0
on_reported takes start (Some text) (Some ys) (Some zs) line r reported before unfed (inr (took, inl (end, some))) stop =
    taken_until takes start text ys zs line r (refusal.Text reported) before.0 (end_taken ys zs line unfed took end some) stop
on_reported {S} takes start (Some text) (Some ys) (Some zs) line r reported before unfed (inr (took, inr long)) stop =
    by_line (read_line takes (r.lines + 1) r.state line) refl stop
  where
    by_line : (o : Result S TextCause) → read_line takes (r.lines + 1) r.state line ≡ o → after_line (r.lines + 1) o ≡ Err reported
        → read_lines takes 1 start (lines_of text) ≡ Err reported
    by_line (Ok t) is next = absurd (cc)
    by_line (Err cause) is next =
        let on = open_line line zs unfed (omega (arith, long)) in
        let same : record { line = r.lines + 1; cause = cause } ≡ reported = cc in
        read_refused takes start text ys (line ++ on.0) on.1 r.lines r.state cause before.0 (ap lines_of took ∙ on.2)
        (long_refused takes (r.lines + 1) r.state line on.0 cause long is) ∙ ap (λ f. Err f) same

pub on_stop : {S : Type 0} (takes : S → Data → Result S TextCause) (start : S) (input old new : Option (List ℕ)) (line : List ℕ) (r : SoFar S) (fault : ReadFault)
    → IsReadOn takes start input old r → HasNoLineFeed line → EndsLine old new line
    → IfTextReported fault (λ reported. next_line takes r line ≡ Err reported)
    → IfTextReported fault (λ reported. IfSome input (λ text. read_lines takes 1 start (lines_of text) ≡ Err reported))
on_stop takes start input old new line r (refusal.Text reported) before unfed ends stop = on_reported takes start input old new line r reported before unfed ends stop
on_stop takes start input old new line r refusal.NoMemory before unfed ends stop = tt

-- behind the most lines there is none that is taken
pub on_past_last : {S : Type 0} (takes : S → Data → Result S TextCause) (start : S) (input old : Option (List ℕ)) (r : SoFar S) (reported : TextFault)
    → IsReadOn takes start input old r → r.lines ≡ most_lines → reported ≡ record { line = 4194305; cause = Lines } → IfSome old (λ bytes. 0 < length bytes)
    → IfSome input (λ text. read_lines takes 1 start (lines_of text) ≡ Err reported)
unfolding IsReadOn
on_past_last takes start None old r reported before all is more = tt
on_past_last takes start (Some text) None r reported before all is more = absurd before
on_past_last takes start (Some text) (Some ys) r reported before all is more =
    read_past_last takes start text ys r.state (subst (λ n. IsReadUpTo takes start text ys n r.state) all before.0) more ∙ ap (λ f. Err f) (sym is)

-- ---- where it stops

-- Some bytes of the next line were taken, and none past the most lines; behind them stands what the last read brought.
pub on_stopped : {S : Type 0} (takes : S → Data → Result S TextCause) (start : S) (input old rest : Option (List ℕ)) (at_hand bytes : List ℕ) (r : SoFar S)
    → IsReadOn takes start input old r → Consumes old (prepend_known at_hand rest) bytes → AreOfOneLine bytes → length bytes ≤ most_held
    → (bytes ≡ []) ⊎ (r.lines < most_lines) → length at_hand ≤ most_brought
    → IsTakenFor (λ text. read_lines takes 1 start (lines_of text)) input rest
unfolding IsReadOn
on_stopped takes start None old rest at_hand bytes r before took of_line short more brought = tt
on_stopped takes start (Some text) None rest at_hand bytes r before took of_line short more brought = absurd before
on_stopped takes start (Some text) (Some ys) None at_hand bytes r before took of_line short more brought = absurd took
on_stopped {S} takes start (Some text) (Some ys) (Some zs) at_hand bytes r before took of_line short more brought =
    let few = read_few takes start text ys r.lines r.state before.0 in
    let stop = front_stops text ys bytes at_hand zs r.lines before.1 few of_line short more brought took in
    (stop.0, stop.1, by_read (read_lines takes 1 start (lines_of text)) stop.0 stop.2 (read_later takes start text ys r.lines r.state before.0))
  where
    by_read : (o : Result S TextFault) (number : ℕ) → number ≤ r.lines + 1 → IfErr o (λ reported. suc r.lines ≤ reported.line) → IfErr o (λ reported. number ≤ reported.line)
    by_read (Ok s) number least later = tt
    by_read (Err reported) number least later = omega (arith, least, later)

-- nothing of the next line was taken
pub on_kept : {S : Type 0} (takes : S → Data → Result S TextCause) (start : S) (input old rest : Option (List ℕ)) (at_hand : List ℕ) (r : SoFar S)
    → IsReadOn takes start input old r → Keeps old (prepend_known at_hand rest) → length at_hand ≤ most_brought
    → IsTakenFor (λ text. read_lines takes 1 start (lines_of text)) input rest
on_kept takes start input old rest at_hand r before kept brought =
    on_stopped takes start input old rest at_hand [] r before (Consumes-kept old old (prepend_known at_hand rest) [] (Consumes-nil old) kept) (inl refl) (omega arith)
    (inl refl) brought

-- the next line was taken
pub on_line : {S : Type 0} (takes : S → Data → Result S TextCause) (start : S) (input old rest : Option (List ℕ)) (at_hand line : List ℕ) (r : SoFar S)
    → IsReadOn takes start input old r → EndsLine old (prepend_known at_hand rest) line → HasNoLineFeed line → length line ≤ most_held → r.lines < most_lines
    → length at_hand ≤ most_brought → IsTakenFor (λ text. read_lines takes 1 start (lines_of text)) input rest
on_line takes start input old rest at_hand line r before (inl (took, short)) unfed few more brought =
    on_stopped takes start input old rest at_hand (line ++ 10 ∷ []) r before took (inr (line, refl, unfed)) (omega (arith, short, length-append line (10 ∷ [])))
    (inr more) brought
on_line takes start input old rest at_hand line r before (inr (took, how)) unfed few more brought =
    on_stopped takes start input old rest at_hand line r before took (inl unfed) few (inr more) brought

-- a reader that nobody asked
pub none_taken : {S : Type 0} (takes : S → Data → Result S TextCause) (start : S) (input : Option (List ℕ))
    → IsTakenFor (λ text. read_lines takes 1 start (lines_of text)) input input
none_taken takes start input =
    on_kept takes start input input input [] (so_far start 0) (on_none takes start input) (subst (Keeps input) (sym (prepend_known-nil input)) (Keeps-refl input)) (omega arith)

-- at the end nothing is left
pub on_end : {S : Type 0} (takes : S → Data → Result S TextCause) (start : S) (input old rest : Option (List ℕ)) (at_hand : List ℕ) (r : SoFar S)
    → IsReadOn takes start input old r → IsAtEnd old → Keeps old (prepend_known at_hand rest) → OnSome input (IsAtEnd rest)
unfolding IsReadOn
on_end takes start None old rest at_hand r before end kept = tt
on_end takes start (Some text) None rest at_hand r before end kept = absurd before
on_end takes start (Some text) (Some ys) None at_hand r before end kept = absurd kept
on_end takes start (Some text) (Some ys) (Some zs) at_hand r before end kept = no_rest at_hand zs (kept ∙ end)
