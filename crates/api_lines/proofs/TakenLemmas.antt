-- What was taken of a text: the lines up to what is left, and where it stopped.
use Rattle.std.proofs.Common.{ℕ, ◌≡◌, ◌<◌, ◌≤◌, ◌+◌, List, [], ◌∷◌, ◌++◌, length, length-append, refl, sym, ap, ◌∙◌, arith, append_assoc, append-nil, ◌⊎◌, inl, inr}
use Rattle.std.specs.Prelude.{◌*◌}
use Rattle.api_lines.specs.Lines.{AreWholeLines, HasNoLineFeed, lines_of, longest_line, most_lines}
use Rattle.api_lines.specs.Sources.{AreOfOneLine, IsTakenUpTo, most_brought, most_held}
use Rattle.api_lines.proofs.LineByLine.{lines_after}
use Rattle.api_lines.proofs.WrittenLines.{one_line}

-- the text up to the rest is of whole lines, so many, each within the limit
pub record AreLines (text rest : List ℕ) (n : ℕ) : Type 0 where
  pub before : List ℕ
  pub split : text ≡ before ++ rest
  pub whole : AreWholeLines before
  pub count : length (lines_of before) ≡ n
  pub few : length before ≤ n * most_held

-- the whole text is so many lines, each within the limit, the last one without a line feed
pub record AreAllLines (text rest : List ℕ) (n : ℕ) : Type 0 where
  pub before : List ℕ
  pub line : List ℕ
  pub split : text ≡ before ++ line
  pub whole : AreWholeLines before
  pub count : length (lines_of before) + 1 ≡ n
  pub unfed : HasNoLineFeed line
  pub short : length line ≤ longest_line
  pub few : length before + length line ≤ n * most_held
  pub none : rest ≡ []

-- so many lines were taken, each within the limit
pub IsFront : List ℕ → List ℕ → ℕ → Type 0
IsFront text rest n = AreLines text rest n ⊎ AreAllLines text rest n

pub front_none : (text : List ℕ) → IsFront text text 0
unfolding IsFront
front_none text = inl (record { before = []; split = refl; whole = inl refl; count = refl; few = omega arith })

-- a list of no items before another
no_front : (front rest : List ℕ) → front ++ rest ≡ [] → length front ≡ 0
no_front [] rest none = refl
no_front (b ∷ front) rest none = absurd (omega (arith, ap length none))

pub no_rest : (front rest : List ℕ) → front ++ rest ≡ [] → rest ≡ []
no_rest [] rest none = none
no_rest (b ∷ front) rest none = absurd (omega (arith, ap length none))

-- one line more, with its line feed
pub front_more : (text rest after line : List ℕ) (n : ℕ) → IsFront text rest n → HasNoLineFeed line → length line ≤ longest_line
    → rest ≡ (line ++ 10 ∷ []) ++ after → IsFront text after (n + 1)
unfolding IsFront
front_more text rest after line n (inl lines) unfed short took = inl (record {
  before = lines.before ++ (line ++ 10 ∷ []);
  split = lines.split ∙ (ap (λ l. lines.before ++ l) took ∙ sym (append_assoc lines.before (line ++ 10 ∷ []) after));
  whole = inr (lines.before ++ line, sym (append_assoc lines.before line (10 ∷ [])));
  count =
      ap length (lines_after lines.before (line ++ 10 ∷ []) lines.whole ∙ ap (λ ls. lines_of lines.before ++ ls) (one_line line [] unfed))
      ∙ (length-append (lines_of lines.before) (line ∷ []) ∙ ap (λ k. k + 1) lines.count);
  few = omega (arith, lines.few, short, length-append lines.before (line ++ 10 ∷ []), length-append line (10 ∷ []));
})
front_more text rest after line n (inr all) unfed short took =
    absurd (omega (arith, no_front (line ++ 10 ∷ []) after (sym took ∙ all.none), length-append line (10 ∷ [])))

-- the last line, which has no line feed
pub front_last : (text rest after line : List ℕ) (n : ℕ) → IsFront text rest n → HasNoLineFeed line → length line ≤ longest_line
    → rest ≡ line ++ after → after ≡ [] → 0 < length line → IsFront text after (n + 1)
unfolding IsFront
front_last text rest after line n (inl lines) unfed short took end some = inr (record {
  before = lines.before;
  line = line;
  split = lines.split ∙ ap (λ l. lines.before ++ l) (took ∙ (ap (λ l. line ++ l) end ∙ append-nil line));
  whole = lines.whole;
  count = ap (λ k. k + 1) lines.count;
  unfed = unfed;
  short = short;
  few = omega (arith, lines.few, short);
  none = end;
})
front_last text rest after line n (inr all) unfed short took end some = absurd (omega (arith, some, no_front line after (sym took ∙ all.none)))

-- Here it stops: some bytes of the next line were taken, and none past the most lines; behind them stands what the last read
-- brought.
pub front_stops : (text old bytes at_hand rest : List ℕ) (n : ℕ) → IsFront text old n → n ≤ most_lines → AreOfOneLine bytes → length bytes ≤ most_held
    → (bytes ≡ []) ⊎ (n < most_lines) → length at_hand ≤ most_brought → old ≡ bytes ++ (at_hand ++ rest)
    → (number : ℕ) × IsTakenUpTo number text rest × (number ≤ n + 1)
unfolding IsFront
front_stops text old bytes at_hand rest n (inl lines) within of_line short more brought took = (
  n + 1,
  record {
    before = lines.before;
    line = bytes;
    brought = at_hand;
    split = lines.split ∙ ap (λ l. lines.before ++ l) took;
    whole = lines.whole;
    count = ap (λ k. k + 1) lines.count;
    of_line = of_line;
    short = short;
    few = small more;
    few_lines = omega (arith, within);
    none_past = past more;
    brought_at_once = brought;
  },
  omega arith,
) where
  small : (bytes ≡ []) ⊎ (n < most_lines) → length lines.before + length bytes ≤ most_lines * most_held
  small (inl none) = let empty : length bytes ≡ 0 = ap length none in omega (arith, lines.few, within, empty)
  small (inr below) = omega (arith, lines.few, below, short)

  past : (bytes ≡ []) ⊎ (n < most_lines) → n + 1 ≡ most_lines + 1 → bytes ≡ []
  past (inl none) all = none
  past (inr below) all = absurd (omega (arith, below, all))
front_stops text old bytes at_hand rest n (inr all) within of_line short more brought took =
    let nothing : at_hand ++ rest ≡ [] = no_rest bytes (at_hand ++ rest) (sym took ∙ all.none) in (
      n,
      record {
        before = all.before;
        line = all.line;
        brought = at_hand;
        split = all.split ∙ ap (λ l. all.before ++ l) (sym (ap (λ l. all.line ++ l) nothing ∙ append-nil all.line));
        whole = all.whole;
        count = all.count;
        of_line = inl all.unfed;
        short = omega (arith, all.short);
        few = omega (arith, all.few, within);
        few_lines = omega (arith, within);
        none_past = λ past. absurd (omega (arith, within, past));
        brought_at_once = brought;
      },
      omega arith,
    )
