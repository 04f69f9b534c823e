-- The first line of a text.
use Rattle.std.proofs.Common.{Bool, List, [], add-one, ap, arith, drop, false, get_or, length, length-drop, refl, suc, sym, take, true, zero, ℕ, ◌+◌, ◌<◌, ◌∙◌, ◌∷◌, ◌≡◌}
use Rattle.std.specs.Prelude.{◌≤◌, ◌==◌, ◌-◌, if◌then◌else◌}
use Rattle.std.proofs.lemmas.Bool.{false_from_ne_true, or_from}
use Rattle.std.proofs.lemmas.List.{take_all}
use Rattle.std.proofs.Math.Seq.{drop-length}
use Rattle.memchr.specs.Find.{NoneBefore, Nowhere, Passes, is_byte}
use Rattle.api_lines.specs.Lines.{HasNoLineFeed, has_line_feed, lines_of, onto_first}

-- where there is a line feed, and none before it
pub lines_of-feed : (text : List ℕ) (i : ℕ) → i < length text → (get_or text i 0 == 10) ≡ true
    → ((k : ℕ) → k < i → (get_or text k 0 == 10) ≡ false) → lines_of text ≡ take i text ∷ lines_of (drop (suc i) text)
lines_of-feed [] i h feed none = absurd (omega arith)
lines_of-feed (b ∷ bytes) zero h feed none = ap (λ (t : Bool). if t then [] ∷ lines_of bytes else onto_first b (lines_of bytes)) feed
lines_of-feed (b ∷ bytes) (suc i) h feed none =
    ap (λ (t : Bool). if t then [] ∷ lines_of bytes else onto_first b (lines_of bytes)) (none 0 (omega arith))
    ∙ ap (onto_first b) (lines_of-feed bytes i (omega arith) feed (λ k below. none (suc k) (omega arith)))

-- where there is no line feed
pub lines_of-rest : (text : List ℕ) → 0 < length text → ((k : ℕ) → k < length text → (get_or text k 0 == 10) ≡ false) → lines_of text ≡ text ∷ []
lines_of-rest [] h none = absurd (omega arith)
lines_of-rest (b ∷ []) h none = ap (λ (t : Bool). if t then [] ∷ [] else (b ∷ []) ∷ []) (none 0 (omega arith))
lines_of-rest (b ∷ c ∷ bytes) h none =
    ap (λ (t : Bool). if t then [] ∷ lines_of (c ∷ bytes) else onto_first b (lines_of (c ∷ bytes))) (none 0 (omega arith))
    ∙ ap (onto_first b) (lines_of-rest (c ∷ bytes) (omega arith) (λ k below. none (suc k) (omega arith)))

-- a slice to the end
rest_of : (text : List ℕ) (i : ℕ) → take (length text - i) (drop i text) ≡ drop i text
rest_of text i = take_all (length text - i) (drop i text) (omega (arith, length-drop i text))

-- what the search for a line feed finds
pub first_line_found : (text : List ℕ) (end : ℕ) → NoneBefore (Passes (is_byte 10) text) 0 (length text) end × Passes (is_byte 10) text end
    → lines_of text ≡ take end text ∷ lines_of (take (length text - (end + 1)) (drop (end + 1) text))
first_line_found text end found =
    lines_of-feed text end found.0.high found.1 (λ k below. false_from_ne_true (get_or text k 0 == 10) (found.0.before k (omega arith) below))
    ∙ ap (λ rest. take end text ∷ lines_of rest) (ap (λ i. drop i text) (sym (add-one end)) ∙ sym (rest_of text (end + 1)))

pub first_line_missing : (text : List ℕ) → 0 < length text → Nowhere (Passes (is_byte 10) text) 0 (length text)
    → lines_of text ≡ text ∷ lines_of (take (length text - length text) (drop (length text) text))
first_line_missing text h none =
    lines_of-rest text h (λ k below. false_from_ne_true (get_or text k 0 == 10) (none k (omega arith) below))
    ∙ ap (λ rest. text ∷ lines_of rest) (sym (rest_of text (length text) ∙ drop-length text))

-- none before a place is a line feed
pub front_without : (text : List ℕ) (i : ℕ) → i ≤ length text → ((k : ℕ) → k < i → (get_or text k 0 == 10) ≡ false) → HasNoLineFeed (take i text)
front_without text zero h none = refl
front_without [] (suc i) h none = refl
front_without (b ∷ bytes) (suc i) h none =
    or_from (b == 10) (has_line_feed (take i bytes)) (none 0 (omega arith)) (front_without bytes i (omega arith) (λ k below. none (suc k) (omega arith)))

pub first_line_feedless : (text : List ℕ) (end : ℕ) → NoneBefore (Passes (is_byte 10) text) 0 (length text) end × Passes (is_byte 10) text end → HasNoLineFeed (take end text)
first_line_feedless text end found =
    front_without text end (omega (arith, found.0.high)) (λ k below. false_from_ne_true (get_or text k 0 == 10) (found.0.before k (omega arith) below))

pub last_line_feedless : (text : List ℕ) → Nowhere (Passes (is_byte 10) text) 0 (length text) → HasNoLineFeed text
last_line_feedless text none =
    ap has_line_feed (sym (take_all (length text) text (omega arith)))
    ∙ front_without text (length text) (omega arith) (λ k below. false_from_ne_true (get_or text k 0 == 10) (none k (omega arith) below))
