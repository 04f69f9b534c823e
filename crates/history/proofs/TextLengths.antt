-- A text is not longer than its lines allow.
use Rattle.std.proofs.Common.{ℕ, suc, ◌≤◌, ◌<◌, ◌+◌, ◌*◌, List, [], ◌∷◌, length, arith, Bool, true, false}
use Rattle.std.specs.Prelude.{◌==◌, if◌then◌else◌, slice_index_or}
use Rattle.api_lines.specs.Lines.{lines_of, longest_line, onto_first}

line_bytes : List (List ℕ) → ℕ
line_bytes [] = 0
line_bytes (l ∷ ls) = length l + 1 + line_bytes ls

onto_bytes : (b : ℕ) (ls : List (List ℕ)) → line_bytes ls + 1 ≤ line_bytes (onto_first b ls) + 0
unfolding line_bytes
onto_bytes b [] = omega arith
onto_bytes b (l ∷ ls) = omega arith

text_bytes : (text : List ℕ) → length text ≤ line_bytes (lines_of text)
unfolding line_bytes
text_bytes [] = omega arith
text_bytes (b ∷ bytes) = by_test (b == 10) (text_bytes bytes) where
  by_test : (t : Bool) → length bytes ≤ line_bytes (lines_of bytes) → suc (length bytes) ≤ line_bytes (if t then [] ∷ lines_of bytes else onto_first b (lines_of bytes))
  by_test true h = omega arith
  by_test false h = omega (arith, onto_bytes b (lines_of bytes))

few_bytes : (ls : List (List ℕ)) → ((k : ℕ) (d : List ℕ) → k < length ls → length (slice_index_or ls k d) ≤ longest_line) → line_bytes ls ≤ length ls * 65537
unfolding line_bytes
few_bytes [] h = omega arith
few_bytes (l ∷ ls) h =
    let first : length l ≤ 65536 = h 0 [] (omega arith) in
    let later : line_bytes ls ≤ length ls * 65537 = few_bytes ls (λ k d below. h (suc k) d (omega arith)) in omega arith
