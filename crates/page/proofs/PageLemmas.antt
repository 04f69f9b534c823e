-- Texts in a page.
use Rattle.std.proofs.Common.{ℕ, ◌<◌, Bool, true, false, ◌≡◌, ◌==◌, List, [], ◌∷◌, ◌++◌, codes, refl, sym, subst, inl, inr, arith}
use Rattle.std.specs.Prelude.{if◌then◌else◌}
use Rattle.std.proofs.lemmas.Bool.{eqb-false}
use Rattle.std.proofs.lemmas.List.Concat.{flat_map-cons}
use Rattle.page.specs.Pages.{EndsEntity, EscapedTextsAreInert, IsInert, escaped, escaped_byte}

-- ---- the bytes of entities

small_letter : (b : ℕ) (rest : List ℕ) → 62 < b → IsInert rest → IsInert (b ∷ rest)
small_letter b rest above after =
    ((λ e. omega arith), (λ e. omega arith), (λ e. omega arith), (λ e. absurd (omega arith)), after)

semicolon : (rest : List ℕ) → IsInert rest → IsInert (59 ∷ rest)
semicolon rest after =
    ((λ e. omega arith), (λ e. omega arith), (λ e. omega arith), (λ e. absurd (omega arith)), after)

entity : (rest : List ℕ) → EndsEntity rest → IsInert rest → IsInert (38 ∷ rest)
entity rest ends after = ((λ e. omega arith), (λ e. omega arith), (λ e. omega arith), (λ _. ends), after)

-- ---- a byte before an inert text

before : (b : ℕ) (rest : List ℕ) → IsInert rest → (less greater ampersand quote : Bool) → (b == 60) ≡ less → (b == 62) ≡ greater → (b == 38) ≡ ampersand → (b == 34) ≡ quote
    → IsInert ((if less then codes "&lt;" else (if greater then codes "&gt;" else (if ampersand then codes "&amp;" else (if quote then codes "&quot;" else b ∷ [])))) ++ rest)
before b rest after true g a q is_l is_g is_a is_q =
    entity (codes "lt;" ++ rest) (rest, inl refl) (small_letter 108 (116 ∷ 59 ∷ rest) (omega arith) (small_letter 116 (59 ∷ rest) (omega arith) (semicolon rest after)))
before b rest after false true a q is_l is_g is_a is_q =
    entity (codes "gt;" ++ rest) (rest, inr (inl refl)) (small_letter 103 (116 ∷ 59 ∷ rest) (omega arith) (small_letter 116 (59 ∷ rest) (omega arith) (semicolon rest after)))
before b rest after false false true q is_l is_g is_a is_q =
    entity (codes "amp;" ++ rest) (rest, inr (inr (inl refl))) (small_letter 97 (109 ∷ 112 ∷ 59 ∷ rest) (omega arith)
    (small_letter 109 (112 ∷ 59 ∷ rest) (omega arith) (small_letter 112 (59 ∷ rest) (omega arith) (semicolon rest after))))
before b rest after false false false true is_l is_g is_a is_q =
    entity (codes "quot;" ++ rest) (rest, inr (inr (inr refl))) (small_letter 113 (117 ∷ 111 ∷ 116 ∷ 59 ∷ rest) (omega arith)
    (small_letter 117 (111 ∷ 116 ∷ 59 ∷ rest) (omega arith) (small_letter 111 (116 ∷ 59 ∷ rest) (omega arith) (small_letter 116 (59 ∷ rest) (omega arith) (semicolon rest after)))))
before b rest after false false false false is_l is_g is_a is_q =
    (eqb-false b 60 is_l, eqb-false b 62 is_g, eqb-false b 34 is_q, (λ e. absurd (eqb-false b 38 is_a e)), after)

pub escaped_are_inert : EscapedTextsAreInert
escaped_are_inert [] = tt
escaped_are_inert (b ∷ rest) =
    subst IsInert (sym (flat_map-cons escaped_byte b rest))
    (before b (escaped rest) (escaped_are_inert rest) (b == 60) (b == 62) (b == 38) (b == 34) refl refl refl refl)
