-- Bytes that are written piece by piece.
use Rattle.std.proofs.Common.{List, None, Option, Some, [], ap, append-nil, append_assoc, arith, drop, length, length-drop, refl, subst, sym, take, take-append-drop, ℕ, ◌++◌, ◌∙◌, ◌∷◌, ◌≡◌}
use Rattle.std.specs.Prelude.{◌-◌}
use Rattle.std.specs.Io.KnownBytes.{Appends, Keeps}
use Rattle.std.proofs.KnownBytes.{Appends-nil, Appends-trans}
use Rattle.std.proofs.Math.Seq.{take-append_seam}
use Rattle.std.proofs.lemmas.List.{take_all}

-- what a failed write leaves
pub kept_appends : (mid new : Option (List ℕ)) → Keeps mid new → Appends mid new []
kept_appends None new k = tt
kept_appends (Some ys) None k = absurd k
kept_appends (Some ys) (Some zs) k = k ∙ sym (append-nil ys)

-- a front of a text is written, and the rest is left
pub HasWritten : Option (List ℕ) → Option (List ℕ) → List ℕ → List ℕ → Type 0
HasWritten old new text rest = (n : ℕ) × (text ≡ take n text ++ rest) × Appends old new (take n text)

pub written_none : (old : Option (List ℕ)) (text : List ℕ) → HasWritten old old text text
unfolding HasWritten
written_none old text = (0, refl, Appends-nil old)

-- some text that is a front with more behind it
written_front : (old new : Option (List ℕ)) (text front rest : List ℕ) → text ≡ front ++ rest → Appends old new front → HasWritten old new text rest
unfolding HasWritten
written_front old new text front rest split appends =
    let same : take (length front) text ≡ front = ap (take (length front)) split ∙ take-append_seam front rest in
    (length front, split ∙ ap (λ xs. xs ++ rest) (sym same), subst (Appends old new) (sym same) appends)

pub written_more : (old mid new : Option (List ℕ)) (text rest : List ℕ) (n : ℕ) → HasWritten old mid text rest → Appends mid new (take n rest)
    → HasWritten old new text (drop n rest)
unfolding HasWritten
written_more old mid new text rest n (k, split, wrote) more =
    written_front old new text (take k text ++ take n rest) (drop n rest)
    (split ∙ (ap (λ xs. take k text ++ xs) (sym (take-append-drop n rest)) ∙ sym (append_assoc (take k text) (take n rest) (drop n rest))))
    (Appends-trans old mid new (take k text) (take n rest) wrote more)

pub written_still : (old mid new : Option (List ℕ)) (text rest : List ℕ) → HasWritten old mid text rest → Appends mid new [] → HasWritten old new text rest
unfolding HasWritten
written_still old mid new text rest (k, split, wrote) none =
    (k, split, subst (Appends old new) (append-nil (take k text)) (Appends-trans old mid new (take k text) [] wrote none))

pub written_part : (old new : Option (List ℕ)) (text rest : List ℕ) → HasWritten old new text rest → (n : ℕ) × Appends old new (take n text)
unfolding HasWritten
written_part old new text rest (k, split, wrote) = (k, wrote)

pub written_all : (old new : Option (List ℕ)) (text rest : List ℕ) → HasWritten old new text rest → length rest ≡ 0 → Appends old new text
unfolding HasWritten
written_all old new text [] (k, split, wrote) empty = subst (Appends old new) (sym (split ∙ append-nil (take k text))) wrote
written_all old new text (b ∷ rest) w empty = absurd (omega arith)

-- the rest of a slice
pub slice_rest : (n : ℕ) (xs : List ℕ) → take (length xs - n) (drop n xs) ≡ drop n xs
slice_rest n xs = take_all (length xs - n) (drop n xs) (omega (arith, length-drop n xs))
