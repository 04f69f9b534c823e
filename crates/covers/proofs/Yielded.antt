-- A loop over the elements of a list: those that were given so far, and those that are left.
use Rattle.std.proofs.Common.{arith, ◌≡◌, ◌∙◌, ◌++◌, ◌∷◌, [], List, length, ap, sym}
use Rattle.std.proofs.lemmas.List.{append_assoc, append-nil}

-- one more is given
pub next_given : {X : Type 0} (done left rest all : List X) (x : X) → left ≡ x ∷ rest → done ++ left ≡ all → done ++ x ∷ [] ++ rest ≡ all
next_given done left rest all x is so_far = append_assoc done (x ∷ []) rest ∙ (ap (λ xs. done ++ xs) (sym is) ∙ so_far)

-- where nothing is left, all are given
pub all_given : {X : Type 0} (done left all : List X) → length left ≡ 0 → done ++ left ≡ all → done ≡ all
all_given done [] all none so_far = sym (append-nil done) ∙ so_far
all_given done (x ∷ xs) all none so_far = absurd (omega arith)
