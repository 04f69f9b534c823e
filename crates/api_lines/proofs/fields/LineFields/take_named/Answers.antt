use Rattle.std.proofs.Common.{◌≡◌, ◌≢◌, List, ℕ, false}
use Rattle.std.specs.Str.{bytes_eq}
use Rattle.std.proofs.lemmas.Bool.{false_from_ne_true}
use Rattle.std.proofs.lemmas.Slice.Eq.{bytes_eq-Decides}
use Rattle.api_lines.proofs.fields.LineFields.take_named.Goals as goal

differ : (a b : List ℕ) → a ≢ b → bytes_eq a b ≡ false
differ a b other = false_from_ne_true (bytes_eq a b) (λ same. other ((bytes_eq-Decides a b).0 same))

pub returns-in_default-clause-read : goal.returns-in_default-clause-read
returns-in_default-clause-read g c =
    let no = c.in_default in
    rw (differ _ _ no.not-body, differ _ _ no.not-e, differ _ _ no.not-n, differ _ _ no.not-id, differ _ _ no.not-op, differ _ _ no.not-k) c.take_rare.ensures.read
