-- An answer that was written, or a front of it.
use Rattle.std.proofs.Common.{ℕ, ◌≡◌, ◌++◌, List, [], take, ap, ◌∙◌, sym, subst, Option, Result, Ok, Err}
use Rattle.std.proofs.lemmas.List.{append-nil}
use Rattle.std.specs.Prelude.{IfOk, IsErrOf, MatchResult}
use Rattle.std.specs.Io.KnownBytes.{Appends}
use Rattle.stream_io.specs.Written.{HasAnswer, HasPrefix}
use Rattle.stream_io.specs.declared.status.Status.{Status}
use Rattle.stream_io.specs.declared.stream_fault.StreamFault.{StreamFault}
use Rattle.stream_io.specs.declared.stream_fault.StreamFault.TheVariants.{Write}

pub wrote : (r : Result Status StreamFault) (P : Status → List ℕ → Type 0) (old new : Option (List ℕ)) (status : Status) (text : List ℕ)
    → MatchResult r (λ s. (s ≡ status) × Appends old new text) (λ f. (f ≡ Write) × ((n : ℕ) × Appends old new (take n text))) → P status text
    → IfOk r (λ s. HasAnswer (P s) old new)
wrote (Ok s) P old new status text written is = (text, written.1, subst (λ k. P k text) (sym written.0) is)
wrote (Err f) P old new status text written is = tt

pub wrote_front : (r : Result Status StreamFault) (P : Status → List ℕ → Type 0) (old new : Option (List ℕ)) (status : Status) (text : List ℕ)
    → MatchResult r (λ s. (s ≡ status) × Appends old new text) (λ f. (f ≡ Write) × ((n : ℕ) × Appends old new (take n text))) → P status text
    → IsErrOf r Write → HasPrefix P old new
wrote_front (Ok s) P old new status text written is cut = let impossible : Ok s ≡ Err Write = cut in absurd (cc)
wrote_front (Err f) P old new status text written is cut = (status, text, written.1.0, written.1.1, is)

-- a text that nothing follows
pub nothing_follows : (text more : List ℕ) → more ≡ [] → text ++ more ≡ text
nothing_follows text more none = ap (λ xs. text ++ xs) none ∙ append-nil text
