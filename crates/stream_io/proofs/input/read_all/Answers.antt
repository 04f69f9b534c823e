use Rattle.std.proofs.Common.{Err, List, Ok, Option, Result, ℕ}
use Rattle.std.specs.Prelude.{OnErr}
use Rattle.std.specs.Io.KnownBytes.{Consumes}
use Rattle.std.proofs.KnownBytes.{Consumes-trans}
use Rattle.stream_io.proofs.input.read_all.Goals as goal

-- a front is taken, whatever is answered
some_front : {A E : Type 0} (r : Result A E) (old new : Option (List ℕ)) (front : List ℕ) → Consumes old new front
    → OnErr r ((front : List ℕ) × Consumes old new front)
some_front (Ok x) old new front taken = tt
some_front (Err fault) old new front taken = (front, taken)

pub returns-in_err-extend_from_slice-in-Ok-clause-left :
    goal.returns-in_err-extend_from_slice-in-Ok-clause-left
returns-in_err-extend_from_slice-in-Ok-clause-left g c =
    some_front _ _ _ _ (Consumes-trans _ _ _ _ _ c.loop-bytes.invariant c.in-Ok.ensures.bytes.0)
