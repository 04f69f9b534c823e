-- What closing a recorder reports.
use Rattle.std.specs.Prelude.{Bool, List, Result, Ok, Err}
use Rattle.std.specs.List.{list_any}
use Rattle.recorder.specs.Pens.{PenState}
use Rattle.recorder.specs.declared.fault.CloseFault.{CloseFault}
use Rattle.recorder.specs.declared.fault.CloseFault.TheVariants.{PenMissing, Mismatch, NoMemory}

-- a recording through one of the pens reported that the recording is full
abbrev pub has_full : List PenState → Bool
has_full pens = list_any (λ pen. pen.is_full) pens

-- the answer is that pens are missing
abbrev pub IsPenMissing : {X R P : Type 0} → Result X (CloseFault R P) → Type 0
IsPenMissing (Ok x) = ⊥
IsPenMissing (Err (PenMissing r pens)) = Unit {0}
IsPenMissing (Err Mismatch) = ⊥
IsPenMissing (Err NoMemory) = ⊥
