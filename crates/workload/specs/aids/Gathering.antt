-- The results of all clients.
use Rattle.std.specs.Prelude.{◌≡◌, ℕ, ◌<◌, ◌⊎◌, List, Some, Result, Ok, Err, slice_get}
use Rattle.workload.specs.declared.run_fault.RunFault.{RunFault}
use Rattle.workload.specs.declared.run_fault.RunFault.TheVariants.{NoMemory}

-- the fault of the client with the least number that met one, or that memory was refused
abbrev pub IsFaultOf : {P : Type 0} → List (Result P RunFault) → RunFault → Type 0
IsFaultOf {P} results fault =
    (fault ≡ NoMemory)
    ⊎ ((i : ℕ) × (slice_get results i ≡ Some (Err fault)) × ((j : ℕ) → j < i → (p : P) × (slice_get results j ≡ Some (Ok p))))
