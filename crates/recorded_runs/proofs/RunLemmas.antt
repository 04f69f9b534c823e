-- The setting of a run, and its recording.
use Rattle.std.proofs.Common.{◌≡◌, ℕ, ◌<◌, Err, Ok, Result, true, arith, inl, inr, refl, sym}
use Rattle.std.specs.Prelude.{◌↔◌, ◌⊎◌}
use Rattle.std.proofs.lemmas.Bool.Decides.{nat_tests}
use Rattle.repl_group.specs.declared.fault.CoreFault.{CoreFault}
use Rattle.repl_group.specs.declared.fault.CoreFault.TheVariants as core
use Rattle.recorded_runs.specs.Runs.{are_refused}
use Rattle.recorded_runs.specs.aids.Recorded.{reports_copies}
use Rattle.std.proofs.lemmas.Bool.{false_from_ne_true}

refused_if : (copies : ℕ) → (copies ≡ 0) ⊎ (5 < copies) → are_refused copies ≡ true
refused_if copies (inl none) = grind (arith, nat_tests)
refused_if copies (inr many) = grind (arith, nat_tests)

refused_so : (copies : ℕ) → are_refused copies ≡ true → (copies ≡ 0) ⊎ (5 < copies)
refused_so copies here = grind (arith, nat_tests)

-- that the number of copies is refused is reported just where it is
pub copies_reported : {X : Type 0} (reported : Result X CoreFault) (copies : ℕ) → (reported ≡ Err core.Copies) ↔ ((copies ≡ 0) ⊎ (5 < copies))
    → reports_copies reported ≡ are_refused copies
copies_reported (Ok x) copies just =
    sym (false_from_ne_true (are_refused copies) (λ here. let e : Ok x ≡ Err core.Copies = just.1 (refused_so copies here) in cc))
copies_reported (Err core.Copies) copies just = sym (refused_if copies (just.0 refl))
copies_reported (Err core.NoMemory) copies just =
    sym (false_from_ne_true (are_refused copies) (λ here. let e : Err core.NoMemory ≡ Err core.Copies = just.1 (refused_so copies here) in cc))
