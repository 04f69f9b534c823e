-- What a history answers to an event that it doesn't refuse.
use Rattle.std.proofs.Common.{◌≡◌, Result, Ok, Err, IfErr, ◌∙◌}
use Rattle.events.specs.declared.fault.HistFault.{HistFault}

-- what is true of the one fault is true of the fault that is reported
pub reported_fault : {X : Type 0} (r : Result X HistFault) (e f : HistFault) → e ≡ f → IfErr r (λ fault. fault ≡ e) → IfErr r (λ fault. fault ≡ f)
reported_fault (Ok x) e f same reported = tt
reported_fault (Err g) e f same reported = reported ∙ same
