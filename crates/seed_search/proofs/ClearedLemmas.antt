-- Seeds whose runs are explained, one by one.
use Rattle.std.proofs.Common.{ℕ, ◌+◌, ◌<◌, ◌≤◌, ◌≡◌, ◌⊎◌, List, arith, inl, inr, subst}
use Rattle.std.proofs.lemmas.Bool.{cases_lt}
use Rattle.doc_register.specs.declared.op.Op.{Op}
use Rattle.disturbances.specs.declared.disturbance.Disturbance.{Disturbance}
use Rattle.recorded_runs.specs.declared.run_setting.RunSetting.{RunSetting}
use Rattle.workload.specs.declared.target.Progress.{Progress}
use Rattle.workload.specs.declared.target.Ticket.{Ticket}
use Rattle.seed_search.specs.Found.{AreCleared, IsCleared, with_seed}

module _ (issued : Ticket → List ℕ → Op → Type 0) (gave : Ticket → Progress → Type 0) (disturbance : Disturbance) (setting : RunSetting) (first : ℕ) where
  -- before the first one there is none
  pub none_cleared : AreCleared issued gave disturbance setting first first
  none_cleared seed from before = absurd (omega (arith, from, before))

  -- one seed more
  pub cleared_more : (end : ℕ) → AreCleared issued gave disturbance setting first end → IsCleared issued gave disturbance (with_seed setting end) → AreCleared issued gave disturbance setting first (end + 1)
  cleared_more end so_far own seed from before = by_place (cases_lt seed end) where
    by_place : ((seed < end) ⊎ (end ≤ seed)) → IsCleared issued gave disturbance (with_seed setting seed)
    by_place (inl earlier) = so_far seed from earlier
    by_place (inr not) = let same : end ≡ seed = omega (arith, before, not) in subst (λ n. IsCleared issued gave disturbance (with_seed setting n)) same own

  -- fewer seeds
  pub cleared_fewer : (end fewer : ℕ) → fewer ≤ end → AreCleared issued gave disturbance setting first end → AreCleared issued gave disturbance setting first fewer
  cleared_fewer end fewer within so_far seed from before = so_far seed from (omega (arith, within, before))
