use Rattle.std.proofs.Common.{◌<◌, List, ℕ}
use Rattle.events.specs.Events.{PassesAt, is_call_of}
use Rattle.evidence.specs.Evidence.{IsRemover}
use Rattle.evidence.proofs.holding.is_without_remover.Given as goal

abbrev pub invariant-loop-place : goal.invariant-loop-place
invariant-loop-place l = (d : List ℕ) → PassesAt (is_call_of d) l.history l.get.called → (j : ℕ) → j < l.place
    → ¬ IsRemover l.conflicts l.history d l.get.replied l.pair j
