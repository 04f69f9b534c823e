use Rattle.compose.proofs.CertaintyLemmas.{AreCompleteBefore}
use Rattle.compose.proofs.certainty.is_complete_history.Given as goal

abbrev pub invariant-loop-place : goal.invariant-loop-place
invariant-loop-place l = AreCompleteBefore l.conflicts l.history l.place
