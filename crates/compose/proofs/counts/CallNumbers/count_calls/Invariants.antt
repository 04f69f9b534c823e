use Rattle.std.proofs.Common.{◌≡◌, ◌≤◌, length, take}
use Rattle.std.specs.Prelude.{filter}
use Rattle.compose.specs.Counts.{is_counted_call}
use Rattle.compose.proofs.counts.CallNumbers.count_calls.Given as goal

abbrev pub invariant-loop-place : goal.invariant-loop-place
invariant-loop-place l = (l.calls ≡ length (filter (is_counted_call l.self) (take l.place l.history))) × (l.calls ≤ l.place)
