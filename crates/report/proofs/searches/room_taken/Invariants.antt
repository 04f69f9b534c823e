use Rattle.std.proofs.Common.{◌≡◌, ◌≤◌, ◌*◌, take}
use Rattle.history.specs.ByRules.{room_taken}
use Rattle.report.proofs.searches.room_taken.Given as goal

abbrev pub invariant-loop-place : goal.invariant-loop-place
invariant-loop-place l = (l.room ≡ room_taken l.writes (take l.place l.history)) × (l.room ≤ 2 * l.place)
