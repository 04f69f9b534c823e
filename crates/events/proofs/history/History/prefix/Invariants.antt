use Rattle.std.proofs.Common.{◌≡◌, take}
use Rattle.events.proofs.history.History.prefix.Given as goal

abbrev pub invariant-loop-place : goal.invariant-loop-place
invariant-loop-place l = l.history ≡ take l.place l.self
