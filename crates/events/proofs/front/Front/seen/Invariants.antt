use Rattle.std.proofs.Common.{◌≡◌, take}
use Rattle.events.specs.Seen.{seen_in}
use Rattle.events.proofs.front.Front.seen.Given as goal

abbrev pub invariant-loop-place : goal.invariant-loop-place
invariant-loop-place l = l.seen ≡ seen_in (take l.place l.self)
