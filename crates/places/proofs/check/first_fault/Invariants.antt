use Rattle.std.proofs.Common.{take}
use Rattle.places.specs.aids.Walks.{IsWalked}
use Rattle.places.proofs.check.first_fault.Given as goal

abbrev pub invariant-loop-i : goal.invariant-loop-i
invariant-loop-i l = IsWalked l.conflicts l.records (take l.i l.places) l.walk.marks.items l.walk.latest l.walk.state
