use Rattle.std.proofs.Common.{◌≡◌, ◌++◌, drop}
use Rattle.deciding.specs.Steps.{without}
use Rattle.deciding.proofs.numbers.without.Given as goal

abbrev pub invariant-loop-i : goal.invariant-loop-i
invariant-loop-i l = l.left.items ++ without l.number (drop l.i l.list) ≡ without l.number l.list
