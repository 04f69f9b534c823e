use Rattle.std.proofs.Common.{◌≡◌, drop}
use Rattle.deciding.specs.Branches.{is_in}
use Rattle.deciding.proofs.numbers.is_in.Given as goal

abbrev pub invariant-loop-i : goal.invariant-loop-i
invariant-loop-i l = is_in l.number (drop l.i l.list) ≡ is_in l.number l.list
