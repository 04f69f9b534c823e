use Rattle.std.proofs.Common.{◌≡◌, ◌++◌, drop}
use Rattle.deciding.specs.aids.Candidates.{numbers_in}
use Rattle.deciding.proofs.document.push_group.Given as goal

abbrev pub invariant-loop-i : goal.invariant-loop-i
invariant-loop-i l = l.numbers.items ++ numbers_in (drop l.i l.group) ≡ l.initial.numbers.items ++ numbers_in l.group
