use Rattle.std.proofs.Common.{◌≡◌, ℕ, true, drop}
use Rattle.deciding.specs.Branches.{is_in}
use Rattle.deciding.proofs.numbers.are_in.Given as goal

abbrev pub invariant-loop-i : goal.invariant-loop-i
invariant-loop-i l = ((n : ℕ) → is_in n (drop l.i l.first) ≡ true → is_in n l.second ≡ true) → (n : ℕ) → is_in n l.first ≡ true → is_in n l.second ≡ true
