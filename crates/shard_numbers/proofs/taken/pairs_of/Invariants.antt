use Rattle.std.proofs.Common.{◌≡◌, take}
use Rattle.shard_numbers.specs.Taken.{pairs_taken}
use Rattle.shard_numbers.proofs.taken.pairs_of.Given as goal

abbrev pub invariant-loop-i : goal.invariant-loop-i
invariant-loop-i l = l.pairs.items ≡ pairs_taken l.history (take l.i l.witnesses)
