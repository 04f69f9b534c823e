use Rattle.std.proofs.Common.{◌≡◌, ◌++◌, take}
use Rattle.shard_numbers.specs.Taken.{pairs_at}
use Rattle.shard_numbers.proofs.taken.add_document.Given as goal

abbrev pub invariant-loop-i : goal.invariant-loop-i
invariant-loop-i l = l.pairs.items ≡ l.fn.pairs.items ++ pairs_at l.shard l.records (take l.i l.places)
