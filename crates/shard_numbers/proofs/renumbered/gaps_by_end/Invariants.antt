use Rattle.std.proofs.Common.{◌<◌, All, length}
use Rattle.shard_numbers.proofs.renumbered.gaps_by_end.Given as goal

abbrev pub invariant-loop-gap : goal.invariant-loop-gap
invariant-loop-gap l = All (λ e. e.gap < length l.gaps.list.items) l.ends.items
