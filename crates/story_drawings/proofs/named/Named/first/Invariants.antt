use Rattle.std.proofs.Common.{◌≤◌, length}
use Rattle.story_drawings.proofs.named.Named.first.Given as goal

abbrev pub invariant-loop-rank : goal.invariant-loop-rank
invariant-loop-rank l = length l.first.items ≤ l.most

abbrev pub invariant-loop-call : goal.invariant-loop-call
invariant-loop-call l = length l.first.items ≤ l.most
