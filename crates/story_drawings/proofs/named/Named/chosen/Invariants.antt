use Rattle.std.proofs.Common.{◌≤◌, length}
use Rattle.story_drawings.proofs.named.Named.chosen.Given as goal

abbrev pub invariant-loop-call : goal.invariant-loop-call
invariant-loop-call l = length l.chosen.items ≤ l.most

abbrev pub invariant-loop-call-2 : goal.invariant-loop-call-2
invariant-loop-call-2 l = length l.chosen.items ≤ l.most
