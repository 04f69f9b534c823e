use Rattle.std.proofs.Common.{◌≤◌, length}
use Rattle.story_drawings.proofs.named.rest_of.Given as goal

abbrev pub invariant-loop-call : goal.invariant-loop-call
invariant-loop-call l = length l.rest.items ≤ l.most
