use Rattle.std.proofs.Common.{◌<◌, ◌≤◌, ◌-◌, length}
use Rattle.compose.specs.aids.Replies.{IsWrongFrom}
use Rattle.compose.proofs.offence.first_wrong.Given as goal

abbrev pub invariant-loop-left : goal.invariant-loop-left
invariant-loop-left l = record {
  order : l.left.0 ≤ l.left.1;
  within : l.left.1 < length l.places;
  wrong : IsWrongFrom l.history l.places l.left.1;
}

abbrev pub decreases-loop-left : goal.decreases-loop-left
decreases-loop-left l = l.left.1 - l.left.0
