use Rattle.std.proofs.Common.{◌+◌, length}
use Rattle.completing_by_rules.proofs.completion.complete.Given as goal

abbrev pub ghosts-next_round : goal.ghosts-next_round
ghosts-next_round g a = record { number = length a.writes.items + 1 }
