use Rattle.std.proofs.Common.{length}
use Rattle.completing_by_rules.proofs.completion.complete_by_rules.Given as goal

abbrev pub ghosts-complete : goal.ghosts-complete
ghosts-complete a = record { number = length a.records.now }
