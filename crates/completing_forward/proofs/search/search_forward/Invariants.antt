use Rattle.std.proofs.Common.{length}
use Rattle.completing_forward.proofs.search.search_forward.Given as goal

abbrev pub ghosts-search_counted : goal.ghosts-search_counted
ghosts-search_counted a = record { number = length a.records.now }
