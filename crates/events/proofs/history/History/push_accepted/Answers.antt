use Rattle.std.proofs.Common.{◌∙◌}
use Rattle.events.proofs.PlaceLemmas.{only_memory}
use Rattle.events.proofs.history.History.push_accepted.Goals as goal

pub unreachable-requires : goal.unreachable-requires
unreachable-requires c = c.in_default.not-NoMemory (only_memory c.in-Err.fault (c.in-Err.ensures.reason ∙ c.requires.accepted))
