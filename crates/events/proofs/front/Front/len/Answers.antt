use Rattle.std.proofs.Common.{subst}
use Rattle.events.specs.Events.{IsHistory}
use Rattle.events.proofs.PrefixLaws.{prefix_history}
use Rattle.events.proofs.front.Front.len.Goals as goal

pub returns-clause-history : goal.returns-clause-history
returns-clause-history c = subst IsHistory c.self.view_is (prefix_history c.self.inside.history.now c.self.inside.end c.len.ensures.history)
