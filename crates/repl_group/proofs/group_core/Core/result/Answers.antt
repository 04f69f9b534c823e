use Rattle.std.proofs.Common.{subst}
use Rattle.repl_group.specs.aids.Sound.{IsSoundUnlessFaulty}
use Rattle.repl_group.proofs.RunLemmas.{honest_unless_faulty}
use Rattle.repl_group.proofs.group_core.Core.result.Goals as goal

pub returns-clause-honest : goal.returns-clause-honest
returns-clause-honest c = honest_unless_faulty c.args.self.now (subst IsSoundUnlessFaulty c.self.view_is c.self.invariant)
