use Rattle.std.proofs.Common.{subst}
use Rattle.std.specs.Prelude.{IfOk}
use Rattle.disturbances.specs.Disturbed.{DisturbedState, ReportsProgress, with_schedule}
use Rattle.disturbances.proofs.DisturbedLemmas.{polled}
use Rattle.disturbances.proofs.disturbed_core.DisturbedCoreOwnedTarget.poll.Goals as goal

pub returns-clause-reports : goal.returns-clause-reports
returns-clause-reports c =
    subst (λ (old : DisturbedState). IfOk c.poll.result (λ progress. ReportsProgress old c.args.ticket progress (with_schedule c.poll.new.self c.self.inside.schedule)))
    c.self.view_is
    (polled c.self.inside.counted c.poll.new.self c.self.inside.schedule c.args.ticket c.poll.result c.poll.ensures.polls c.poll.ensures.counted)
