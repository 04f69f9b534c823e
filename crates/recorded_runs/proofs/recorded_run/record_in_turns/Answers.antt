use Rattle.disturbances.specs.Disturbed.{SubmitsTicket, ReportsProgress}
use Rattle.disturbances.specs.contracts.disturbed_group.DisturbedGroupTarget.TheImpl as group
use Rattle.recorded_runs.specs.Runs.{run_polls}
use Rattle.disturbances.proofs.DisturbedLemmas.{progress_known, tickets_issued}
use Rattle.workload.proofs.PlayedLemmas.{played_is_run}
use Rattle.recorded_runs.proofs.recorded_run.record_in_turns.Goals as goal

pub returns-in-Ok-clause-run : goal.returns-in-Ok-clause-run
returns-in-Ok-clause-run c =
    played_is_run SubmitsTicket ReportsProgress run_polls c.args.plan.now (group.issued-value).it (group.gave-value).it tickets_issued progress_known
    c.args.core c.play_in_turns.new.target c.in-Ok.history c.in-Ok.ensures
