use Rattle.recorded_runs.proofs.RunLemmas.{copies_reported}
use Rattle.recorded_runs.proofs.recorded_run.core_of.Goals as goal

pub returns-clause-copies : goal.returns-clause-copies
returns-clause-copies c = copies_reported c.new.result c.args.setting.now.copies c.new.ensures.copies
