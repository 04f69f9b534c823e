use Rattle.std.proofs.Common.{sym}
use Rattle.events.proofs.OpenCalls.{closed_lost}
use Rattle.events.proofs.history.History.push_lost.Goals as goal

pub returns-in-Err-clause-reason : goal.returns-in-Err-clause-reason
returns-in-Err-clause-reason c = closed_lost c.args.self.now c.args.no c.in-Err.fault (sym c.in-Err.ensures)
