use Rattle.std.proofs.Common.{sym}
use Rattle.events.proofs.OpenCalls.{closed_reply}
use Rattle.events.proofs.history.History.push_reply.Goals as goal

pub returns-in-Err-clause-reason : goal.returns-in-Err-clause-reason
returns-in-Err-clause-reason c = closed_reply c.args.self.now c.args.no c.args.reply c.in-Err.fault (sym c.in-Err.ensures)
