use Rattle.std.proofs.Common.{sym}
use Rattle.events.proofs.OpenCalls.{answer_not_fitting, open_passes, open_within}
use Rattle.events.proofs.history.History.push_answer.Goals as goal

pub is_answerable-requires : goal.is_answerable-requires
is_answerable-requires c = open_within c.args.self.now c.args.no c.args.call c.requires

pub returns-then-not-is_answerable-clause-reason :
    goal.returns-then-not-is_answerable-clause-reason
returns-then-not-is_answerable-clause-reason c = answer_not_fitting c.args.self.now c.args.no c.args.call c.args.reply c.requires (sym c.if-not-is_answerable.ensures)

pub append_ending-requires-clause-ends : goal.append_ending-requires-clause-ends
append_ending-requires-clause-ends c = open_passes c.args.self.now c.args.no c.args.call c.requires
