use Rattle.std.proofs.Common.{sym, ◌∙◌}
use Rattle.events.proofs.OpenCalls.{full_reported, open_passes, refusal_loss}
use Rattle.events.proofs.history.History.push_loss.Goals as goal

pub returns-in-Some-clause-reason : goal.returns-in-Some-clause-reason
returns-in-Some-clause-reason c =
    full_reported c.args.self.now c.in-Some.fault c.in-Some.ensures ∙ sym (refusal_loss c.args.self.now c.args.no c.args.call c.requires)

pub append_ending-requires-clause-ends : goal.append_ending-requires-clause-ends
append_ending-requires-clause-ends c = open_passes c.args.self.now c.args.no c.args.call c.requires

pub append_ending-requires-clause-accepted : goal.append_ending-requires-clause-accepted
append_ending-requires-clause-accepted c = refusal_loss c.args.self.now c.args.no c.args.call c.requires ∙ sym c.in_default.ensures

pub returns-in-Ok-clause-reason : goal.returns-in-Ok-clause-reason
returns-in-Ok-clause-reason c = sym (refusal_loss c.args.self.now c.args.no c.args.call c.requires ∙ sym c.in_default.ensures)

pub returns-in-Err-clause-reason : goal.returns-in-Err-clause-reason
returns-in-Err-clause-reason c = sym (refusal_loss c.args.self.now c.args.no c.args.call c.requires ∙ sym c.in_default.ensures)
