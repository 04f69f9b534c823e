use Rattle.std.proofs.lemmas.Bool.{le-leb}
use Rattle.deciding.proofs.step.is_open.Goals as goal

pub returns-then-call-event : goal.returns-then-call-event
returns-then-call-event c called unanswered = le-leb c.args.event c.in-Some.heard.0 (unanswered c.in-Some.heard.0 c.in-Some.heard.1 c.in-Some.is)
