use Rattle.events.proofs.LateCalls.{late_calls_legal}
use Rattle.events.proofs.laws.late_calls.Goals as goal

pub returns : goal.returns
returns c = late_calls_legal
