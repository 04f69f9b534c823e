use Rattle.std.specs.Prelude.{IfSome}
use Rattle.evidence.specs.Evidence.{IsRuledOutIn}
use Rattle.evidence.proofs.ruled_out_calls.least_ruled_out.Given as goal

abbrev pub invariant-loop-i : goal.invariant-loop-i
invariant-loop-i l = IfSome l.least (IsRuledOutIn l.rulings.conflicts l.rulings.history.now)
