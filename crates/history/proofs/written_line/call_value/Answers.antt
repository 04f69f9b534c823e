use Rattle.std.proofs.Common.{arith}
use Rattle.history.proofs.CallLines.{call_members}
use Rattle.history.proofs.written_line.call_value.Goals as goal

pub returns-clause-value : goal.returns-clause-value
returns-clause-value c =
    let whole = call_members c.args.no c.args.shard c.args.id.now c.args.op.now in
    grind arith
