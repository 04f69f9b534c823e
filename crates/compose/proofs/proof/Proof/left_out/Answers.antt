use Rattle.std.proofs.Common.{arith}
use Rattle.compose.proofs.proof.Proof.left_out.Goals as goal

pub returns : goal.returns
returns c = omega (arith, c.of.ensures.counts.all_calls, c.of.ensures.counts.the_rest)
