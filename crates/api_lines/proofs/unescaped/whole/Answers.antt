use Rattle.std.proofs.Common.{arith}
use Rattle.api_lines.proofs.TokenLemmas.{parsed}
use Rattle.api_lines.proofs.unescaped.whole.Goals as goal

pub returns : goal.returns
returns c = parsed c.args.text.now c.parse_u64.result c.ok.result (grind arith) (rw c.as_bytes-bytes.ensures.value at c.parse_u64.ensures) c.ok.ensures.value
