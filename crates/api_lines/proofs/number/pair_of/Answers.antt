use Rattle.api_lines.proofs.PairLemmas.{pair_of-made}
use Rattle.api_lines.proofs.number.pair_of.Goals as goal

pub returns : goal.returns
returns c = pair_of-made c.args.term c.args.seq c.new.result c.new.ensures.some c.new.ensures.value
