use Rattle.doc_register.proofs.RunLaws.{pairs_rise}
use Rattle.doc_register.proofs.laws.pairs_rise.Goals as goal

pub returns : goal.returns
returns c = pairs_rise
