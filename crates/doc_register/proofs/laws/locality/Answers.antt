use Rattle.doc_register.proofs.RunLaws.{locality}
use Rattle.doc_register.proofs.laws.locality.Goals as goal

pub returns : goal.returns
returns c = locality
