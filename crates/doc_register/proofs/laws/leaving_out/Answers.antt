use Rattle.doc_register.proofs.RunLaws.{leaving_out}
use Rattle.doc_register.proofs.laws.leaving_out.Goals as goal

pub returns : goal.returns
returns c = leaving_out
