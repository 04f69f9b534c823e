use Rattle.deciding.proofs.WalkLaws.{ruled_out_have_no_order}
use Rattle.deciding.proofs.laws.ruled_out_have_no_order.Goals as goal

pub returns : goal.returns
returns c = ruled_out_have_no_order
