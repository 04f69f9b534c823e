use Rattle.compose.proofs.Restriction.{complete_have_no_order}
use Rattle.compose.proofs.laws.complete_have_no_order.Goals as goal

pub returns : goal.returns
returns c = complete_have_no_order
