use Rattle.std.proofs.Common.{refl}
use Rattle.std.proofs.lemmas.Result.{IfOk-weaker}
use Rattle.compose.specs.Certainties.{IsWithoutOrder}
use Rattle.compose.proofs.CertaintyLemmas.{answer_of_call, answer_of_no_call, document_within}
use Rattle.compose.proofs.certainty.is_call_without_order.Goals as goal

pub is_without_order-requires : goal.is_without_order-requires
is_without_order-requires c = document_within c.args.history.now c.args.call c.in-Some.doc ((c.in-Some.ensures c.in-Some.doc).0 refl)

pub returns-in-Some : goal.returns-in-Some
returns-in-Some c =
    IfOk-weaker c.is_without_order.result _ _
    (λ said own. answer_of_call (IsWithoutOrder c.args.conflicts c.args.history.now) c.args.history.now c.args.call c.in-Some.doc said c.in-Some.ensures own) c.is_without_order.ensures

pub returns-in-None : goal.returns-in-None
returns-in-None c = answer_of_no_call (IsWithoutOrder c.args.conflicts c.args.history.now) c.args.history.now c.args.call c.in-None.ensures
