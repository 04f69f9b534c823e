use Rattle.std.proofs.Common.{subst}
use Rattle.evidence.specs.Evidence.{IsDocumentRuledOut}
use Rattle.evidence.proofs.RuledOutLemmas.{ruled_out_if_found}
use Rattle.evidence.proofs.ruled_out_calls.is_document_ruled_out.Goals as goal

pub returns : goal.returns
returns c is =
    subst (λ events. IsDocumentRuledOut c.args.conflicts events c.args.doc) c.in_ok-rulings.ensures.0
    (subst (λ conflicts. IsDocumentRuledOut conflicts c.in_ok-rulings.rulings.history.now c.args.doc) c.in_ok-rulings.ensures.1
    (ruled_out_if_found c.in_ok-rulings.rulings.conflicts c.in_ok-rulings.rulings.history.now c.args.doc c.in_ok-call.call c.is_some.result c.is_some.ensures c.in_ok-call.ensures is))
