use Rattle.std.proofs.Common.{refl, sym, true≢false}
use Rattle.std.proofs.lemmas.Result.{IfOk-weaker}
use Rattle.compose.proofs.CertaintyLemmas.{document_within}
use Rattle.compose.proofs.certainty.is_call_ruled_out.Goals as goal

pub is_document_ruled_out-requires : goal.is_document_ruled_out-requires
is_document_ruled_out-requires c = document_within c.args.history.now c.args.call c.in-Some.doc ((c.in-Some.ensures c.in-Some.doc).0 refl)

pub returns-in-Some : goal.returns-in-Some
returns-in-Some c =
    IfOk-weaker c.is_document_ruled_out.result _ _ (λ said own is. (c.in-Some.doc, (c.in-Some.ensures c.in-Some.doc).0 refl, own is)) c.is_document_ruled_out.ensures

pub returns-in-None : goal.returns-in-None
returns-in-None c = λ never. absurd (true≢false (sym never))
