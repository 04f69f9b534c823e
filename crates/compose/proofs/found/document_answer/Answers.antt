use Rattle.std.proofs.Common.{Some, ap, sym, ◌∙◌}
use Rattle.compose.proofs.FoundLemmas.{answers_document}
use Rattle.compose.proofs.found.document_answer.Goals as goal

pub returns : goal.returns
returns c =
    answers_document c.args.conflicts c.args.history.now c.args.doc c.in_ok-id.id c.in_ok-records.records.items c.answer.result c.in_ok-records.ensures
    (c.doc.ensures ∙ ap (λ d. Some d) (sym c.in_ok-id.ensures)) c.answer.ensures.about c.answer.ensures.complete
