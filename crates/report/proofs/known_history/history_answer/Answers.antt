use Rattle.std.proofs.Common.{◌∙◌}
use Rattle.history.specs.declared.text_read.TextRead.{TextRead}
use Rattle.report.proofs.KnownAnswers.{known_answer, strict_room}
use Rattle.report.proofs.known_history.history_answer.Goals as goal

pub find_alone-requires-clause-room : goal.find_alone-requires-clause-room
find_alone-requires-clause-room c = strict_room c.strict-reading.result c.args.history c.strict-reading.ensures c.len.ensures.within

pub returns : goal.returns
returns c =
    let read : TextRead = record { history = c.args.history; voids = c.in_ok-voids.voids } in
    known_answer c.args.ruling_out c.strict-reading.result c.args.history c.in_ok-voids.voids c.answer-reported.result.reported _ c.of.result.status c.of.result.text.items
    c.texts_are_read.ensures c.texts_are_read_by_rules.ensures c.strict-reading.ensures (c.in_ok-voids.ensures ∙ c.new.ensures.items)
    (c.answer-reported.ensures.report c.args.ruling_out read c.in_ok-found.ensures) (c.of.ensures.status ∙ c.status_of.ensures) (c.of.ensures.text ∙ c.in_ok-line.ensures)
