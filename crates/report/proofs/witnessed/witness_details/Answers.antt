use Rattle.report.proofs.InputAnswers.{refused_witnesses, was_read, was_refused, witnesses}
use Rattle.report.proofs.witnessed.witness_details.Goals as goal

pub returns-in_ok-text_witnessed-in-Ok-clause-answer : goal.returns-in_ok-text_witnessed-in-Ok-clause-answer
returns-in_ok-text_witnessed-in-Ok-clause-answer g c =
    let input = g.R.Read.remaining c.args.reader.now in
    let is = was_read (λ e. e.fault) c.args.options.reading c.rules.result input c.in_ok-text.field-0 c.in-Ok.text c.rules.ensures c.in-Ok.is c.in_ok-text.ensures.reported in
    witnesses c.args.options.ruling_out c.args.options.reading c.in-Ok.text.read input c.in_ok-text_witnessed-in-Ok.field-0 c.texts_are_read_by_rules.ensures is c.in_ok-text_witnessed-in-Ok.ensures

pub returns-in-Err-clause-answer : goal.returns-in-Err-clause-answer
returns-in-Err-clause-answer g c =
    let input = g.R.Read.remaining c.args.reader.now in
    let is = was_refused (λ e. e.fault) c.args.options.reading c.rules.result input c.in_ok-text.field-0 c.in-Err.refused c.rules.ensures c.in-Err.is c.in_ok-text.ensures.reported in
    refused_witnesses c.args.options.ruling_out c.args.options.reading input c.in-Err.refused.fault c.refused.result c.new.result c.refused.ensures.reported c.refused.ensures.proved c.new.ensures.items is
