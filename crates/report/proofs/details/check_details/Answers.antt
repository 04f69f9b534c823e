use Rattle.report.proofs.InputAnswers.{made_answers, made_counts, made_names, made_proves, refused_answers, was_read, was_refused}
use Rattle.report.proofs.details.check_details.Goals as goal

pub returns-in-Ok-clause-answer : goal.returns-in-Ok-clause-answer
returns-in-Ok-clause-answer g c =
    let input = g.R.Read.remaining c.args.reader.now in
    let is = was_read (λ e. e.fault) c.args.options.reading c.rules.result input c.in_ok-text.field-0 c.in-Ok.text c.rules.ensures c.in-Ok.is c.in_ok-text.ensures.reported in
    made_answers (λ d. d) c.args.options.ruling_out c.args.options.reading c.in-Ok.text.read input c.text_details.result c.texts_are_read_by_rules.ensures is c.text_details.ensures.report

pub returns-in-Ok-clause-calls : goal.returns-in-Ok-clause-calls
returns-in-Ok-clause-calls g c =
    let input = g.R.Read.remaining c.args.reader.now in
    let is = was_read (λ e. e.fault) c.args.options.reading c.rules.result input c.in_ok-text.field-0 c.in-Ok.text c.rules.ensures c.in-Ok.is c.in_ok-text.ensures.reported in
    made_counts (λ d. d) c.args.options.ruling_out c.args.options.reading c.in-Ok.text.read input c.text_details.result c.texts_are_read_by_rules.ensures is c.text_details.ensures.report

pub returns-in-Ok-clause-proved : goal.returns-in-Ok-clause-proved
returns-in-Ok-clause-proved g c =
    let input = g.R.Read.remaining c.args.reader.now in
    let is = was_read (λ e. e.fault) c.args.options.reading c.rules.result input c.in_ok-text.field-0 c.in-Ok.text c.rules.ensures c.in-Ok.is c.in_ok-text.ensures.reported in
    made_proves (λ d. d) c.args.options.ruling_out c.args.options.reading c.in-Ok.text.read input c.text_details.result c.texts_are_read_by_rules.ensures is c.text_details.ensures.report

pub returns-in-Ok-clause-named : goal.returns-in-Ok-clause-named
returns-in-Ok-clause-named g c =
    let input = g.R.Read.remaining c.args.reader.now in
    let is = was_read (λ e. e.fault) c.args.options.reading c.rules.result input c.in_ok-text.field-0 c.in-Ok.text c.rules.ensures c.in-Ok.is c.in_ok-text.ensures.reported in
    made_names c.args.options.reading c.in-Ok.text.read input c.text_details.result c.texts_are_read_by_rules.ensures is c.text_details.ensures.named

pub returns-in-Err-clause-answer : goal.returns-in-Err-clause-answer
returns-in-Err-clause-answer g c =
    let input = g.R.Read.remaining c.args.reader.now in
    let is = was_refused (λ e. e.fault) c.args.options.reading c.rules.result input c.in_ok-text.field-0 c.in-Err.refused c.rules.ensures c.in-Err.is c.in_ok-text.ensures.reported in
    refused_answers c.args.options.ruling_out c.args.options.reading input c.in-Err.refused.fault c.refused.result.reported c.refused.ensures.reported is
