use Rattle.stream_io.proofs.TakenLemmas.{witness_unasked}
use Rattle.report.proofs.InputAnswers.{was_refused}
use Rattle.report.proofs.VerifyAnswers.{history_refused}
use Rattle.report.proofs.verify_input.verify_reported.Goals as goal

pub returns-in-Err-clause-answer : goal.returns-in-Err-clause-answer
returns-in-Err-clause-answer g c =
    let input = g.R.Read.remaining c.args.history.now in
    let is = was_refused (λ e. e.fault) c.args.reading c.rules.result input c.in_ok-text.field-0 c.in-Err.refused c.rules.ensures c.in-Err.is c.in_ok-text.ensures.reported in
    history_refused c.args.reading input (g.Q.Read.remaining c.args.witness.now) c.in-Err.refused.fault is

-- where the history is refused, or was not had, the witness isn't asked for

pub returns-in-Err-clause-witness_taken : goal.returns-in-Err-clause-witness_taken
returns-in-Err-clause-witness_taken g c = witness_unasked (g.Q.Read.remaining c.args.witness.now)

pub returns-in_err-text-clause-witness_taken : goal.returns-in_err-text-clause-witness_taken
returns-in_err-text-clause-witness_taken g c = witness_unasked (g.Q.Read.remaining c.args.witness.now)
