use Rattle.std.proofs.lemmas.Result.{IfOk-weaker}
use Rattle.compose.proofs.CertaintyLemmas.{said_is_proved, says_without}
use Rattle.compose.proofs.certainty.certainty_of.Goals as goal

pub returns-in-None-clause-says : goal.returns-in-None-clause-says
returns-in-None-clause-says c =
    IfOk-weaker c.certainty_without_evidence.result _ _
    (λ said says. says_without c.conflicts.result c.args.case.now.conflicts c.args.case.now.events c.history-history.result.now c.args.failing.now.evidence c.args.failing.now.offence.call said
    c.conflicts.ensures c.history-history.ensures.same c.in-None.is says) c.certainty_without_evidence.ensures

pub returns-in-None-clause-proved : goal.returns-in-None-clause-proved
returns-in-None-clause-proved c =
    IfOk-weaker c.certainty_without_evidence.result _ _
    (λ said says. said_is_proved c.args.case.now.conflicts c.args.case.now.events c.args.failing.now.evidence c.args.failing.now.offence.call said c.history-history.ensures.history
    c.history-history.ensures.none c.evidence_refutes.ensures c.complete_have_none.ensures c.requires
    (says_without c.conflicts.result c.args.case.now.conflicts c.args.case.now.events c.history-history.result.now c.args.failing.now.evidence c.args.failing.now.offence.call said
    c.conflicts.ensures c.history-history.ensures.same c.in-None.is says)) c.certainty_without_evidence.ensures
