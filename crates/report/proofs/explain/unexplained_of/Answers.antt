use Rattle.report.proofs.AnswerLemmas.{earlier_grounds, whole_grounds}
use Rattle.report.proofs.explain.unexplained_of.Goals as goal

pub returns-after-eq-clause-grounds : goal.returns-after-eq-clause-grounds
returns-after-eq-clause-grounds c =
    earlier_grounds c.args.case.now c.args.failing.now.evidence c.args.certainty c.args.earlier.now c.in-Some.earlier c.history-in-Some.result.now c.in-Some.is
    c.history-in-Some.ensures.same

pub returns-in-None-clause-grounds : goal.returns-in-None-clause-grounds
returns-in-None-clause-grounds c =
    whole_grounds c.args.case.now c.args.failing.now.evidence c.args.certainty c.args.earlier.now c.history.result.now c.in-None.is c.history.ensures.same
