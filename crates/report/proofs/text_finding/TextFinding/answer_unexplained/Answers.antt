use Rattle.report.proofs.FoundReports.{found_evidence, found_get_without, found_no}
use Rattle.report.proofs.text_finding.TextFinding.answer_unexplained.Goals as goal

pub returns-in-Some-default-clause-report : goal.returns-in-Some-default-clause-report
returns-in-Some-default-clause-report c = λ ruling read of.
    found_evidence ruling c.args.reading read c.args.self.now c.args.case.now c.args.failing.now c.history-2.result.now c.offence_in_text-offence.result c.in-Some-default.evidence c.evidence.result
    c.evidence_refutes.ensures c.requires c.history.ensures.history c.history.ensures.none (c.history-2.ensures c.args.reading read of.kept) c.offence_in_text-offence.ensures
    c.in-Some-default.is-0 c.evidence.ensures of

pub returns-in-None-Some-clause-report : goal.returns-in-None-Some-clause-report
returns-in-None-Some-clause-report c = λ ruling read of.
    found_get_without ruling c.args.reading read c.args.self.now c.args.case.now c.args.failing.now c.history-2.result.now c.offence_in_text-offence.result c.in-None-Some.get
    c.evidence_refutes-2.ensures c.requires c.history.ensures.history c.history.ensures.none (c.history-2.ensures c.args.reading read of.kept) c.offence_in_text-offence.ensures
    c.in-None-Some.is-0 c.in-None-Some.is-1 of

pub returns-in-None-None-clause-report : goal.returns-in-None-None-clause-report
returns-in-None-None-clause-report c = λ ruling read of.
    found_no ruling c.args.reading read c.args.self.now c.args.case.now c.args.failing.now c.history-2.result.now c.offence_in_text-offence.result c.is_complete_case.result
    c.requires c.history.ensures.history c.history.ensures.none (c.history-2.ensures c.args.reading read of.kept) c.offence_in_text-offence.ensures
    c.in-None-None.is-0 c.in-None-None.is-1 c.is_complete_case.ensures.complete c.is_complete_case.ensures.none of
