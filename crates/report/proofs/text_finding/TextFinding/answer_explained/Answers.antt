use Rattle.report.proofs.FoundReports.{found_get, found_yes}
use Rattle.report.proofs.text_finding.TextFinding.answer_explained.Goals as goal

pub returns-in-None-clause-report : goal.returns-in-None-clause-report
returns-in-None-clause-report c = λ ruling read of.
    found_yes ruling c.args.reading read c.args.self.now c.args.proof.now c.history-text.result.now c.counts_of.result c.requires c.in-None.is
    (c.history-text.ensures c.args.reading read of.kept) c.counts_of.ensures of

pub returns-in-Some-clause-report : goal.returns-in-Some-clause-report
returns-in-Some-clause-report c = λ ruling read of.
    found_get ruling c.args.reading read c.args.self.now c.args.proof.now c.history-text.result.now c.in-Some.get c.get_offence.result c.evidence_refutes.ensures c.requires c.in-Some.is
    (c.history-text.ensures c.args.reading read of.kept) c.get_offence.ensures c.history.ensures.linearizable of
