use Rattle.std.proofs.Common.{subst}
use Rattle.compose.specs.Checked.{IsVerdictOn}
use Rattle.readings.specs.Reading.{conflicts_as}
use Rattle.report.specs.Verdict.{judged}
use Rattle.report.proofs.FindingLemmas.{found_explained, found_unexplained}
use Rattle.report.proofs.finding.found_by.Goals as goal

pub returns-in_ok-get-in-Yes : goal.returns-in_ok-get-in-Yes
returns-in_ok-get-in-Yes c = λ read verdict kept.
    let reading = c.args.options.reading in
    found_explained c.args.options.ruling_out reading read c.in-Yes.proof c.in_ok-get-in-Yes.get c.args.text
    (subst (IsVerdictOn (conflicts_as reading.conflicts) (judged reading read)) c.in-Yes.is verdict) kept
    (c.in_ok-get-in-Yes.ensures read (judged reading read) kept)

pub returns-in_ok-offence-in-No : goal.returns-in_ok-offence-in-No
returns-in_ok-offence-in-No c = λ read verdict kept.
    let reading = c.args.options.reading in
    let against = c.in_ok-evidence-in-No.field-0 in
    let is = c.in_ok-evidence-in-No.ensures in
    found_unexplained c.args.options.ruling_out reading read c.in-No.case
    (record { evidence = against.evidence; offence = c.in_ok-offence-in-No.offence }) against.get c.args.text
    (subst (IsVerdictOn (conflicts_as reading.conflicts) (judged reading read)) c.in-No.is verdict) kept
    c.in_ok-offence-in-No.ensures is.holds is.reportable (is.gets read (judged reading read) kept)
