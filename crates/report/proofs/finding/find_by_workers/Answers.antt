use Rattle.std.proofs.Common.{◌∙◌, ap, sym}
use Rattle.std.proofs.lemmas.Result.{err_from_is_err_and}
use Rattle.compose.specs.Checked.{IsVerdictOn}
use Rattle.events.specs.Events.{documents_of}
use Rattle.readings.specs.WayBack.{IsKept}
use Rattle.report.proofs.FindingLemmas.{has_document, lost_kept, found_of_judged}
use Rattle.report.proofs.finding.find_by_workers.Goals as goal

pub found_by-requires : goal.found_by-requires
found_by-requires g c =
    lost_kept c.args.options.reading c.args.read c.in_ok-judged.field-0.judged c.in_ok-judged.field-0.text c.requires.void c.in_ok-judged.ensures.kept

pub returns-in_err-verdict-clause-named : goal.returns-in_err-verdict-clause-named
returns-in_err-verdict-clause-named g c =
    let read = c.args.read in
    let p = err_from_is_err_and c.from_residual-in_err-verdict.result c.from_residual-in_err-verdict.ensures.1 in
    let documents = ap documents_of c.in_ok-judged.ensures.judged ∙ c.histories_stay.ensures.documents c.args.options.reading read.voids read.history in
    rw (p.1, p.2) (has_document c.in_ok-judged.field-0.judged read.history c.in_err-verdict.field-0.0 documents c.in_err-verdict.ensures.named)

pub returns-clause-found : goal.returns-clause-found
returns-clause-found g c =
    found_of_judged c.args.options.ruling_out c.args.options.reading c.args.read c.in_ok-judged.field-0.judged c.in_ok-judged.field-0.text c.in_ok-verdict.verdict _ c.in_ok-judged.ensures.judged
    c.in_ok-judged.ensures.kept c.in_ok-verdict.ensures.verdict c.in_ok-found_by.field-0 c.conflicts_checked-conflicts.ensures c.in_ok-found_by.ensures
