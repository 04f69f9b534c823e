use Rattle.std.proofs.Common.{subst}
use Rattle.readings.specs.WayBack.{IsKept}
use Rattle.report.proofs.FindingLemmas.{gets_found}
use Rattle.report.proofs.finding.get_found.Goals as goal

pub returns-in-Any-Some : goal.returns-in-Any-Some
returns-in-Any-Some c = λ read events kept.
    gets_found c.args.reading read c.in-Any-Some.read c.unexplained_get.result (subst (IsKept c.args.reading read events) c.in-Any-Some.is-1 kept)
    c.in-Any-Some.is-0 c.unexplained_get.ensures
