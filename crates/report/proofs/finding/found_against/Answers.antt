use Rattle.report.proofs.FindingLemmas.{gets_if_none}
use Rattle.report.proofs.finding.found_against.Goals as goal

pub returns-in-None-clause-gets : goal.returns-in-None-clause-gets
returns-in-None-clause-gets c = λ read events kept. gets_if_none _ _ c.get_or_ruled_out.result (c.get_or_ruled_out.ensures.gets read events kept)
