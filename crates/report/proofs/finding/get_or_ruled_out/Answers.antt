use Rattle.std.proofs.Common.{subst}
use Rattle.report.specs.Findings.{IsFoundOfGets}
use Rattle.report.proofs.finding.get_or_ruled_out.Goals as goal

pub returns-in-Some-clause-gets : goal.returns-in-Some-clause-gets
returns-in-Some-clause-gets c = λ read events kept. subst (IsFoundOfGets c.args.options.reading read) c.in-Some.is (c.in_ok-get.ensures read events kept)

pub returns-in_ok-ruled_out-in-None-clause-gets : goal.returns-in_ok-ruled_out-in-None-clause-gets
returns-in_ok-ruled_out-in-None-clause-gets c = λ read events kept. subst (IsFoundOfGets c.args.options.reading read) c.in-None.is (c.in_ok-get.ensures read events kept)
