use Rattle.std.proofs.Common.{sym, subst}
use Rattle.readings.specs.WayBack.{IsKept}
use Rattle.report.proofs.text_finding.TextFinding.history.Goals as goal

pub returns : goal.returns
returns c = λ reading read kept. c.text_history.ensures reading read (subst (λ H. IsKept reading read H c.args.self.now.text) (sym c.judged.ensures) kept)
