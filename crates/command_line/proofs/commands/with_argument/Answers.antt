use Rattle.std.proofs.lemmas.Result.{IfOk-weaker}
use Rattle.command_line.proofs.commands.with_argument.Goals as goal

pub returns-clause-line : goal.returns-clause-line
returns-clause-line c = IfOk-weaker c.arg.result _ _ (λ reported adds. adds.shape c.requires) c.arg.ensures
