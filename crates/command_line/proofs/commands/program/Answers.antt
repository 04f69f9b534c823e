use Rattle.std.proofs.Common.{◌∙◌, ap}
use Rattle.std.proofs.lemmas.Result.{IfOk-weaker}
use Rattle.clap.specs.Words.{App}
use Rattle.command_line.specs.Asked.{all_commands, with_commands}
use Rattle.command_line.proofs.commands.program.Goals as goal

pub returns : goal.returns
returns c =
    IfOk-weaker c.with_commands.result _ _
    (λ program same. same ∙ ap (λ (line : App). with_commands line all_commands) c.in_ok-named_program.ensures) c.with_commands.ensures
