use Rattle.std.proofs.Common.{◌≡◌, drop, map}
use Rattle.clap.specs.Words.{app_of}
use Rattle.command_line.specs.Asked.{with_commands}
use Rattle.command_line.specs.aids.Rules.{command_by}
use Rattle.command_line.proofs.commands.with_commands.Given as goal

abbrev pub invariant-loop-usage : goal.invariant-loop-usage
invariant-loop-usage l = with_commands (app_of l.program) (map command_by (drop l.usage-index l.usages)) ≡ with_commands (app_of l.fn.program) (map command_by l.usages)
