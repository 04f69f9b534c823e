use Rattle.std.proofs.Common.{◌≡◌, drop, false, map}
use Rattle.clap.specs.Words.{app_of}
use Rattle.clap.specs.declared.builder.command.Command.TheViews.{out-Command as fields_of}
use Rattle.command_line.specs.Asked.{with_rules}
use Rattle.command_line.specs.aids.Rules.{command_by, rule_of_argument}
use Rattle.command_line.proofs.commands.Usage.to_command.Given as goal

abbrev pub invariant-loop-argument : goal.invariant-loop-argument
invariant-loop-argument l =
    (with_rules (app_of l.command) (map rule_of_argument (drop l.argument-index l.self.arguments.now)) ≡ command_by l.self)
    × ((fields_of l.command).has_globals ≡ false)
