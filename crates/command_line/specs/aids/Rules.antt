-- The rules that an `Argument` and a `Usage` of the code stand for.
use Rattle.std.specs.Prelude.{map}
use Rattle.clap.specs.Words.{App, Rule, Text, new_app}
use Rattle.command_line.specs.declared.argument.Argument.{Argument}
use Rattle.command_line.specs.declared.argument.Takes.{Takes}
use Rattle.command_line.specs.declared.argument.Takes.TheVariants as takes
use Rattle.command_line.specs.declared.commands.Usage.{Usage}
use Rattle.command_line.specs.Asked.{file_rule, files_rule, needed_option_rule, needed_number_rule, needed_rule, number_rule, option_rule, switch_rule, with_rules}

-- the rule of an argument of this name that takes this
abbrev pub rule_of_taking : Text → Takes → Rule
rule_of_taking name takes.File = file_rule name
rule_of_taking name takes.Files = files_rule name
rule_of_taking name takes.NeededFile = needed_rule name
rule_of_taking name takes.Text = option_rule name
rule_of_taking name takes.NeededText = needed_option_rule name
rule_of_taking name (takes.Number least most) = number_rule name least most
rule_of_taking name (takes.NeededNumber least most) = needed_number_rule name least most
rule_of_taking name takes.Nothing = switch_rule name

-- the rule of an argument
abbrev pub rule_of_argument : Argument → Rule
rule_of_argument a = rule_of_taking a.id.now a.takes

-- the command with its arguments
abbrev pub command_by : Usage → App
command_by u = with_rules (new_app u.name.now) (map rule_of_argument u.arguments.now)
