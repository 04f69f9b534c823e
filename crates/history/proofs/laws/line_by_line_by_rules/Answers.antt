use Rattle.api_lines.proofs.LineByLine.{reads_line_by_line}
use Rattle.history.specs.ByRules.{start_by, takes_value_by}
use Rattle.history.proofs.laws.line_by_line_by_rules.Goals as goal

pub returns : goal.returns
returns c = λ rules. reads_line_by_line takes_value_by (start_by rules)
