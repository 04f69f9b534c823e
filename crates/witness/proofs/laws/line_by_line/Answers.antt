use Rattle.std.proofs.Common.{[]}
use Rattle.api_lines.proofs.LineByLine.{reads_line_by_line}
use Rattle.witness.specs.Text.{takes_value}
use Rattle.witness.proofs.laws.line_by_line.Goals as goal

pub returns : goal.returns
returns c = reads_line_by_line takes_value []
