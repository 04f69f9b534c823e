use Rattle.std.proofs.Common.{◌∙◌, ap}
use Rattle.json.specs.Lex.{after_value, punctuate}
use Rattle.api_lines.proofs.scanner.Scanner.end_value.Goals as goal

pub returns : goal.returns
returns c = c.pass_comma.ensures ∙ ap (punctuate after_value) c.after_spaces.ensures.same
