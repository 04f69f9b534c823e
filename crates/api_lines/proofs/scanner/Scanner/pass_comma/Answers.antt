use Rattle.std.proofs.Common.{◌∙◌, ap, sym}
use Rattle.json.specs.Lex.{after_comma, after_value, punctuate}
use Rattle.api_lines.specs.aids.Scanning.{tokens_at}
use Rattle.api_lines.proofs.ScanLemmas.{comma_passed}
use Rattle.api_lines.proofs.scanner.Scanner.pass_comma.Goals as goal

pub returns-in-Some : goal.returns-in-Some
returns-in-Some c =
    ap (punctuate after_comma) c.after_spaces-self.ensures.same ∙ sym (ap (tokens_at after_value) c.in-Some.ensures ∙ comma_passed _)
