use Rattle.std.proofs.Common.{◌∙◌, ◌∷◌, ap, codes, sym}
use Rattle.json.specs.Token.{null}
use Rattle.api_lines.specs.aids.Scanning.{tokens_at}
use Rattle.api_lines.proofs.ScanLemmas.{null_taken, stripped}
use Rattle.api_lines.proofs.scanner.Scanner.null.Goals as goal

pub returns : goal.returns
returns c =
    let here = c.in_ok-beginning.ensures in
    let word = c.in_ok-rest.ensures.cases in
    let ended = c.in_ok-end_scalar.ensures in
    let bytes = stripped (codes "null") c.in_ok-beginning.field-0.now c.in_ok-rest.rest.now word.0 word.1 in
    here.2 ∙ (ap (tokens_at here.0) bytes ∙ (null_taken here.0 c.in_ok-rest.rest.now here.1 ended.ended ∙ ap (λ ts. null ∷ ts) (sym ended.left)))
