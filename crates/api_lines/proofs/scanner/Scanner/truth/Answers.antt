use Rattle.std.proofs.Common.{◌∙◌, ◌∷◌, ap, codes, false, sym, true}
use Rattle.json.specs.Token.{boolean}
use Rattle.api_lines.specs.aids.Scanning.{tokens_at}
use Rattle.api_lines.proofs.ScanLemmas.{false_taken, stripped, true_taken}
use Rattle.api_lines.proofs.scanner.Scanner.truth.Goals as goal

pub returns-in_ok-end_scalar-in-Some : goal.returns-in_ok-end_scalar-in-Some
returns-in_ok-end_scalar-in-Some c =
    let here = c.in_ok-bytes.ensures in
    let word = c.in-Some.ensures.cases in
    let ended = c.in_ok-end_scalar-in-Some.ensures in
    let bytes = stripped (codes "true") c.in_ok-bytes.bytes.now c.in-Some.rest.now word.0 word.1 in
    here.2 ∙ (ap (tokens_at here.0) bytes ∙ (true_taken here.0 c.in-Some.rest.now here.1 ended.ended ∙ ap (λ ts. boolean true ∷ ts) (sym ended.left)))

pub returns-in_ok-end_scalar-in-None : goal.returns-in_ok-end_scalar-in-None
returns-in_ok-end_scalar-in-None c =
    let here = c.in_ok-bytes.ensures in
    let word = c.in_ok-rest-in-None.ensures.cases in
    let ended = c.in_ok-end_scalar-in-None.ensures in
    let bytes = stripped (codes "false") c.in_ok-bytes.bytes.now c.in_ok-rest-in-None.rest.now word.0 word.1 in
    here.2 ∙ (ap (tokens_at here.0) bytes ∙ (false_taken here.0 c.in_ok-rest-in-None.rest.now here.1 ended.ended ∙ ap (λ ts. boolean false ∷ ts) (sym ended.left)))
