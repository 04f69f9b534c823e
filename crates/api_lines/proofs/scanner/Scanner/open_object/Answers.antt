use Rattle.std.proofs.Common.{◌∙◌, ◌∷◌, ap, sym}
use Rattle.json.specs.Token.{begin_object}
use Rattle.api_lines.specs.aids.Scanning.{tokens_at}
use Rattle.api_lines.proofs.ScanLemmas.{object_opened}
use Rattle.api_lines.proofs.scanner.Scanner.open_object.Goals as goal

pub returns : goal.returns
returns c =
    let here = c.in_ok-beginning.ensures in
    here.2 ∙ (ap (tokens_at here.0) c.in_ok-rest.ensures ∙ (object_opened here.0 c.in_ok-rest.rest.now here.1 ∙ ap (λ ts. begin_object ∷ ts) (sym c.begin.ensures)))
