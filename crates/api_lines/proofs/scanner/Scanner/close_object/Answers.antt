use Rattle.std.proofs.Common.{◌≡◌, ◌∙◌, ◌∷◌, ap, arith, sym, true}
use Rattle.json.specs.Lex.{may_close}
use Rattle.json.specs.Token.{end_object}
use Rattle.api_lines.specs.aids.Scanning.{place_of, tokens_at}
use Rattle.api_lines.proofs.ScanLemmas.{object_closed}
use Rattle.api_lines.proofs.scanner.Scanner.close_object.Goals as goal

pub returns : goal.returns
returns c =
    let closes : may_close (place_of c.args.self.now.place) ≡ true = grind arith in
    ap (tokens_at (place_of c.args.self.now.place)) c.in_ok-rest.ensures ∙ object_closed (place_of c.args.self.now.place) c.in_ok-rest.rest.now closes ∙ ap (λ ts. end_object ∷ ts) (sym c.end_value.ensures)
