use Rattle.std.proofs.Common.{◌≡◌, ◌∙◌, Some, ap, arith, sym, true}
use Rattle.json.specs.Json.{after_end_array}
use Rattle.json.specs.Lex.{may_close}
use Rattle.api_lines.specs.aids.Scanning.{place_of, tokens_at}
use Rattle.api_lines.proofs.ScanLemmas.{array_closed}
use Rattle.api_lines.proofs.scanner.Scanner.close_array.Goals as goal

pub returns-in-Some : goal.returns-in-Some
returns-in-Some c =
    let closes : may_close (place_of c.args.self.now.place) ≡ true = grind arith in
    ap after_end_array (ap (tokens_at (place_of c.args.self.now.place)) c.in-Some.ensures ∙ array_closed (place_of c.args.self.now.place) c.in-Some.rest.now closes) ∙ ap Some (sym c.end_value.ensures)
