use Rattle.std.proofs.Common.{◌≡◌, ◌∙◌, [], ap, arith, sym}
use Rattle.api_lines.specs.aids.Scanning.{place_of, tokens_at}
use Rattle.api_lines.proofs.ScanLemmas.{no_bytes, none_left}
use Rattle.api_lines.proofs.scanner.Scanner.is_over.Goals as goal

pub returns-then-is_empty : goal.returns-then-is_empty
returns-then-is_empty c over =
    let none : c.args.self.now.rest.now ≡ [] = no_bytes c.args.self.now.rest.now (grind arith) in
    ap (tokens_at (place_of c.args.self.now.place)) none ∙ none_left (place_of c.args.self.now.place) (sym c.may_close.ensures ∙ over)
