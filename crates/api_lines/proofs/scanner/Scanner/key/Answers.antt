use Rattle.std.proofs.Common.{◌∙◌, ◌≡◌, ◌∷◌, Some, ap, arith, sym, true}
use Rattle.json.specs.Json.{read_key}
use Rattle.json.specs.Lex.{may_begin}
use Rattle.json.specs.Token.{key}
use Rattle.json.proofs.Grammar.{read_key-shorter}
use Rattle.api_lines.specs.aids.Keys.{key_text}
use Rattle.api_lines.specs.aids.Scanning.{place_of, tokens_at, tokens_left}
use Rattle.api_lines.proofs.ScanLemmas.{key_taken}
use Rattle.api_lines.proofs.scanner.Scanner.key.Goals as goal

pub returns-in_ok-name-in-Some-clause-read : goal.returns-in_ok-name-in-Some-clause-read
returns-in_ok-name-in-Some-clause-read c =
    let place = place_of c.args.self.now.place in
    let begins : may_begin (place_of c.args.self.now.place) ≡ true = grind arith in
    let name = key_text c.in_ok-name-in-Some.name in
    let text = c.in_ok-name-in-Some.ensures in
    let bytes = c.in-Some.ensures ∙ ap (λ r. 34 ∷ r) text.0 in
    ap read_key (ap (tokens_at place) bytes ∙ (key_taken place name c.in_ok-name-in-Some.rest.now begins text.1 ∙ ap (λ ts. key name ∷ ts) (sym c.begin.ensures)))

pub returns-in_ok-name-in-Some-clause-shorter : goal.returns-in_ok-name-in-Some-clause-shorter
returns-in_ok-name-in-Some-clause-shorter c =
    read_key-shorter (tokens_left c.args.self.now) (Some (key_text c.in_ok-name-in-Some.name)) (tokens_left c.begin.new.self) (returns-in_ok-name-in-Some-clause-read c)
