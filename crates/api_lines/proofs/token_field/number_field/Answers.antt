use Rattle.std.proofs.Common.{◌∙◌, ap, refl}
use Rattle.json.specs.Json.{value}
use Rattle.serde_json.specs.Data.{number, unsigned}
use Rattle.serde_json.specs.Read.{converted, of_json}
use Rattle.api_lines.specs.aids.Scanning.{tokens_left}
use Rattle.api_lines.proofs.TokenLemmas.{value-number}
use Rattle.api_lines.proofs.token_field.number_field.Goals as goal

pub returns-in-Some-clause-read : goal.returns-in-Some-clause-read
returns-in-Some-clause-read c =
    let read = c.in-Some.ensures in
    let n = c.in-Some.number in
    (number (unsigned n), ap (λ ts. converted of_json (value c.args.depth ts)) read.1 ∙ value-number c.args.depth read.0 n (tokens_left c.whole.new.self) read.2, refl)
