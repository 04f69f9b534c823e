use Rattle.std.proofs.Common.{◌∙◌, ap, refl}
use Rattle.json.specs.Json.{value}
use Rattle.serde_json.specs.Data.{string}
use Rattle.serde_json.specs.Read.{converted, of_json}
use Rattle.api_lines.specs.aids.Scanning.{tokens_left}
use Rattle.api_lines.proofs.TokenLemmas.{value-string}
use Rattle.api_lines.proofs.token_field.text_field.Goals as goal

pub returns-in-Some-clause-read : goal.returns-in-Some-clause-read
returns-in-Some-clause-read c =
    (string _, ap (λ ts. converted of_json (value c.args.depth ts)) c.in-Some.ensures ∙ value-string c.args.depth _ (tokens_left c.text.new.self), refl)
