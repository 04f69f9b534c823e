use Rattle.std.proofs.Common.{◌∙◌, ap, arith}
use Rattle.json.specs.Json.{value}
use Rattle.serde_json.specs.Data.{object}
use Rattle.serde_json.specs.Read.{converted, of_json}
use Rattle.api_lines.proofs.TokenLemmas.{OnSome-map, object_value}
use Rattle.api_lines.proofs.fields.BodyFields.take.Goals as goal

pub returns-clause-read : goal.returns-clause-read
returns-clause-read g c =
    OnSome-map _ _ c.take_members.result (λ found. (
      object found.0,
      ap (λ ts. converted of_json (value 126 ts)) c.in_ok-open_object.ensures ∙ object_value 126 (g.T.TokenReader.left c.open_object.new.self) (g.T.TokenReader.left c.take_members.new.tokens) found.0 (omega arith) found.1,
      found.2,
    )) c.take_members.ensures.read
