use Rattle.std.proofs.Common.{◌≡◌, ◌∙◌, ◌∷◌, sym}
use Rattle.json.specs.Lex.{tokens}
use Rattle.json.specs.Token.{begin_object}
use Rattle.serde_json.specs.Data.{object}
use Rattle.api_lines.proofs.TokenLemmas.{object_read}
use Rattle.api_lines.proofs.token_fields.unescaped_fields.Goals as goal

pub returns-in-Some : goal.returns-in-Some
returns-in-Some c = λ reported.
    let found = c.in-Some.ensures in
    let first : tokens c.args.line.now ≡ begin_object ∷ found.0 = sym c.in-Ok.ensures.ok ∙ found.2 in
    (object found.1, object_read c.args.line.now found.0 found.1 first found.3, found.4)
