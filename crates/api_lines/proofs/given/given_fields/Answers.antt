use Rattle.std.proofs.Common.{◌∙◌, ap, arith, sym}
use Rattle.serde_json.specs.Read.{read}
use Rattle.api_lines.proofs.JsonLemmas.{json_value_is}
use Rattle.api_lines.proofs.given.given_fields.Goals as goal

pub returns-then-quick_fields : goal.returns-then-quick_fields
returns-then-quick_fields c =
    let text = c.in-Ok.ensures.cases in
    λ reported.
    let found = c.if-quick_fields.ensures reported in (
      found.0,
      c.is_given.ensures (grind arith) found.0 (json_value_is c.args.line.now found.0 (text.1, ap read (sym text.0) ∙ found.1)),
      found.2,
    )

pub returns : goal.returns
returns c =
    let text = c.in-Ok.ensures.cases in
    λ reported.
    let found = c.unescaped_fields.ensures reported in (
      found.0,
      c.is_given.ensures (grind arith) found.0 (json_value_is c.args.line.now found.0 (text.1, ap read (sym text.0) ∙ found.1)),
      found.2,
    )
