use Rattle.std.proofs.Common.{refl, rules}
use Rattle.serde_json.specs.View.{view}
use Rattle.api_lines.proofs.JsonLemmas.{json_value_is, json_value_refused}
use Rattle.api_lines.proofs.lines.line_value.Goals as goal

pub returns-in-Ok : goal.returns-in-Ok
returns-in-Ok c = json_value_is c.args.line.now (view c.in-Ok.value) c.in-Ok.ensures.ok

pub returns-in-Err-2 : goal.returns-in-Err-2
returns-in-Err-2 c = (json_value_refused c.args.line.now (c.in-Err.ensures.err (search rules)), refl)
