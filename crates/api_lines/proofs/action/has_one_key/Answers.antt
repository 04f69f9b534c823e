use Rattle.serde_json.specs.View.{view}
use Rattle.api_lines.proofs.ActionLemmas.{one_key_counted}
use Rattle.api_lines.proofs.action.has_one_key.Goals as goal

pub returns-in-Some : goal.returns-in-Some
returns-in-Some c = one_key_counted (view c.args.value.now) c.in-Some.members.now.entries c.len.result c.len.ensures.len c.in-Some.ensures
