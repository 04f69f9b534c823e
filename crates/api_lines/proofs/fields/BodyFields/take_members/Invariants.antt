use Rattle.std.proofs.Common.{◌≡◌, length}
use Rattle.serde_json.specs.Data.{Members, object}
use Rattle.api_lines.specs.Fields.{body_seen, body_values}
use Rattle.api_lines.proofs.TokenLemmas.{IsReadUpTo}
use Rattle.api_lines.proofs.fields.BodyFields.take_members.Given as goal

abbrev pub invariant-members : goal.invariant-members
invariant-members g l = (old : Members) × IsReadUpTo 125 (g.T.TokenReader.left l.initial.tokens) (g.T.TokenReader.left l.tokens) old × (body_seen l.self ≡ body_values (object old))

abbrev pub decreases-members : goal.decreases-members
decreases-members g l = length (g.T.TokenReader.left l.tokens)
