use Rattle.std.proofs.Common.{◌≡◌, length}
use Rattle.serde_json.specs.Data.{Members, object}
use Rattle.api_lines.specs.Fields.{value_of}
use Rattle.api_lines.specs.Json.{field}
use Rattle.api_lines.proofs.TokenLemmas.{IsReadUpTo}
use Rattle.api_lines.proofs.token_fields.part.Given as goal

abbrev pub invariant-members : goal.invariant-members
invariant-members g l = (old : Members) × IsReadUpTo 124 (g.T.TokenReader.left l.initial.tokens) (g.T.TokenReader.left l.tokens) old × (value_of l.found ≡ field l.wanted (object old))

abbrev pub decreases-members : goal.decreases-members
decreases-members g l = length (g.T.TokenReader.left l.tokens)
