use Rattle.std.proofs.Common.{◌≡◌, ◌∙◌, ap, sym, arith, Some, None}
use Rattle.json.specs.Json.{read_key}
use Rattle.serde_json.specs.Data.{no_members, put}
use Rattle.api_lines.specs.aids.MoreFields.{line_with}
use Rattle.api_lines.specs.aids.Keys.{key_text}
use Rattle.api_lines.proofs.MemberLemmas.{line_values-put}
use Rattle.api_lines.proofs.TokenLemmas.{read_all, read_more, read_none}
use Rattle.api_lines.proofs.fields.LineFields.take_members.Goals as goal

pub members-init : goal.members-init
members-init g c = (no_members, read_none 126 (g.T.TokenReader.left c.args.tokens.now), c.requires)

pub members-preserved : goal.members-preserved
members-preserved g c =
    let i = c.members.invariant in
    let k = key_text c.in-Some.key in
    let found = c.in_ok-take_member.ensures in
    let named : read_key (g.T.TokenReader.left c.members.tokens) ≡ Some (Some k, (g.T.TokenReader.left c.key.new.self)) = grind arith in (
      put k found.read.0 i.0,
      read_more 126 (g.T.TokenReader.left c.args.tokens.now) (g.T.TokenReader.left c.members.tokens) (g.T.TokenReader.left c.key.new.self) (g.T.TokenReader.left c.take_member.new.tokens) k found.read.0 i.0 i.1 named c.in_ok-key.ensures.shorter found.read.1 found.shorter,
      found.read.2 ∙ (ap (line_with k found.read.0) i.2 ∙ sym (line_values-put k found.read.0 i.0)),
    )

pub returns-clause-read : goal.returns-clause-read
returns-clause-read g c =
    let i = c.members.invariant in
    let over : read_key (g.T.TokenReader.left c.members.tokens) ≡ Some (None, (g.T.TokenReader.left c.key.new.self)) = grind arith in
    (i.0, read_all 126 (g.T.TokenReader.left c.args.tokens.now) (g.T.TokenReader.left c.members.tokens) (g.T.TokenReader.left c.key.new.self) i.0 i.1 over, i.2)
