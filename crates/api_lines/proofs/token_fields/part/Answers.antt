use Rattle.std.proofs.Common.{◌≡◌, ◌∙◌, true, false, ap, refl, sym, arith, Some, None}
use Rattle.std.specs.Str.{bytes_eq}
use Rattle.json.specs.Json.{value, read_key}
use Rattle.serde_json.specs.Data.{no_members, object, put}
use Rattle.serde_json.specs.Read.{converted, of_json}
use Rattle.api_lines.specs.aids.Keys.{key_text}
use Rattle.api_lines.proofs.MemberLemmas.{field-put}
use Rattle.api_lines.proofs.TokenLemmas.{object_value, read_all, read_more, read_none}
use Rattle.api_lines.proofs.token_fields.part.Goals as goal

pub members-init : goal.members-init
members-init g c = (no_members, read_none 124 (g.T.TokenReader.left c.open_object.new.self), refl)

pub members-preserved-then-eq : goal.members-preserved-then-eq
members-preserved-then-eq g c =
    let i = c.members.invariant in
    let k = key_text c.in-Some.key in
    let found = c.in_ok-field.ensures in
    let named : read_key (g.T.TokenReader.left c.members.tokens) ≡ Some (Some k, (g.T.TokenReader.left c.key.new.self)) = grind arith in
    let test : bytes_eq k c.args.wanted.now ≡ true = grind arith in (
      put k found.read.0 i.0,
      read_more 124 (g.T.TokenReader.left c.open_object.new.self) (g.T.TokenReader.left c.members.tokens) (g.T.TokenReader.left c.key.new.self) (g.T.TokenReader.left c.field.new.self) k found.read.0 i.0 i.1 named c.in_ok-key.ensures.shorter found.read.1 found.shorter,
      found.read.2 ∙ sym (rw test at (field-put k found.read.0 i.0 c.args.wanted.now)),
    )

pub members-preserved : goal.members-preserved
members-preserved g c =
    let i = c.members.invariant in
    let k = key_text c.in-Some.key in
    let found = c.in_ok-field.ensures in
    let named : read_key (g.T.TokenReader.left c.members.tokens) ≡ Some (Some k, (g.T.TokenReader.left c.key.new.self)) = grind arith in
    let test : bytes_eq k c.args.wanted.now ≡ false = grind arith in (
      put k found.read.0 i.0,
      read_more 124 (g.T.TokenReader.left c.open_object.new.self) (g.T.TokenReader.left c.members.tokens) (g.T.TokenReader.left c.key.new.self) (g.T.TokenReader.left c.field.new.self) k found.read.0 i.0 i.1 named c.in_ok-key.ensures.shorter found.read.1 found.shorter,
      i.2 ∙ sym (rw test at (field-put k found.read.0 i.0 c.args.wanted.now)),
    )

pub returns-clause-read : goal.returns-clause-read
returns-clause-read g c =
    let i = c.members.invariant in
    let over : read_key (g.T.TokenReader.left c.members.tokens) ≡ Some (None, (g.T.TokenReader.left c.key.new.self)) = grind arith in (
      object i.0,
      ap (λ ts. converted of_json (value 125 ts)) c.in_ok-open_object.ensures ∙ object_value 125 (g.T.TokenReader.left c.open_object.new.self) (g.T.TokenReader.left c.key.new.self) i.0 (omega arith) (read_all 124 (g.T.TokenReader.left c.open_object.new.self) (g.T.TokenReader.left c.members.tokens) (g.T.TokenReader.left c.key.new.self) i.0 i.1 over),
      i.2,
    )
