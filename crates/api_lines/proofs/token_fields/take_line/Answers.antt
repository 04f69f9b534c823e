use Rattle.std.proofs.Common.{◌≡◌, [], arith}
use Rattle.api_lines.proofs.token_fields.take_line.Goals as goal

pub returns-then-is_over : goal.returns-then-is_over
returns-then-is_over g c =
    let found = c.in_ok-take_members.ensures.read in
    let none : g.T.TokenReader.left c.take_members.new.tokens ≡ [] = grind arith in
    (g.T.TokenReader.left c.open_object.new.self, found.0, c.in_ok-open_object.ensures, rw none at found.1, found.2)
