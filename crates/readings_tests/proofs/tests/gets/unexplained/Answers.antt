use Rattle.std.proofs.Common.{◌≡◌, Ok, subst}
use Rattle.std.specs.Prelude.{IfOk}
use Rattle.history.specs.ByRules.{history_text_by}
use Rattle.readings_tests.proofs.tests.gets.unexplained.Goals as goal

pub unexplained_get-requires : goal.unexplained_get-requires
unexplained_get-requires c =
    c.texts_are_read_by_rules.ensures.voids c.rules.result c.as_bytes.result.now c.in-Ok.read
    (subst (λ given. IfOk given (λ read. history_text_by c.rules.result c.as_bytes.result.now ≡ Ok read)) c.in-Ok.is c.read_text.ensures.ok)
