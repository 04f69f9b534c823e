use Rattle.std.proofs.Common.{◌≡◌, ◌≤◌, Ok, subst}
use Rattle.std.specs.Prelude.{IfOk}
use Rattle.history.specs.ByRules.{history_text_by, room_taken}
use Rattle.readings_tests.proofs.tests.judged.read_as.Goals as goal

pub judged_history-requires-clause-void : goal.judged_history-requires-clause-void
judged_history-requires-clause-void c =
    c.texts_are_read_by_rules.ensures.voids c.rules.result c.as_bytes.result.now c.in-Ok.read
    (subst (λ given. IfOk given (λ read. history_text_by c.rules.result c.as_bytes.result.now ≡ Ok read)) c.in-Ok.is c.read_text.ensures.ok)

pub judged_history-requires-clause-room : goal.judged_history-requires-clause-room
judged_history-requires-clause-room c =
    subst (λ rules. room_taken rules.writes c.in-Ok.read.history ≤ 1048576) c.rules.ensures
    (c.texts_are_read_by_rules.ensures.room c.rules.result c.as_bytes.result.now c.in-Ok.read
    (subst (λ given. IfOk given (λ read. history_text_by c.rules.result c.as_bytes.result.now ≡ Ok read)) c.in-Ok.is c.read_text.ensures.ok))
