use Rattle.std.proofs.Common.{length, subst, sym}
use Rattle.events.specs.Events.{IsHistory}
use Rattle.events.specs.Order.{IsLegalInResponseOrder}
use Rattle.compose.specs.aids.Replies.{AreReplies}
use Rattle.compose.proofs.OffenceLemmas.{some_reply, wrong_from_last}
use Rattle.compose.proofs.offence.first_offence.Goals as goal

pub first_wrong-requires-clause-some : goal.first_wrong-requires-clause-some
first_wrong-requires-clause-some c =
    let H = c.history-history.result.now in
    some_reply H c.deref.result.now c.late_calls.ensures (subst IsHistory (sym c.history-history.ensures.same) c.history-history.ensures.history)
    (subst (AreReplies H (length H)) (sym c.deref.ensures.value) c.in_ok-places.ensures)
    (λ right. c.history-history.ensures.none.not_right (subst IsLegalInResponseOrder c.history-history.ensures.same right))

pub first_wrong-requires-clause-wrong : goal.first_wrong-requires-clause-wrong
first_wrong-requires-clause-wrong c =
    let H = c.history-history.result.now in
    wrong_from_last H c.deref.result.now c.late_calls.ensures (subst IsHistory (sym c.history-history.ensures.same) c.history-history.ensures.history)
    (subst (AreReplies H (length H)) (sym c.deref.ensures.value) c.in_ok-places.ensures)
    (λ right. c.history-history.ensures.none.not_right (subst IsLegalInResponseOrder c.history-history.ensures.same right))
