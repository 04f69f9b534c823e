use Rattle.std.proofs.Common.{subst, sym, ◌+◌}
use Rattle.compose.specs.aids.Replies.{AreReplies}
use Rattle.compose.proofs.OffenceLemmas.{next_event}
use Rattle.compose.proofs.offence.reply_places.Goals as goal

pub loop-place-preserved : goal.loop-place-preserved
loop-place-preserved c =
    subst (AreReplies c.args.history.now (c.loop-place.place + 1)) (sym c.in_ok-note_reply.ensures)
    (next_event c.args.history.now c.loop-place.place c.loop-place.places.items c.event.result.now c.loop-place.invariant c.event.ensures)
