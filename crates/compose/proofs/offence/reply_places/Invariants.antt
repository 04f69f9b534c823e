use Rattle.compose.specs.aids.Replies.{AreReplies}
use Rattle.compose.proofs.offence.reply_places.Given as goal

abbrev pub invariant-loop-place : goal.invariant-loop-place
invariant-loop-place l = AreReplies l.history l.place l.places.items
