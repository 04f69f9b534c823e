use Rattle.std.proofs.lemmas.Option.{slice_get-get_or}
use Rattle.compose.proofs.offence.first_wrong.Goals as goal

pub returns-clause-reply : goal.returns-clause-reply
returns-clause-reply c = (c.requires.replies.each c.loop-left.left.1 _ (slice_get-get_or c.args.places.now c.loop-left.left.1 0 c.loop-left.invariant.within)).0

pub returns-clause-wrong : goal.returns-clause-wrong
returns-clause-wrong c = c.loop-left.invariant.wrong _ (slice_get-get_or c.args.places.now c.loop-left.left.1 0 c.loop-left.invariant.within)
