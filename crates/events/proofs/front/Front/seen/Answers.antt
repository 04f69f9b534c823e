use Rattle.std.proofs.Common.{◌∙◌, ap}
use Rattle.events.specs.Seen.{seen_with}
use Rattle.events.proofs.PlaceLemmas.{seen_one_more}
use Rattle.events.proofs.front.Front.seen.Goals as goal

pub loop-place-preserved : goal.loop-place-preserved
loop-place-preserved c =
    c.with-seen.ensures
    ∙ (ap (seen_with c.loop-place.seen) c.event_pair.ensures
    ∙ seen_one_more c.args.self.now c.loop-place.place c.event.result.now c.loop-place.seen c.event.ensures c.loop-place.invariant)
