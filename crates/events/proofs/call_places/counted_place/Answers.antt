use Rattle.std.proofs.Common.{arith, ◌<◌, ◌-◌, length}
use Rattle.events.proofs.CallPlaceLemmas.{present_rising}
use Rattle.events.proofs.call_places.counted_place.Goals as goal

pub returns-then-number-no : goal.returns-then-number-no
returns-then-number-no c =
    let at = length c.args.calls.now - 1 - c.saturating_sub-behind.result in
    let below : at < length c.args.calls.now = omega (arith, c.if-behind-calls.false) in
    present_rising c.args.calls.now c.requires c.args.no at below c.if-number-no.true
