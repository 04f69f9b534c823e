use Rattle.std.proofs.Common.{arith, ◌≡◌, ◌+◌, ◌≤◌, length, ap, sym, ◌∙◌}
use Rattle.history.specs.ByRules.{room_of}
use Rattle.report.proofs.RoomLemmas.{room_all, room_next}
use Rattle.report.proofs.searches.room_taken.Goals as goal

pub loop-place-preserved : goal.loop-place-preserved
loop-place-preserved c =
    let event = c.event.result.now in
    let within = c.room_of-room.ensures.within in (
      ap (λ n. c.loop-place.room + n) c.room_of-room.ensures.room
          ∙ (ap (λ n. n + room_of c.args.writes event) c.loop-place.invariant.0
          ∙ sym (room_next c.args.writes c.args.history.now c.loop-place.place event c.event.ensures)),
      omega (arith, within, c.loop-place.invariant.1),
    )

pub returns : goal.returns
returns c =
    let events = c.args.history.now in
    let end : c.loop-place.place ≡ length events = omega (arith, c.loop-place-test.false, c.loop-place.auto.place-end, c.len-place-end.ensures.count) in
    c.loop-place.invariant.0 ∙ room_all c.args.writes events c.loop-place.place end
