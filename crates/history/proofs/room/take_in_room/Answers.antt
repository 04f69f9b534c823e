use Rattle.std.proofs.Common.{arith, ◌+◌}
use Rattle.api_lines.specs.Fields.{body_seen}
use Rattle.history.proofs.RuledLines.{refused_without_room, taken_in_room}
use Rattle.history.proofs.room.take_in_room.Goals as goal

pub returns-then-after-gt-MOST_EVENTS-clause-err : goal.returns-then-after-gt-MOST_EVENTS-clause-err
returns-then-after-gt-MOST_EVENTS-clause-err c =
    refused_without_room c.args.writes c.args.history.now (body_seen c.args.body.now) c.args.said c.args.room c.refusal_without_room.result c.requires.taken
    (omega arith) c.refusal_without_room.ensures

pub returns-clause-ok : goal.returns-clause-ok
returns-clause-ok c =
    (taken_in_room c.args.writes c.args.history.now c.take_said.new.history (body_seen c.args.body.now) c.args.said c.args.room (c.args.room + c.room_of.result)
    c.requires.taken (omega arith) (omega arith) c.in_ok-take_said.ensures.ok).0

pub returns-clause-room : goal.returns-clause-room
returns-clause-room c =
    (taken_in_room c.args.writes c.args.history.now c.take_said.new.history (body_seen c.args.body.now) c.args.said c.args.room (c.args.room + c.room_of.result)
    c.requires.taken (omega arith) (omega arith) c.in_ok-take_said.ensures.ok).1
