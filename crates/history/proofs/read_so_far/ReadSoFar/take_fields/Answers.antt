use Rattle.std.proofs.Common.{ap, sym, subst, Err, Ok, ◌≡◌, ◌∙◌}
use Rattle.api_lines.specs.Faults.{IfReported}
use Rattle.api_lines.specs.Fields.{line_seen}
use Rattle.history.specs.ByRules.{takes_line_by}
use Rattle.history.specs.aids.Rules.{with_number}
use Rattle.history.proofs.RuledLines.{line_refused_by, state_after}
use Rattle.history.proofs.TextReading.{said_has_shard}
use Rattle.history.proofs.read_so_far.ReadSoFar.take_fields.Goals as goal

pub take_in_room-requires-clause-shard : goal.take_in_room-requires-clause-shard
take_in_room-requires-clause-shard c = said_has_shard (line_seen c.args.line.now) c.in_ok-said.said (sym c.in_ok-said.ensures)

pub returns-in-Err-clause-err : goal.returns-in-Err-clause-err
returns-in-Err-clause-err c =
    let i = c.self.inside in
    subst (λ s. IfReported c.in-Err.fault (λ cause. takes_line_by s (line_seen c.args.line.now) ≡ Err cause)) c.self.view_is
    (line_refused_by (record { rules = i.rules; read = record { history = i.history; voids = i.voids.items } }) (line_seen c.args.line.now) c.in_ok-is_void.is_void
    c.in_ok-said.said c.in-Err.fault c.in_ok-is_void.ensures c.in_ok-said.ensures c.in-Err.ensures.err)

pub returns-in-Ok-clause-ok : goal.returns-in-Ok-clause-ok
returns-in-Ok-clause-ok c =
    let i = c.self.inside in
    subst
    (λ s. takes_line_by s (line_seen c.args.line.now)
    ≡ Ok (record { rules = i.rules; read = record { history = c.take_in_room.new.history; voids = c.add_number.new.numbers.items } }))
    c.self.view_is
    (state_after (record { rules = i.rules; read = record { history = i.history; voids = i.voids.items } }) (line_seen c.args.line.now) c.in_ok-is_void.is_void
    c.in_ok-said.said c.number_voided-voided.result c.take_in_room.new.history c.add_number.new.numbers.items c.in_ok-is_void.ensures c.in_ok-said.ensures
    c.number_voided-voided.ensures c.in-Ok.ensures.ok (c.add_number.ensures ∙ ap (with_number c.number_voided-voided.result) c.reserve_number.ensures.same))
