use Rattle.std.proofs.Common.{◌≡◌}
use Rattle.report.proofs.FindingLemmas.{AreSomeLines, room_by_rules, voids_by_rules}
use Rattle.report.proofs.TextInputs.{refused_from, taken_from}
use Rattle.report.proofs.text_input.read_numbered.Goals as goal

pub returns-in_ok-finish-in-Ok-clause-voids : goal.returns-in_ok-finish-in-Ok-clause-voids
returns-in_ok-finish-in-Ok-clause-voids g c =
    let some : AreSomeLines c.args.rules c.take_lines.new.reader.text = rw (c.in-Ok.is, c.new.ensures) at c.in_ok-take_lines.ensures.some in
    voids_by_rules c.args.rules c.take_lines.new.reader.text c.in_ok-finish-in-Ok.field-0.read c.texts_are_read_by_rules.ensures some c.in_ok-finish-in-Ok.ensures

pub returns-in_ok-finish-in-Ok-clause-room : goal.returns-in_ok-finish-in-Ok-clause-room
returns-in_ok-finish-in-Ok-clause-room g c =
    let some : AreSomeLines c.args.rules c.take_lines.new.reader.text = rw (c.in-Ok.is, c.new.ensures) at c.in_ok-take_lines.ensures.some in
    room_by_rules c.args.rules c.take_lines.new.reader.text c.in_ok-finish-in-Ok.field-0.read c.texts_are_read_by_rules.ensures some c.in_ok-finish-in-Ok.ensures

pub returns-in-Err-clause-reported : goal.returns-in-Err-clause-reported
returns-in-Err-clause-reported g c =
    refused_from (λ e. e.fault) c.args.rules c.new.result (g.R.Read.remaining c.args.reader.now) c.take_lines.new.reader.text.state c.in_ok-take_lines.field-0 c.in-Err.refused c.new.ensures
    c.in-Err.is c.in_ok-take_lines.ensures.reported

pub returns-in-Err-clause-taken : goal.returns-in-Err-clause-taken
returns-in-Err-clause-taken g c =
    taken_from c.args.rules c.new.result (g.R.Read.remaining c.args.reader.now) (g.R.Read.remaining c.take_lines.new.input) c.new.ensures c.in_ok-take_lines.ensures.taken

pub returns-in_err-take_lines-clause-taken : goal.returns-in_err-take_lines-clause-taken
returns-in_err-take_lines-clause-taken g c =
    taken_from c.args.rules c.new.result (g.R.Read.remaining c.args.reader.now) (g.R.Read.remaining c.take_lines.new.input) c.new.ensures c.in_err-take_lines.ensures.taken
