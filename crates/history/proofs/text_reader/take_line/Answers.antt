use Rattle.std.proofs.Common.{rules}
use Rattle.std.specs.Bool.{IsTrue}
use Rattle.serde_json.specs.View.{view}
use Rattle.api_lines.specs.Fields.{line_seen}
use Rattle.history.proofs.RuledLines.{line_taken}
use Rattle.history.proofs.text_reader.take_line.Goals as goal

pub returns-then-given_fields-clause-ok : goal.returns-then-given_fields-clause-ok
returns-then-given_fields-clause-ok c =
    let reported : IsTrue c.given_fields.result = search rules in
    let given = c.given_fields.ensures reported in
    rw (line_taken c.args.number c.args.read.now c.args.line.now given.0 (line_seen c.given_fields.new.fields) given.1 given.2) c.take_fields.ensures.ok

pub returns-then-given_fields-clause-err : goal.returns-then-given_fields-clause-err
returns-then-given_fields-clause-err c =
    let reported : IsTrue c.given_fields.result = search rules in
    let given = c.given_fields.ensures reported in
    rw (line_taken c.args.number c.args.read.now c.args.line.now given.0 (line_seen c.given_fields.new.fields) given.1 given.2) c.take_fields.ensures.err

pub returns-in-Ok-Some-clause-ok : goal.returns-in-Ok-Some-clause-ok
returns-in-Ok-Some-clause-ok c =
    rw (line_taken c.args.number c.args.read.now c.args.line.now (view c.in-Ok-Some.value) (line_seen c.line_fields.result) (rw c.in-Ok-Some.field-0-is at c.in-Ok-Some.ensures) c.line_fields.ensures) c.take_fields-in-Ok-Some.ensures.ok

pub returns-in-Ok-Some-clause-err : goal.returns-in-Ok-Some-clause-err
returns-in-Ok-Some-clause-err c =
    rw (line_taken c.args.number c.args.read.now c.args.line.now (view c.in-Ok-Some.value) (line_seen c.line_fields.result) (rw c.in-Ok-Some.field-0-is at c.in-Ok-Some.ensures) c.line_fields.ensures) c.take_fields-in-Ok-Some.ensures.err
