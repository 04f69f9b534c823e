use Rattle.std.proofs.Common.{◌≡◌, rules, length, subst, sym}
use Rattle.std.proofs.lemmas.Result.{err_from_is_err_and}
use Rattle.api_lines.proofs.LineByLine.{taken_more, taken_until}
use Rattle.api_lines.proofs.ReadingLemmas.{IsReadUpTo, read_all, read_none}
use Rattle.api_lines.proofs.line_reader.take_text.Goals as goal

pub loop-rest-init : goal.loop-rest-init
loop-rest-init g c =
    let start = (g.L.LineReader.reached c.args.reader.now).state in
    subst (λ n. IsReadUpTo g.L.LineReader.takes start c.args.text.now c.args.text.now n start) (sym c.requires)
    (read_none g.L.LineReader.takes start c.args.text.now)

pub returns-in_err-line-clause-fault : goal.returns-in_err-line-clause-fault
returns-in_err-line-clause-fault g c =
    let p = err_from_is_err_and c.from_residual.result c.from_residual.ensures.1 in
    rw (p.1, p.2) (
    taken_until g.L.LineReader.takes (g.L.LineReader.reached c.args.reader.now).state c.args.text.now c.loop-rest.rest.now c.first_line.result.1.now
    c.first_line.result.0.now (g.L.LineReader.reached c.loop-rest.reader) c.in_err-line.field-0.0
    c.loop-rest.invariant c.first_line.ensures.lines c.in_err-line.ensures.fault)

pub loop-rest-preserved : goal.loop-rest-preserved
loop-rest-preserved g c =
    taken_more g.L.LineReader.takes (g.L.LineReader.reached c.args.reader.now).state c.args.text.now c.loop-rest.rest.now c.first_line.result.1.now
    c.first_line.result.0.now (g.L.LineReader.reached c.loop-rest.reader) (g.L.LineReader.reached c.line.new.self)
    c.loop-rest.invariant c.first_line.ensures.lines c.in_ok-line.ensures.ok c.in_ok-line.ensures.within

pub returns-clause-ok : goal.returns-clause-ok
returns-clause-ok g c =
    let end : length c.loop-rest.rest.now ≡ 0 = search rules in
    read_all g.L.LineReader.takes (g.L.LineReader.reached c.args.reader.now).state c.args.text.now c.loop-rest.rest.now (g.L.LineReader.reached c.loop-rest.reader).lines
    (g.L.LineReader.reached c.loop-rest.reader).state c.loop-rest.invariant end
