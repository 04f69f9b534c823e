use Rattle.std.proofs.Common.{rules, ◌≡◌, length, sym, subst}
use Rattle.stream_io.proofs.PieceLemmas.{HasWritten, slice_rest, written_all, written_more, written_none, written_part, written_still}
use Rattle.stream_io.proofs.output.write_text.Goals as goal

pub loop-rest-init : goal.loop-rest-init
loop-rest-init g c = written_none (g.W.Write.contents c.args.writer.now) c.args.text.now

pub loop-rest-preserved : goal.loop-rest-preserved
loop-rest-preserved g c =
    subst (HasWritten (g.W.Write.contents c.args.writer.now) (g.W.Write.contents c.write_some.new.writer) c.args.text.now)
    (sym (slice_rest c.in-Some.count c.loop-rest.rest.now))
    (written_more (g.W.Write.contents c.args.writer.now) (g.W.Write.contents c.loop-rest.writer) (g.W.Write.contents c.write_some.new.writer) c.args.text.now
    c.loop-rest.rest.now c.in-Some.count c.loop-rest.invariant c.in-Some.ensures.some)

pub returns-clause-ok : goal.returns-clause-ok
returns-clause-ok g c =
    let empty : length c.loop-rest.rest.now ≡ 0 = search rules in
    written_all (g.W.Write.contents c.args.writer.now) (g.W.Write.contents c.loop-rest.writer) c.args.text.now c.loop-rest.rest.now c.loop-rest.invariant empty

pub returns-in_default-clause-err : goal.returns-in_default-clause-err
returns-in_default-clause-err g c =
    written_part (g.W.Write.contents c.args.writer.now) (g.W.Write.contents c.write_some.new.writer) c.args.text.now c.loop-rest.rest.now
    (written_still (g.W.Write.contents c.args.writer.now) (g.W.Write.contents c.loop-rest.writer) (g.W.Write.contents c.write_some.new.writer) c.args.text.now
    c.loop-rest.rest.now c.loop-rest.invariant c.in_default.ensures.none)
