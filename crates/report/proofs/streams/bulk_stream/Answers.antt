use Rattle.report.specs.Bulk.{AnswersBulk}
use Rattle.report.proofs.AnswerLemmas.{bulk_of_inputs}
use Rattle.stream_io.proofs.WrittenLemmas.{wrote_front}
use Rattle.report.proofs.streams.bulk_stream.Goals as goal

pub returns-clause-cut_off : goal.returns-clause-cut_off
returns-clause-cut_off g c =
    wrote_front c.write_answer.result (AnswersBulk c.args.first (g.R.Read.remaining c.args.body.now) (g.Q.Read.remaining c.args.reply.now)) (g.W.Write.contents c.args.writer.now)
    (g.W.Write.contents c.write_answer.new.writer) c.in_ok-answer.answer.status c.in_ok-answer.answer.text.items c.write_answer.ensures
    (bulk_of_inputs c.args.first c.deref.result.now c.deref-2.result.now c.in_ok-body.body.items c.in_ok-reply.reply.items (g.R.Read.remaining c.args.body.now) (g.Q.Read.remaining c.args.reply.now) c.in_ok-answer.answer.status
    c.in_ok-answer.answer.text.items c.deref.ensures.value c.deref-2.ensures.value c.in_ok-body.ensures.all c.in_ok-reply.ensures.all c.in_ok-answer.ensures)
