use Rattle.std.proofs.lemmas.Option.{IfSome_then}
use Rattle.stream_io.proofs.WrittenLemmas.{wrote, wrote_front}
use Rattle.casbench.specs.Objects.{WitnessesInJson}
use Rattle.casbench.proofs.objects.witness_in_json.Goals as goal

pub returns-clause-answered : goal.returns-clause-answered
returns-clause-answered g c =
    let input = g.R.Read.remaining c.args.history.now in
    wrote c.write_answer.result (WitnessesInJson c.args.name.now c.args.ruling_out c.args.reading input) (g.W.Write.contents c.args.writer.now)
    (g.W.Write.contents c.write_answer.new.writer) c.in_ok-answer.answer.status c.in_ok-answer.answer.text.items c.write_answer.ensures
    (IfSome_then input c.in_ok-found.ensures.answer (λ bytes is. c.in_ok-answer.ensures c.args.ruling_out bytes is))

pub returns-clause-cut_off : goal.returns-clause-cut_off
returns-clause-cut_off g c =
    let input = g.R.Read.remaining c.args.history.now in
    wrote_front c.write_answer.result (WitnessesInJson c.args.name.now c.args.ruling_out c.args.reading input) (g.W.Write.contents c.args.writer.now)
    (g.W.Write.contents c.write_answer.new.writer) c.in_ok-answer.answer.status c.in_ok-answer.answer.text.items c.write_answer.ensures
    (IfSome_then input c.in_ok-found.ensures.answer (λ bytes is. c.in_ok-answer.ensures c.args.ruling_out bytes is))
