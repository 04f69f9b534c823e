use Rattle.casbench.proofs.ObjectLemmas.{verified_in_json}
use Rattle.stream_io.proofs.WrittenLemmas.{wrote, wrote_front}
use Rattle.casbench.specs.Objects.{VerifiesInJson}
use Rattle.casbench.proofs.objects.verify_in_json.Goals as goal

pub returns-clause-answered : goal.returns-clause-answered
returns-clause-answered g c =
    let history = g.R.Read.remaining c.args.history.now in
    let witness = g.Q.Read.remaining c.args.witness.now in
    wrote c.write_answer.result (VerifiesInJson c.args.name.now c.args.reading history witness) (g.W.Write.contents c.args.writer.now)
    (g.W.Write.contents c.write_answer.new.writer) c.status_of-status.result c.in_ok-text.text.items c.write_answer.ensures
    (verified_in_json c.args.name.now c.args.reading history witness c.in_ok-reported.reported c.status_of-status.result c.in_ok-text.text.items c.status_of-status.ensures
    c.in_ok-reported.ensures.answer (λ h. c.in_ok-text.ensures h))

pub returns-clause-cut_off : goal.returns-clause-cut_off
returns-clause-cut_off g c =
    let history = g.R.Read.remaining c.args.history.now in
    let witness = g.Q.Read.remaining c.args.witness.now in
    wrote_front c.write_answer.result (VerifiesInJson c.args.name.now c.args.reading history witness) (g.W.Write.contents c.args.writer.now)
    (g.W.Write.contents c.write_answer.new.writer) c.status_of-status.result c.in_ok-text.text.items c.write_answer.ensures
    (verified_in_json c.args.name.now c.args.reading history witness c.in_ok-reported.reported c.status_of-status.result c.in_ok-text.text.items c.status_of-status.ensures
    c.in_ok-reported.ensures.answer (λ h. c.in_ok-text.ensures h))
