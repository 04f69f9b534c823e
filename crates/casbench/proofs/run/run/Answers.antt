use Rattle.std.proofs.Common.{ap, subst, sym}
use Rattle.disturbances.specs.contracts.disturbed_group.DisturbedGroupTarget.TheImpl as group
use Rattle.command_line.specs.declared.request.Request.{Request}
use Rattle.casbench.specs.Requests.{Answers}
use Rattle.casbench.specs.declared.outcome.Outcome.TheVariants.{Answered}
use Rattle.casbench.proofs.run.run.Goals as goal

pub returns-in_ok-status-in-Run-clause-answered : goal.returns-in_ok-status-in-Run-clause-answered
returns-in_ok-status-in-Run-clause-answered g c =
    let done = c.in_ok-status-in-Run in
    subst (λ (r : Request). Answers (group.issued-value).it (group.gave-value).it (g.I.Read.remaining c.args.input)
    (g.W.Write.contents c.args.writer.now) (g.W.Write.contents c.run_played_stream.new.writer) r (Answered done.status)) (sym c.in-Run.is)
    (ap Answered done.ensures.written.0, done.ensures.written.1, done.ensures.in_turns)

pub returns-in_ok-status-in-Search-clause-answered : goal.returns-in_ok-status-in-Search-clause-answered
returns-in_ok-status-in-Search-clause-answered g c =
    let done = c.in_ok-status-in-Search in
    subst (λ (r : Request). Answers (group.issued-value).it (group.gave-value).it (g.I.Read.remaining c.args.input)
    (g.W.Write.contents c.args.writer.now) (g.W.Write.contents c.search_stream.new.writer) r (Answered done.status)) (sym c.in-Search.is) done.ensures.searched
