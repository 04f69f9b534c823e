use Rattle.std.proofs.Common.{subst, sym}
use Rattle.report.specs.Verdict.{AnswersInput}
use Rattle.result_lines.specs.Objects.{line_of}
use Rattle.stream_io.specs.declared.status.Status.{Status}
use Rattle.casbench.proofs.objects.explained_object.Goals as goal

pub returns-clause-answered : goal.returns-clause-answered
returns-clause-answered g c =
    let found = c.in_ok-found.found in
    let line = line_of found.details.reported in
    let input = g.R.Read.remaining c.args.history.now in (
      line,
      subst (λ (s : Status). AnswersInput c.args.options.ruling_out c.args.options.reading input s line) (sym c.status_of-status.ensures) c.in_ok-found.ensures.answer,
      c.in_ok-text.ensures input c.in_ok-found.ensures.proved,
    )
