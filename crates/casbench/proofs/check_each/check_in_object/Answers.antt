use Rattle.std.proofs.Common.{ℕ, Option, subst, sym}
use Rattle.std.proofs.lemmas.Option.{IfSome_then}
use Rattle.report.specs.Calls.{CountsCalls}
use Rattle.report.specs.Details.{calls_reported}
use Rattle.report.specs.Verdict.{AnswersInput}
use Rattle.result_lines.specs.Objects.{line_of}
use Rattle.stream_io.specs.declared.status.Status.{Status}
use Rattle.casbench.proofs.check_each.check_in_object.Goals as goal

pub returns-clause-answered : goal.returns-clause-answered
returns-clause-answered g c =
    let reported = c.in_ok-details.details.reported in
    let input = g.S.Read.remaining c.args.source.now in
    record {
      line = line_of reported;
      named = c.in_ok-details_object.ensures input c.in_ok-details.ensures.proved;
      answers = subst (λ (s : Status). AnswersInput c.args.options.ruling_out c.args.options.reading input s (line_of reported)) (sym c.status_of.ensures) c.in_ok-details.ensures.answer;
      counted = IfSome_then input c.in_ok-details.ensures.calls (λ bytes counts.
          subst (λ (n : Option ℕ). CountsCalls bytes c.status_of.result n) (sym c.calls_reported.ensures)
          (subst (λ (s : Status). CountsCalls bytes s (calls_reported reported)) (sym c.status_of.ensures) counts));
    }
