use Rattle.std.proofs.Common.{List, ℕ, ◌≡◌, ◌++◌, ap, subst, sym, ◌∙◌}
use Rattle.std.proofs.lemmas.Option.{IfSome_then}
use Rattle.result_lines.specs.Objects.{line_of}
use Rattle.stream_io.specs.declared.status.Status.{Status}
use Rattle.report.specs.Details.{status_of}
use Rattle.report.specs.Verdict.{WitnessesInput}
use Rattle.report.specs.Witnessed.{WitnessesBy}
use Rattle.report.proofs.AnswerLemmas.{is_witness_answer}
use Rattle.report.proofs.witnessed.witness_answer.Goals as goal

pub returns-in_ok-extend_from_slice-in-Answered-clause-text :
    goal.returns-in_ok-extend_from_slice-in-Answered-clause-text
returns-in_ok-extend_from_slice-in-Answered-clause-text g c =
    let ruling = c.args.ruling_out in
    let reading = c.args.reading in
    let input = g.R.Read.remaining c.args.reader.now in
    let reported = c.in-Answered.details.reported in
    let certificate = c.in-Answered.certificate.items in
    let written : c.extend_from_slice.new.self.items ≡ line_of reported ++ certificate =
    c.in_ok-extend_from_slice-in-Answered.ensures.items ∙ ap (λ xs. c.into_bytes-text.result.items ++ xs) c.deref.ensures.value
    ∙ ap (λ xs. xs ++ certificate) (ap (λ v. v.items) c.into_bytes-text.ensures.value ∙ c.in_ok-line-in-Answered.ensures) in
    let by = subst (WitnessesBy ruling reading input) c.in-Answered.is c.in_ok-text.ensures.answer in
    subst (λ (s : Status). WitnessesInput ruling reading input s c.extend_from_slice.new.self.items) (sym c.status_of.ensures)
    (subst (WitnessesInput ruling reading input (status_of reported)) (sym written)
    (IfSome_then input by (λ bytes is. is_witness_answer ruling reading bytes (status_of reported) (line_of reported) certificate is.0 is.1 is.2)))
