use Rattle.std.proofs.Common.{ℕ, ◌≡◌, ◌++◌, List, Some, ap, subst, sym, ◌∙◌}
use Rattle.report.specs.Details.{status_of}
use Rattle.report.specs.Witnessed.{IsWitnessedBy}
use Rattle.result_lines.specs.Objects.{line_of}
use Rattle.stream_io.specs.declared.status.Status.{Status}
use Rattle.casbench.specs.Objects.{IsWitnessInJson}
use Rattle.casbench.proofs.ObjectLemmas.{answered_in_json}
use Rattle.casbench.proofs.objects.witnessed_answer.Goals as goal

pub returns-in_ok-extend_from_slice-in-Answered : goal.returns-in_ok-extend_from_slice-in-Answered
returns-in_ok-extend_from_slice-in-Answered c = λ ruling input is.
    let reading = c.args.reading in
    let reported = c.in-Answered.details.reported in
    let text = c.in_ok-text-in-Answered.text.items in
    let certificate = c.in-Answered.certificate.items in
    let added : c.extend_from_slice.new.self.items ≡ text ++ certificate =
    c.in_ok-extend_from_slice-in-Answered.ensures.items ∙ ap (λ xs. text ++ xs) c.deref.ensures.value in
    let both = subst (IsWitnessedBy ruling reading input) c.in-Answered.is is in
    subst (λ (s : Status). IsWitnessInJson c.args.name.now ruling reading input s c.extend_from_slice.new.self.items) (sym c.status_of-status.ensures)
    (subst (IsWitnessInJson c.args.name.now ruling reading input (status_of reported)) (sym added)
    (answered_in_json c.args.name.now ruling reading input (status_of reported) (line_of reported) text certificate both.0 both.1 both.2
    (c.in_ok-text-in-Answered.ensures (Some input) both.3)))
