use Rattle.std.proofs.Common.{◌≤◌, length, subst}
use Rattle.events.specs.Refusal.{most_events}
use Rattle.std.specs.Prelude.{option_map}
use Rattle.report.specs.aids.Reports.{IsProofOf}
use Rattle.report.proofs.WitnessAnswers.{witnessed_found}
use Rattle.report.proofs.witnessed.witnessed_of.Goals as goal

pub returns-in_ok-write_witness-in-Some : goal.returns-in_ok-write_witness-in-Some
returns-in_ok-write_witness-in-Some c = λ ruling read of.
    let found = c.args.found.now in
    let is = subst (λ p. IsProofOf found.finding found.get (option_map (λ q. q.now) p)) c.in-Some.is c.proof_of.ensures in
    witnessed_found ruling c.args.reading read found c.in-Some.proof.now c.witnesses.result.now c.in_ok-write_witness-in-Some.field-0.items is
    c.history.ensures.history (subst (λ H. length H ≤ most_events) c.history.ensures.same c.len.ensures.within) c.witnesses.ensures.cover c.history.ensures.linearizable c.witnesses.ensures.same
    c.in_ok-write_witness-in-Some.ensures.reads_back of
