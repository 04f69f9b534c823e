use Rattle.std.proofs.Common.{subst, sym}
use Rattle.readings.specs.WayBack.{IsKept}
use Rattle.report.specs.Findings.{IsFoundOfGets}
use Rattle.report.specs.aids.Counting.{AreCountsOf}
use Rattle.report.proofs.verify_answer.covered_reported.Goals as goal

pub returns-in-Some : goal.returns-in-Some
returns-in-Some c = λ read kept. subst (IsFoundOfGets c.args.reading read) c.in-Some.is (c.in_ok-get.ensures read c.args.proof.now.events kept)

pub returns-in-None : goal.returns-in-None
returns-in-None c = λ read kept. (
  subst (λ H. AreCountsOf c.args.reading c.args.proof.now H c.counts_of.result)
      (c.text_history-text.ensures c.args.reading read (subst (λ H. IsKept c.args.reading read H c.args.text.now) (sym c.history.ensures.same) kept)) c.counts_of.ensures,
  subst (IsFoundOfGets c.args.reading read) c.in-None.is (c.in_ok-get.ensures read c.args.proof.now.events kept),
)
