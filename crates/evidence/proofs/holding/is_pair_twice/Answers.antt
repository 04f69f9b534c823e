use Rattle.std.proofs.Common.{true≢false, sym, subst}
use Rattle.evidence.specs.aids.CallsWithPairs.{IsPerformedAs}
use Rattle.evidence.proofs.EvidenceLemmas.{twice_reported}
use Rattle.evidence.proofs.holding.is_pair_twice.Goals as goal

pub returns-in_default : goal.returns-in_default
returns-in_default c = (
  λ never. absurd (true≢false (sym never)),
  λ twice. absurd (subst (IsPerformedAs c.args.history.now c.args.one) c.in_default.is c.performed_write.ensures twice.doc twice.pair twice.one),
)

pub returns-in_default-performed_write : goal.returns-in_default-performed_write
returns-in_default-performed_write c = (
  λ never. absurd (true≢false (sym never)),
  λ twice. absurd (subst (IsPerformedAs c.args.history.now c.args.two) c.in_default-performed_write.is c.performed_write-2.ensures twice.other twice.pair twice.two),
)

pub returns : goal.returns
returns c =
    let reported = twice_reported c.args.history.now c.args.one c.args.two c.in-Some.first c.in-Some-performed_write.second c.requires c.in-Some.ensures c.in-Some-performed_write.ensures
    c.if-one-two.false in
    (λ holds. reported.0 (c.take_one_pair.ensures.0 holds), λ twice. c.take_one_pair.ensures.1 (reported.1 twice))
