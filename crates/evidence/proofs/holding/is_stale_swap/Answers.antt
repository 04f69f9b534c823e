use Rattle.std.proofs.Common.{◌∙◌, true≢false, sym, subst}
use Rattle.evidence.specs.aids.CallsWithPairs.{IsPerformedAs}
use Rattle.evidence.proofs.EvidenceLemmas.{of_document, stale_swap_reported, write_within}
use Rattle.evidence.proofs.holding.is_stale_swap.Goals as goal

pub returns-in_default : goal.returns-in_default
returns-in_default c = (
  λ never. absurd (true≢false (sym never)),
  λ stale. absurd (subst (IsPerformedAs c.args.history.now c.args.one) c.in_default.is c.performed_write.ensures stale.doc stale.pair stale.one),
)

pub returns-in_default-performed_write : goal.returns-in_default-performed_write
returns-in_default-performed_write c = (
  λ never. absurd (true≢false (sym never)),
  λ stale. absurd (subst (IsPerformedAs c.args.history.now c.args.two) c.in_default-performed_write.is c.performed_write-2.ensures stale.doc stale.later stale.two),
)

pub are_of_one_document-requires-clause-one : goal.are_of_one_document-requires-clause-one
are_of_one_document-requires-clause-one c = write_within c.args.history.now c.args.one c.in-Some.first c.in-Some.ensures

pub are_of_one_document-requires-clause-two : goal.are_of_one_document-requires-clause-two
are_of_one_document-requires-clause-two c = write_within c.args.history.now c.args.two c.in-Some-performed_write.second c.in-Some-performed_write.ensures

pub returns-then-asks_too_little : goal.returns-then-asks_too_little
returns-then-asks_too_little c =
    let events = c.args.history.now in
    let first = c.in-Some.first in
    let x = c.in-Some.ensures in
    let reported = stale_swap_reported events c.args.one c.args.two first c.in-Some-performed_write.second c.requires x c.in-Some-performed_write.ensures c.if-one-two.false in
    let same = c.are_of_one_document.ensures x.doc (of_document events first.called c.args.one first.shard x.doc first.op x.call) in
    (λ holds. reported.0 (c.asks_too_little.ensures.0 c.if-asks_too_little.true, same.0 holds), λ stale. same.1 (reported.1 stale).1)

pub returns-else-asks_too_little : goal.returns-else-asks_too_little
returns-else-asks_too_little c =
    let reported = stale_swap_reported c.args.history.now c.args.one c.args.two c.in-Some.first c.in-Some-performed_write.second c.requires c.in-Some.ensures c.in-Some-performed_write.ensures
    c.if-one-two.false in (
      λ holds. absurd (true≢false (sym holds ∙ c.if-asks_too_little.false)),
      λ stale. c.asks_too_little.ensures.1 (reported.1 stale).0,
    )
