use Rattle.std.proofs.Common.{◌∙◌, true≢false, sym, subst}
use Rattle.evidence.specs.aids.CallsWithPairs.{IsMissingAs, IsPerformedAs}
use Rattle.evidence.proofs.EvidenceLemmas.{missed_write_reported, missing_replied, missing_within, of_document, write_within}
use Rattle.evidence.proofs.holding.is_missed_write.Goals as goal

pub returns-in_default : goal.returns-in_default
returns-in_default c = (
  λ never. absurd (true≢false (sym never)),
  λ missed. absurd (subst (IsMissingAs c.args.history.now c.args.get) c.in_default.is c.missing_get.ensures missed.doc missed.replied missed.get),
)

pub returns-in_default-performed_write : goal.returns-in_default-performed_write
returns-in_default-performed_write c = (
  λ never. absurd (true≢false (sym never)),
  λ missed. absurd (subst (IsPerformedAs c.args.history.now c.args.write) c.in_default-performed_write.is c.performed_write.ensures missed.doc missed.pair missed.write),
)

pub returns-then-not-is_passed_over : goal.returns-then-not-is_passed_over
returns-then-not-is_passed_over c =
    let reported = missed_write_reported c.args.conflicts c.args.history.now c.args.get c.args.write c.in-Some.missing c.in-Some-performed_write.passed c.requires c.in-Some.ensures c.in-Some-performed_write.ensures in (
      λ never. absurd (true≢false (sym never)),
      λ missed. let is = reported.1 missed in absurd (true≢false (sym (c.is_passed_over.ensures.1 (is.0, is.1)) ∙ c.if-not-is_passed_over.true)),
    )

pub are_of_one_document-requires-clause-one : goal.are_of_one_document-requires-clause-one
are_of_one_document-requires-clause-one c = missing_within c.args.history.now c.args.get c.in-Some.missing c.in-Some.ensures

pub are_of_one_document-requires-clause-two : goal.are_of_one_document-requires-clause-two
are_of_one_document-requires-clause-two c = write_within c.args.history.now c.args.write c.in-Some-performed_write.passed c.in-Some-performed_write.ensures

pub is_without_remover-requires-clause-get : goal.is_without_remover-requires-clause-get
is_without_remover-requires-clause-get c = missing_within c.args.history.now c.args.get c.in-Some.missing c.in-Some.ensures

pub is_without_remover-requires-clause-replied : goal.is_without_remover-requires-clause-replied
is_without_remover-requires-clause-replied c = missing_replied c.args.history.now c.args.get c.in-Some.missing c.requires c.in-Some.ensures

pub returns-then-are_of_one_document : goal.returns-then-are_of_one_document
returns-then-are_of_one_document c =
    let events = c.args.history.now in
    let x = c.in-Some.ensures in
    let reported = missed_write_reported c.args.conflicts events c.args.get c.args.write c.in-Some.missing c.in-Some-performed_write.passed c.requires x c.in-Some-performed_write.ensures in
    let own = of_document events c.in-Some.missing.called c.args.get x.shard x.doc x.op x.call in
    let same = c.are_of_one_document.ensures x.doc own in
    let none = c.is_without_remover.ensures x.doc own in
    let over = c.is_passed_over.ensures.0 c.if-not-is_passed_over.false in
    (λ holds. reported.0 (over.0, over.1, same.0 c.if-are_of_one_document.true, none.0 holds), λ missed. none.1 (reported.1 missed).3)

pub returns-else-are_of_one_document : goal.returns-else-are_of_one_document
returns-else-are_of_one_document c =
    let events = c.args.history.now in
    let x = c.in-Some.ensures in
    let reported = missed_write_reported c.args.conflicts events c.args.get c.args.write c.in-Some.missing c.in-Some-performed_write.passed c.requires x c.in-Some-performed_write.ensures in
    let own = of_document events c.in-Some.missing.called c.args.get x.shard x.doc x.op x.call in
    let same = c.are_of_one_document.ensures x.doc own in (
      λ holds. absurd (true≢false (sym holds ∙ c.if-are_of_one_document.false)),
      λ missed. same.1 (reported.1 missed).2,
    )
