use Rattle.std.proofs.Common.{◌∙◌, true≢false, sym, subst}
use Rattle.evidence.specs.aids.CallsWithPairs.{IsFoundAs, IsPerformedAs}
use Rattle.evidence.proofs.EvidenceLemmas.{get_within, of_document, stale_get_reported, write_within}
use Rattle.evidence.proofs.holding.is_stale_get.Goals as goal

pub returns-in_default : goal.returns-in_default
returns-in_default c = (
  λ never. absurd (true≢false (sym never)),
  λ stale. absurd (subst (IsFoundAs c.args.history.now c.args.get) c.in_default.is c.found_get.ensures stale.doc stale.replied stale.found stale.number stale.get),
)

pub returns-in_default-performed_write : goal.returns-in_default-performed_write
returns-in_default-performed_write c = (
  λ never. absurd (true≢false (sym never)),
  λ stale. absurd (subst (IsPerformedAs c.args.history.now c.args.write) c.in_default-performed_write.is c.performed_write.ensures stale.doc stale.pair stale.write),
)

pub are_of_one_document-requires-clause-one : goal.are_of_one_document-requires-clause-one
are_of_one_document-requires-clause-one c = get_within c.args.history.now c.args.get c.in-Some.found c.in-Some.ensures

pub are_of_one_document-requires-clause-two : goal.are_of_one_document-requires-clause-two
are_of_one_document-requires-clause-two c = write_within c.args.history.now c.args.write c.in-Some-performed_write.newer c.in-Some-performed_write.ensures

pub returns-then-is_overtaken : goal.returns-then-is_overtaken
returns-then-is_overtaken c =
    let events = c.args.history.now in
    let get = c.in-Some.found in
    let write = c.in-Some-performed_write.newer in
    let x = c.in-Some.ensures in
    let reported = stale_get_reported events c.args.get c.args.write get write c.requires x c.in-Some-performed_write.ensures in
    let same = c.are_of_one_document.ensures x.doc (of_document events get.called c.args.get x.shard x.doc x.op x.call) in
    let over = c.is_overtaken.ensures.0 c.if-is_overtaken.true in
    (λ holds. reported.0 (over.0, over.1, same.0 holds), λ stale. same.1 (reported.1 stale).2)

pub returns-else-is_overtaken : goal.returns-else-is_overtaken
returns-else-is_overtaken c =
    let reported = stale_get_reported c.args.history.now c.args.get c.args.write c.in-Some.found c.in-Some-performed_write.newer c.requires c.in-Some.ensures c.in-Some-performed_write.ensures in (
      λ holds. absurd (true≢false (sym holds ∙ c.if-is_overtaken.false)),
      λ stale. let is = reported.1 stale in c.is_overtaken.ensures.1 (is.0, is.1),
    )
