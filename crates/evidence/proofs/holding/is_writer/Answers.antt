use Rattle.std.proofs.Common.{◌∙◌, Some, ap, true≢false, sym, subst}
use Rattle.evidence.specs.Evidence.{MayTake}
use Rattle.evidence.proofs.EvidenceLemmas.{writer_reported}
use Rattle.evidence.proofs.holding.is_writer.Goals as goal

pub returns-then-may_give : goal.returns-then-may_give
returns-then-may_give c = λ d own.
    let e = c.in-Call in
    let reported = writer_reported c.args.conflicts c.args.history.now d e.id c.args.get c.args.place e.no e.shard e.op c.requires.before (c.event.ensures ∙ ap (λ x. Some x) e.is) in
    let same = c.are_of_one_document.ensures d own in
    let may = c.may_give.ensures.0 c.if-may_give.true in
    (λ holds. reported.0 (may.0, subst (λ o. MayTake c.args.conflicts o c.args.get.pair) c.heard.ensures may.1, same.0 holds), λ writer. same.1 (reported.1 writer).2)

pub returns-else-may_give : goal.returns-else-may_give
returns-else-may_give c = λ d own.
    let e = c.in-Call in
    let reported = writer_reported c.args.conflicts c.args.history.now d e.id c.args.get c.args.place e.no e.shard e.op c.requires.before (c.event.ensures ∙ ap (λ x. Some x) e.is) in (
      λ holds. absurd (true≢false (sym holds ∙ c.if-may_give.false)),
      λ writer. let is = reported.1 writer in c.may_give.ensures.1 (is.0, subst (λ o. MayTake c.args.conflicts o c.args.get.pair) (sym c.heard.ensures) is.1),
    )
