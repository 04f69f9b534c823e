use Rattle.std.proofs.Common.{◌∙◌, Some, ap, true≢false, sym, subst}
use Rattle.events.specs.declared.event.Event.TheVariants.{Call}
use Rattle.evidence.specs.Evidence.{MayTakeAbove}
use Rattle.evidence.proofs.EvidenceLemmas.{remover_reported}
use Rattle.evidence.proofs.holding.is_remover.Goals as goal

pub returns-then-may_take_above : goal.returns-then-may_take_above
returns-then-may_take_above c = λ d own.
    let e = c.in-Call in
    let reported = remover_reported c.args.conflicts c.args.history.now d e.id c.args.get c.args.pair c.args.place e.no e.shard c.in-Delete.cond c.requires.before
    (c.event.ensures ∙ ap (λ x. Some x) (e.is ∙ ap (λ o. Call e.shard e.no e.id o) c.in-Delete.is)) in
    let same = c.are_of_one_document.ensures d own in
    let may = c.may_take_above.ensures.0 c.if-may_take_above.true in
    (λ holds. reported.0 (subst (λ o. MayTakeAbove c.args.conflicts o c.args.pair) c.heard.ensures may, same.0 holds), λ remover. same.1 (reported.1 remover).1)

pub returns-else-may_take_above : goal.returns-else-may_take_above
returns-else-may_take_above c = λ d own.
    let e = c.in-Call in
    let reported = remover_reported c.args.conflicts c.args.history.now d e.id c.args.get c.args.pair c.args.place e.no e.shard c.in-Delete.cond c.requires.before
    (c.event.ensures ∙ ap (λ x. Some x) (e.is ∙ ap (λ o. Call e.shard e.no e.id o) c.in-Delete.is)) in (
      λ holds. absurd (true≢false (sym holds ∙ c.if-may_take_above.false)),
      λ remover. let is = reported.1 remover in c.may_take_above.ensures.1 (subst (λ o. MayTakeAbove c.args.conflicts o c.args.pair) (sym c.heard.ensures) is.0),
    )
