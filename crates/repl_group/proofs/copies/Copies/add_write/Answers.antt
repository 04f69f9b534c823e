use Rattle.std.proofs.Common.{◌∙◌, ◌<◌, ◌++◌, ◌∷◌, [], ap, subst, sym, length}
use Rattle.repl_group.specs.Copies.{holds}
use Rattle.repl_group.specs.aids.Logging.{held_at}
use Rattle.repl_group.proofs.KeepLemmas.{length_any, kept_added, kept_still, seen_added, seen_still, seen_there, there}
use Rattle.version_pair.proofs.ListLemmas.{same_some}
use Rattle.repl_group.proofs.DueLemmas.{OnErr-always}
use Rattle.repl_group.proofs.copies.Copies.add_write.Goals as goal

pub holds-requires : goal.holds-requires
holds-requires c =
    let at = there c.self.inside.log c.self.inside.list.items c.args.self.now c.args.copy c.index.result.now c.self.view_is c.requires c.index.ensures in
    subst (λ p. p < length c.self.inside.log) (sym c.place-place.ensures) (c.self.invariant.kept c.args.copy c.index.result.now at).there

pub returns-then-holds-clause-ok : goal.returns-then-holds-clause-ok
returns-then-holds-clause-ok c y is =
    let at = there c.self.inside.log c.self.inside.list.items c.args.self.now c.args.copy c.index.result.now c.self.view_is c.requires c.index.ensures in
    seen_there c.self.inside.log c.self.inside.list.items c.args.self.now c.args.copy c.index.result.now c.args.ticket c.args.write y c.self.view_is at is
    (ap (λ p. holds (held_at c.self.inside.log p) c.args.ticket) (sym c.place-place.ensures) ∙ (sym c.holds.ensures ∙ c.if-holds.true))

pub push-requires : goal.push-requires
push-requires c =
    let at = there c.self.inside.log c.self.inside.list.items c.args.self.now c.args.copy c.index.result.now c.self.view_is c.requires c.index.ensures in
    subst (λ p. p < length c.self.inside.log) (sym c.place-place.ensures) (c.self.invariant.kept c.args.copy c.index.result.now at).there

pub invariant_of-self-in_err-add : goal.invariant_of-self-in_err-add
invariant_of-self-in_err-add c =
    let at = there c.self.inside.log c.self.inside.list.items c.args.self.now c.args.copy c.index_mut.result.now c.self.view_is c.requires c.index_mut.ensures.value in
    kept_still c.self.inside.log c.self.inside.list.items c.args.copy c.index_mut.result.now _ c.push.new.self c.add.new.self c.self.invariant at c.in_ok-next.ensures.sets c.in_err-add.ensures.err

pub returns-in_err-add-clause-err : goal.returns-in_err-add-clause-err
returns-in_err-add-clause-err c =
    let at = there c.self.inside.log c.self.inside.list.items c.args.self.now c.args.copy c.index_mut.result.now c.self.view_is c.requires c.index_mut.ensures.value in
    OnErr-always c.from_residual-in_err-add.result
    (seen_still c.self.inside.log c.self.inside.list.items c.args.self.now c.args.copy c.index_mut.result.now _ c.push.new.self c.add.new.self c.self.view_is c.self.invariant at c.in_ok-next.ensures.sets
    c.in_err-add.ensures.err)

pub invariant_of-self-2 : goal.invariant_of-self-2
invariant_of-self-2 c =
    let read = there c.self.inside.log c.self.inside.list.items c.args.self.now c.args.copy c.index.result.now c.self.view_is c.requires c.index.ensures in
    let at = there c.self.inside.log c.self.inside.list.items c.args.self.now c.args.copy c.index_mut.result.now c.self.view_is c.requires c.index_mut.ensures.value in
    let place = c.place-place.ensures ∙ ap (λ z. z.held.place) (same_some _ _ (sym read ∙ at)) in
    kept_added c.self.inside.log c.self.inside.list.items c.args.copy c.index_mut.result.now c.args.ticket c.args.write c.push.new.self c.add.new.self c.self.invariant at
    (c.in_ok-next.ensures.sets ∙ ap (λ p. c.self.inside.log ++ (held_at c.self.inside.log p ++ (c.args.ticket, c.args.write) ∷ []) ∷ []) place)
    (c.in_ok-add.ensures.place ∙ c.in_ok-next.ensures.place) c.in_ok-add.ensures.documents c.in_ok-add.ensures.next

pub returns-clause-ok : goal.returns-clause-ok
returns-clause-ok c y is =
    let read = there c.self.inside.log c.self.inside.list.items c.args.self.now c.args.copy c.index.result.now c.self.view_is c.requires c.index.ensures in
    let at = there c.self.inside.log c.self.inside.list.items c.args.self.now c.args.copy c.index_mut.result.now c.self.view_is c.requires c.index_mut.ensures.value in
    let place = c.place-place.ensures ∙ ap (λ z. z.held.place) (same_some _ _ (sym read ∙ at)) in
    seen_added c.self.inside.log c.self.inside.list.items c.args.self.now c.args.copy c.index_mut.result.now c.args.ticket c.args.write c.push.new.self c.add.new.self y c.self.view_is c.self.invariant at is
    (ap (λ p. holds (held_at c.self.inside.log p) c.args.ticket) (sym place) ∙ (sym c.holds.ensures ∙ c.if-holds.false))
    (c.in_ok-next.ensures.sets ∙ ap (λ p. c.self.inside.log ++ (held_at c.self.inside.log p ++ (c.args.ticket, c.args.write) ∷ []) ∷ []) place)
    (c.in_ok-add.ensures.place ∙ c.in_ok-next.ensures.place)

pub returns-in_err-add-clause-len : goal.returns-in_err-add-clause-len
returns-in_err-add-clause-len c = length_any c.self.inside.log c.push.new.self c.self.inside.list.items c.args.self.now c.args.copy _ c.self.view_is

pub returns-clause-len : goal.returns-clause-len
returns-clause-len c = length_any c.self.inside.log c.push.new.self c.self.inside.list.items c.args.self.now c.args.copy _ c.self.view_is
