use Rattle.std.proofs.Common.{◌≡◌, ◌∙◌, ap, subst, sym, Some, None, ◌<◌, length}
use Rattle.std.specs.Option.{option_copied}
use Rattle.std.specs.Prelude.{slice_get}
use Rattle.repl_group.specs.Copies.{holds}
use Rattle.repl_group.specs.aids.Logging.{held_at}
use Rattle.repl_group.proofs.KeepLemmas.{nothing_seen, writes_seen}
use Rattle.repl_group.proofs.copies.Copies.holds.Goals as goal

pub holds-requires : goal.holds-requires
holds-requires c =
    let at : slice_get c.self.inside.list.items c.args.copy ≡ Some c.in-Some.replica.now =
    ap (λ l. slice_get l c.args.copy) (sym c.deref.ensures.value) ∙ (sym c.find_replica.ensures ∙ ap (λ o. option_copied o) c.in-Some.is) in
    subst (λ p. p < length c.self.inside.log) (sym c.place.ensures) (c.self.invariant.kept c.args.copy c.in-Some.replica.now at).there

pub returns-in-Some : goal.returns-in-Some
returns-in-Some c =
    let at : slice_get c.self.inside.list.items c.args.copy ≡ Some c.in-Some.replica.now =
    ap (λ l. slice_get l c.args.copy) (sym c.deref.ensures.value) ∙ (sym c.find_replica.ensures ∙ ap (λ o. option_copied o) c.in-Some.is) in
    c.holds.ensures ∙ (ap (λ p. holds (held_at c.self.inside.log p) c.args.ticket) c.place.ensures
    ∙ ap (λ w. holds w c.args.ticket) (sym (writes_seen c.self.inside.log c.self.inside.list.items c.args.self.now c.args.copy c.in-Some.replica.now c.self.view_is at)))

pub returns-in-None : goal.returns-in-None
returns-in-None c =
    let at : slice_get c.self.inside.list.items c.args.copy ≡ None =
    ap (λ l. slice_get l c.args.copy) (sym c.deref.ensures.value) ∙ (sym c.find_replica.ensures ∙ ap (λ o. option_copied o) c.in-None.is) in
    ap (λ w. holds w c.args.ticket) (sym (nothing_seen c.self.inside.log c.self.inside.list.items c.args.self.now c.args.copy c.self.view_is at))
