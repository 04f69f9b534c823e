use Rattle.std.proofs.Common.{◌≡◌, ◌∙◌, ◌<◌, ◌≤◌, ap, subst, sym, length, refl, Some, arith}
use Rattle.std.proofs.lemmas.List.{take_all}
use Rattle.std.proofs.lemmas.Option.{slice_get_read}
use Rattle.std.specs.List.{list_all}
use Rattle.std.specs.Prelude.{slice_get}
use Rattle.repl_group.specs.Copies.{holds}
use Rattle.repl_group.specs.aids.Logging.{held_at}
use Rattle.repl_group.proofs.KeepLemmas.{all_seen, has_or_lags, lacks}
use Rattle.repl_group.proofs.ListLemmas.{not_all}
use Rattle.repl_group.proofs.copies.Copies.is_on_all_in_sync.Goals as goal

pub holds-requires : goal.holds-requires
holds-requires c =
    let at : slice_get c.self.inside.list.items c.loop-replica.replica-index ≡ Some c.replica-item.result =
    ap (λ l. slice_get l c.loop-replica.replica-index) (sym c.deref-replica-items.ensures.value)
    ∙ slice_get_read c.deref-replica-items.result.now (length c.deref-replica-items.result.now) c.loop-replica.replica-index c.replica-item.result refl c.loop-replica-test.true c.replica-item.is in
    subst (λ p. p < length c.self.inside.log) (sym c.place.ensures) (c.self.invariant.kept c.loop-replica.replica-index c.replica-item.result at).there

pub returns-then-not-holds : goal.returns-then-not-holds
returns-then-not-holds c =
    let at : slice_get c.self.inside.list.items c.loop-replica.replica-index ≡ Some c.replica-item.result =
    ap (λ l. slice_get l c.loop-replica.replica-index) (sym c.deref-replica-items.ensures.value)
    ∙ slice_get_read c.deref-replica-items.result.now (length c.deref-replica-items.result.now) c.loop-replica.replica-index c.replica-item.result refl c.loop-replica-test.true c.replica-item.is in
    sym (all_seen c.self.inside.log c.self.inside.list.items c.args.self.now c.args.ticket c.self.view_is
    ∙ not_all (has_or_lags c.self.inside.log c.args.ticket) c.self.inside.list.items c.loop-replica.replica-index c.replica-item.result at
    (lacks c.self.inside.log c.args.ticket c.replica-item.result c.if-replica.true
    (ap (λ p. holds (held_at c.self.inside.log p) c.args.ticket) (sym c.place.ensures) ∙ (sym c.holds.ensures ∙ c.if-not-holds.true))))

pub returns : goal.returns
returns c =
    let same = c.deref-replica-items.ensures.value in
    let whole : length c.self.inside.list.items ≤ c.loop-replica.replica-index = let equal = ap length same in omega (arith, c.loop-replica-test.false, equal) in
    sym (all_seen c.self.inside.log c.self.inside.list.items c.args.self.now c.args.ticket c.self.view_is
    ∙ (ap (list_all (has_or_lags c.self.inside.log c.args.ticket)) (sym (take_all c.loop-replica.replica-index c.self.inside.list.items whole)) ∙ c.loop-replica.invariant))
