use Rattle.std.proofs.Common.{◌∙◌, ap, subst, sym, false, true}
use Rattle.repl_group.specs.aids.Keeping.{IsKept}
use Rattle.repl_group.specs.aids.Logging.{held_at}
use Rattle.repl_group.proofs.KeepLemmas.{length_any, kept_set, seen_set, there, writes_seen}
use Rattle.repl_group.proofs.copies.Copies.renew.Goals as goal

pub invariant_of-self : goal.invariant_of-self
invariant_of-self c =
    let at = there c.self.inside.log c.self.inside.list.items c.args.self.now c.args.primary c.index.result.now c.self.view_is c.requires.primary c.index.ensures in
    rw c.renew.ensures
    (kept_set c.self.inside.log c.self.inside.list.items c.args.copy (record { held = c.in_ok-held.held; is_cut = false; is_in_sync = true }) c.self.invariant
    (subst (λ h. IsKept c.self.inside.log h) (sym c.in_ok-held.ensures) (c.self.invariant.kept c.args.primary c.index.result.now at)))

pub returns-clause-ok : goal.returns-clause-ok
returns-clause-ok c =
    let at = there c.self.inside.log c.self.inside.list.items c.args.self.now c.args.primary c.index.result.now c.self.view_is c.requires.primary c.index.ensures in
    rw c.renew.ensures
    (seen_set c.self.inside.log c.self.inside.list.items c.args.self.now c.args.copy (record { held = c.in_ok-held.held; is_cut = false; is_in_sync = true }) _ c.self.view_is
    (ap (λ h. record { writes = held_at c.self.inside.log h.place; is_cut = false; is_in_sync = true }) c.in_ok-held.ensures
    ∙ ap (λ w. record { writes = w; is_cut = false; is_in_sync = true }) (sym (writes_seen c.self.inside.log c.self.inside.list.items c.args.self.now c.args.primary c.index.result.now c.self.view_is at))))

pub returns-clause-len : goal.returns-clause-len
returns-clause-len c = rw c.renew.ensures (length_any c.self.inside.log c.self.inside.log c.self.inside.list.items c.args.self.now c.args.copy _ c.self.view_is)
