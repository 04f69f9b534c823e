use Rattle.std.proofs.Common.{◌≡◌, ◌<◌, ◌∙◌, sym, refl, arith, Some}
use Rattle.version_pair.proofs.ListLemmas.{same_some}
use Rattle.repl_group.proofs.LogLemmas.{held_further, held_here, place_within, unheld_at}
use Rattle.repl_group.proofs.write_log.WriteLog.holds.Goals as goal

pub returns-in_default : goal.returns-in_default
returns-in_default c =
    rw (← c.self.view_is)
    (sym (unheld_at c.self.inside.entries.items c.self.inside.first.entries c.args.ticket c.args.place c.copied.result c.self.invariant
    (sym c.get.ensures.value ∙ sym c.copied.ensures) (place_within _ _ c.args.place c.self.view_is c.requires) (λ f at. absurd (c.in_default.not-Some f at))))

pub loop-at-init : goal.loop-at-init
loop-at-init c = (place_within _ _ c.args.place c.self.view_is c.requires, refl)

pub returns-then-entry-ticket : goal.returns-then-entry-ticket
returns-then-entry-ticket c =
    rw (← c.self.view_is)
    (sym (c.loop-at.invariant.1 ∙ held_here c.self.inside.entries.items c.self.inside.first.entries c.args.ticket c.loop-at.at c.index-entry.result.now c.self.invariant
    (omega (arith, c.loop-at-test.true)) c.loop-at.invariant.0 c.index-entry.ensures c.if-entry-ticket.true))

pub loop-at-smaller : goal.loop-at-smaller
loop-at-smaller c =
    (held_further c.self.inside.entries.items c.self.inside.first.entries c.args.ticket c.loop-at.at c.index-entry.result.now c.self.invariant
    (omega (arith, c.loop-at-test.true)) c.loop-at.invariant.0 c.index-entry.ensures c.if-entry-ticket.false).0

pub loop-at-preserved : goal.loop-at-preserved
loop-at-preserved c =
    let further = held_further c.self.inside.entries.items c.self.inside.first.entries c.args.ticket c.loop-at.at c.index-entry.result.now c.self.invariant
    (omega (arith, c.loop-at-test.true)) c.loop-at.invariant.0 c.index-entry.ensures c.if-entry-ticket.false in
    let less : c.index-entry.result.now.before < c.loop-at.at = further.0 in
    let within = c.loop-at.invariant.0 in
    (omega (arith, less, within), c.loop-at.invariant.1 ∙ further.1)

pub returns : goal.returns
returns c =
    let found : c.copied.result ≡ Some c.in-Some.first = c.in-Some.is in
    rw (← c.self.view_is)
    (sym (c.loop-at.invariant.1 ∙ unheld_at c.self.inside.entries.items c.self.inside.first.entries c.args.ticket c.loop-at.at c.copied.result c.self.invariant
    (sym c.get.ensures.value ∙ sym c.copied.ensures) c.loop-at.invariant.0
    (λ f at. let same : f ≡ c.in-Some.first = same_some _ _ (sym at ∙ found) in omega (arith, c.loop-at-test.false))))
