use Rattle.std.proofs.Common.{rules, ◌+◌, ◌%◌, ◌^◌, sym, subst}
use mathlib.Core.Option.{none}
use Rattle.atomic_table.specs.Table.{Allows, Me, step}
use Rattle.recorder.specs.declared.clock_view.ClockView.{ClockView}
use Rattle.recorder.specs.Clock.{Draws, IsClock}
use Rattle.recorder.proofs.ClockLemmas.{draws}
use Rattle.recorder.proofs.clock.Clock.draw.Goals as goal

pub fetch_add-requires : goal.fetch_add-requires
fetch_add-requires c =
    let slots = c.self.inside.table.shared.table_id.slots in
    let pen = c.requires.pen in
    let MayDraw : Me (Unit {0}) ClockView → Type 0 =
    λ me. Allows IsClock slots c.args.pen.now.id me 0 (λ n. (n + 1) % 2 ^ 64) (Draws (step slots 0 1 0 none) me) in
    (search rules, search rules, subst MayDraw (sym pen.2) (draws slots c.args.pen.now.id pen.0 pen.1))
