use Rattle.std.proofs.Common.{rules, sym, subst}
use Rattle.atomic_table.specs.Table.{Me, Splits}
use Rattle.recorder.specs.declared.clock_view.ClockView.{ClockView}
use Rattle.recorder.specs.Clock.{IsClock, nothing_drawn, split_once_more}
use Rattle.recorder.proofs.ClockLemmas.{splits}
use Rattle.recorder.proofs.clock.Clock.split_off.Goals as goal

pub split_seat-requires : goal.split_seat-requires
split_seat-requires c =
    let maker = c.requires.maker in
    let MaySplit : Me (Unit {0}) ClockView → Type 0 = λ me. Splits IsClock c.args.maker.now.id me.0 (split_once_more me.0) nothing_drawn in
    (search rules, search rules, subst MaySplit (sym maker.2) (splits c.args.maker.now.id maker.0 maker.1))
