use Rattle.std.proofs.Common.{rules, ap, sym, subst}
use Rattle.atomic_table.specs.Table.{Joins, Me}
use Rattle.recorder.specs.declared.clock_view.ClockView.{ClockView}
use Rattle.recorder.specs.declared.clock_view.ClockView.TheVariants.{Maker, Spent}
use Rattle.recorder.specs.Clock.{IsClock, seat_with, with_joined}
use Rattle.recorder.proofs.ClockLemmas.{joins}
use Rattle.recorder.proofs.clock.Clock.join.Goals as goal

pub join_seat-requires : goal.join_seat-requires
join_seat-requires c =
    let maker = c.requires.maker in
    let pen = c.requires.pen in
    let known : Me (Unit {0}) ClockView = seat_with (Maker maker.0 maker.1 maker.2) in
    let MayJoin : Me (Unit {0}) ClockView → Me (Unit {0}) ClockView → Type 0 =
    λ me other. Joins IsClock c.args.maker.now.id me.0 c.args.pen.id other.0 (with_joined me.0 other.0) Spent in (
      search rules,
      search rules,
      ap (λ me. me.1) pen.1,
      search rules,
      subst (λ me. MayJoin me c.args.pen.me) (sym maker.3)
          (subst (MayJoin known) (sym pen.1) (joins c.args.maker.now.id maker.0 maker.1 maker.2 c.args.pen.id pen.0)),
    )
