use Rattle.std.proofs.Common.{sym, subst}
use Rattle.std.specs.List.Sorted.{IsPermutation}
use Rattle.atomic_table.specs.Table.{Final, Me, Seen}
use Rattle.std.specs.Mem.Slots.{slots_items}
use Rattle.recorder.specs.declared.clock_view.ClockView.{ClockView}
use Rattle.recorder.specs.Clock.{IsClock, numbers_below, numbers_in}
use Rattle.recorder.proofs.ClockLemmas.{all_gained}
use Rattle.recorder.proofs.clock.Clock.stop.Goals as goal

pub returns : goal.returns
returns c =
    let maker = c.requires.maker in
    let is = maker.4 in
    let words = slots_items c.close_with-closed.result.words in
    let slots = slots_items c.close_with-closed.result.slots in
    let last = subst (λ (me : Me (Unit {0}) ClockView). Final (Seen IsClock c.args.maker.id me.0) words slots) is c.close_with-closed.ensures.values.2 in
    subst (λ (me : Me (Unit {0}) ClockView). IsPermutation (numbers_in me.0) (numbers_below c.word-word.result)) (sym is)
    (all_gained c.args.maker.id maker.0 maker.1 maker.2 words slots maker.3 last c.word-word.result c.word-word.ensures)
