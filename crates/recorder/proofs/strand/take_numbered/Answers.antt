use Rattle.std.proofs.Common.{rules, ◌≡◌, ◌<◌, ◌∙◌, Some, ap, length, refl, slice_get}
use Rattle.std.proofs.lemmas.Option.{slice_get_read}
use Rattle.recorder.proofs.MergeLemmas.{entries_taken, rising_after_taken}
use Rattle.recorder.proofs.strand.take_numbered.Goals as goal

pub returns-clause-some : goal.returns-clause-some
returns-clause-some c =
    let within : c.in_ok-strand.strand < length c.args.strands.now.items = search rules in
    let here : slice_get c.args.strands.now.items c.in_ok-strand.strand ≡ Some c.index_mut.result.now =
    slice_get_read c.args.strands.now.items _ c.in_ok-strand.strand c.index_mut.result.now refl within c.index_mut.ensures.value in
    entries_taken c.args.strands.now.items c.in_ok-strand.strand (c.args.number, c.in_ok-event.event) c.take_next.new.self
    (here ∙ ap (λ list. Some list) c.in_ok-event.ensures.some)

pub returns-clause-rising : goal.returns-clause-rising
returns-clause-rising c =
    let within : c.in_ok-strand.strand < length c.args.strands.now.items = search rules in
    let here : slice_get c.args.strands.now.items c.in_ok-strand.strand ≡ Some c.index_mut.result.now =
    slice_get_read c.args.strands.now.items _ c.in_ok-strand.strand c.index_mut.result.now refl within c.index_mut.ensures.value in
    rising_after_taken c.args.strands.now.items c.in_ok-strand.strand (c.args.number, c.in_ok-event.event) c.take_next.new.self
    (here ∙ ap (λ list. Some list) c.in_ok-event.ensures.some)
