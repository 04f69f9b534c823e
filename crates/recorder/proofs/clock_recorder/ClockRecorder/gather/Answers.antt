use Rattle.std.proofs.Common.{rules, All, ◌≡◌, ◌∙◌, ◌∷◌, ◌++◌, [], ap, length, subst, sym, vec_len}
use Rattle.std.specs.List.Sorted.{IsPermutation}
use Rattle.std.proofs.lemmas.Iterator.Adapters.{YieldsList-from_vec}
use Rattle.std.proofs.lemmas.Iterator.Consumers.{YieldsList-end}
use Rattle.std.proofs.lemmas.List.{map-id}
use Rattle.std.proofs.lemmas.List.Elements.{All-push}
use Rattle.recorder.specs.Clock.{numbers_below, numbers_in}
use Rattle.recorder.specs.Recordings.{entries_of}
use Rattle.recorder.specs.aids.Notes.{IsPenList, numbers_of}
use Rattle.recorder.proofs.DenseLemmas.{dense_after, full_after}
use Rattle.recorder.proofs.GatherLemmas.{gained_more, joined_one_more, lists_push, past_gained}
use Rattle.recorder.proofs.clock_recorder.ClockRecorder.gather.Goals as goal

pub loop-pen-preserved : goal.loop-pen-preserved
loop-pen-preserved c =
    let l = c.loop-pen in
    let pen = c.in-Some.pen in
    let strand = c.into_parts-strand.result.0 in
    let parts = c.into_parts-strand.ensures in
    let view = l.invariant.view in
    let drew = parts.seat.1 in
    let grown : c.push.new.self.items ≡ l.strands.items ++ strand ∷ [] = c.in_ok-push.ensures.items in
    let same : strand ≡ pen.pen.list = parts.list.0 in
    let named : c.push.new.self.items ≡ l.strands.items ++ pen.pen.list ∷ [] = grown ∙ ap (λ list. l.strands.items ++ list ∷ []) same in
    record {
      lists = named ∙ (ap (λ lists. lists ++ pen.pen.list ∷ []) l.invariant.lists ∙ sym (lists_push l.yielded pen));
      kept = subst (λ lists. All IsPenList lists) (sym named) (All-push IsPenList l.strands.items pen.pen.list l.invariant.kept parts.list.1);
      of_clock = search rules;
      view = (
        view.0 ++ drew.0,
        joined_one_more c.args.self.pens l.yielded pen view.0 drew.0 l.maker.me c.into_parts-strand.result.1.me c.join.new.maker.me view.1 drew.1 c.join.ensures.maker,
        gained_more l.strands.items pen.pen.list view.0 drew.0 view.2 drew.2 ∙ ap (λ lists. numbers_of (entries_of lists)) (sym named),
        past_gained l.yielded pen view.0 drew.0 view.3 drew.3,
      );
    }

pub returns-clause-dense : goal.returns-clause-dense
returns-clause-dense c =
    let l = c.loop-pen in
    let view = l.invariant.view in
    dense_after l.strands.items view.0 c.stop.result
    (subst (λ ns. IsPermutation ns (numbers_below c.stop.result)) (ap (λ me. numbers_in me.0) view.1) c.stop.ensures) view.2

pub returns-clause-full : goal.returns-clause-full
returns-clause-full c full =
    let l = c.loop-pen in
    let view = l.invariant.view in
    let pens = c.args.pens.items in
    let given = c.into_iter-pen-iterator.ensures.into_iter_gives in
    let size : vec_len c.args.pens ≡ length pens = search rules in
    let lists = YieldsList-from_vec pens given.0 (given.1 ∙ size) in
    let whole : l.yielded ≡ pens =
    sym (map-id l.yielded) ∙ (YieldsList-end lists l.yielded l.pen-iterator l.yielded_by c.next.result c.next.new.self c.in-None.is c.next.ensures.steps).0 in
    full_after l.strands.items view.0 c.stop.result
    (subst (λ ns. IsPermutation ns (numbers_below c.stop.result)) (ap (λ me. numbers_in me.0) view.1) c.stop.ensures) view.2 (view.3 (rw whole full))
