use Rattle.std.proofs.Common.{rules, ◌≡◌, ◌<◌, ◌∷◌, Some, length, refl, slice_get, subst, take, arith}
use Rattle.std.specs.List.{enumerate_from}
use Rattle.std.specs.List.Sorted.{IsPermutation}
use Rattle.std.proofs.lemmas.Option.{slice_get_read}
use Rattle.events.specs.declared.event.Event.{Event}
use Rattle.events.specs.Events.{HasShard}
use Rattle.recorder.specs.Recordings.{entries_of}
use Rattle.recorder.proofs.DenseLemmas.{AreLeft, left_after_one, next_there, none_past_most}
use Rattle.recorder.proofs.FoundLemmas.{left_of_recording, own_event}
use Rattle.recorder.proofs.MergeLemmas.{met_one_more, shards_more}
use Rattle.recorder.proofs.closing.is_recording.Goals as goal

pub loop-place-preserved : goal.loop-place-preserved
loop-place-preserved c =
    let within : c.loop-place.place < length c.args.events.now = search rules in
    let at : slice_get c.args.events.now c.loop-place.place ≡ Some c.index-events-place.result =
    slice_get_read c.args.events.now _ c.loop-place.place c.index-events-place.result refl within c.index-events-place.is in
    let same : c.in-Some.own ≡ c.index-events-place.result = search rules in
    let Takes : Event → Type 0 =
    λ e. IsPermutation (entries_of c.loop-place.strands.items) ((c.loop-place.place, e) ∷ entries_of c.take_numbered.new.strands.items) in
    record {
      met = met_one_more _ _ _ c.args.events.now c.loop-place.place c.index-events-place.result at c.loop-place.invariant.met
          (subst Takes same c.in-Some.ensures.some);
      shards = shards_more c.args.events.now c.loop-place.place c.index-events-place.result at (subst HasShard same c.in-Some.ensures.shard) c.loop-place.invariant.shards;
      rising = λ at_first. c.take_numbered.ensures.rising (c.loop-place.invariant.rising at_first);
      left = λ at_first. left_after_one c.loop-place.strands.items c.take_numbered.new.strands.items c.loop-place.place (length c.args.events.now) c.in-Some.own
          c.in-Some.ensures.some (c.loop-place.invariant.left at_first);
    }

pub returns-in_default-clause-found : goal.returns-in_default-clause-found
returns-in_default-clause-found c = λ rising recording.
    let l = c.loop-place in
    let left = l.invariant.left (left_of_recording c.args.strands.now.items c.args.events.now recording) in
    let less : l.place < length c.args.events.now = search rules in
    absurd (next_there l.strands.items l.place (length c.args.events.now) (l.invariant.rising rising) left less (search rules))

pub returns-then-not-is_same_event-clause-found : goal.returns-then-not-is_same_event-clause-found
returns-then-not-is_same_event-clause-found c = λ rising recording.
    let l = c.loop-place in
    let within : l.place < length c.args.events.now = search rules in
    let at : slice_get c.args.events.now l.place ≡ Some c.index-events-place.result =
    slice_get_read c.args.events.now _ l.place c.index-events-place.result refl within c.index-events-place.is in
    let same : c.in-Some.own ≡ c.index-events-place.result =
    own_event c.args.strands.now.items (enumerate_from 0 (take l.place c.args.events.now)) (entries_of l.strands.items) (entries_of c.take_numbered.new.strands.items)
    c.args.events.now l.place c.in-Some.own c.index-events-place.result recording l.invariant.met c.in-Some.ensures.some at in
    search rules

pub returns-clause-found : goal.returns-clause-found
returns-clause-found c = λ rising recording.
    let l = c.loop-place in
    let total = length c.args.events.now in
    let end : l.place ≡ total = search rules in
    let left : AreLeft l.strands.items l.place total = l.invariant.left (left_of_recording c.args.strands.now.items c.args.events.now recording) in
    let none = none_past_most l.strands.items l.place total left (omega (arith, end)) in
    search rules
