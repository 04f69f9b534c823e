use Rattle.std.proofs.Common.{◌++◌, ℕ, ◌<◌, All, get_or, length, take}
use Rattle.std.specs.List.{enumerate_from}
use Rattle.std.specs.List.Sorted.{IsPermutation}
use Rattle.events.specs.declared.event.Event.{Event}
use Rattle.events.specs.Events.{HasShard}
use Rattle.recorder.specs.Pens.{IsRising}
use Rattle.recorder.specs.Recordings.{entries_of}
use Rattle.recorder.proofs.DenseLemmas.{AreLeft}
use Rattle.recorder.proofs.closing.is_recording.Given as goal

abbrev pub invariant-loop-place : goal.invariant-loop-place
invariant-loop-place l = record {
  met : IsPermutation (entries_of l.initial.strands.items) (enumerate_from 0 (take l.place l.events) ++ entries_of l.strands.items);
  shards : (k : ℕ) (d : Event) → k < l.place → HasShard (get_or l.events k d);
  rising : All IsRising l.initial.strands.items → All IsRising l.strands.items;
  left : AreLeft l.initial.strands.items 0 (length l.events) → AreLeft l.strands.items l.place (length l.events);
}
