use Rattle.std.proofs.Common.{◌≡◌, ◌++◌, All, length}
use Rattle.std.specs.List.{enumerate_from}
use Rattle.std.specs.List.Sorted.{IsPermutation}
use Rattle.events.specs.Events.{HasShard}
use Rattle.recorder.specs.Pens.{IsRising}
use Rattle.recorder.specs.Recordings.{entries_of}
use Rattle.recorder.proofs.DenseLemmas.{AreLeft}
use Rattle.recorder.proofs.closing.merge.Given as goal

abbrev pub invariant-loop-number : goal.invariant-loop-number
invariant-loop-number l = record {
  met : IsPermutation (entries_of l.initial.strands.items) (enumerate_from 0 l.events.items ++ entries_of l.strands.items);
  count : length l.events.items ≡ l.number;
  left : AreLeft l.strands.items l.number (length (entries_of l.initial.strands.items));
  rising : All IsRising l.strands.items;
  shards : All HasShard l.events.items;
}
