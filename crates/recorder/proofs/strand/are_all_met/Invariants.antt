use Rattle.std.proofs.Common.{◌≡◌, ℕ, ◌<◌, List, [], slice_index_or}
use Rattle.events.specs.declared.event.Event.{Event}
use Rattle.recorder.proofs.strand.are_all_met.Given as goal

abbrev pub invariant-loop-strand : goal.invariant-loop-strand
invariant-loop-strand l = (k : ℕ) (d : List (ℕ × Event)) → k < l.strand-index → slice_index_or l.strands k d ≡ []
