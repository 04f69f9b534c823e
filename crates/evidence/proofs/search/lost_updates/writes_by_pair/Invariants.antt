use Rattle.std.proofs.Common.{◌<◌, All, length}
use Rattle.evidence.proofs.search.lost_updates.writes_by_pair.Given as goal

abbrev pub invariant-loop-i : goal.invariant-loop-i
invariant-loop-i l = All (λ m. m.write < length l.writes) l.marks.items
