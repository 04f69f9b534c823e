use Rattle.std.proofs.Common.{◌≡◌}
use Rattle.doc_check.specs.aids.Stretches.{IsTable, is_so, latest_below}
use Rattle.doc_check.proofs.latest.latest_stretches.Given as goal

abbrev pub invariant-loop-stretch : goal.invariant-loop-stretch
invariant-loop-stretch l = IsTable l.states l.live l.stretch l.table.items × (l.latest ≡ latest_below (is_so l.states l.live) l.stretch)
