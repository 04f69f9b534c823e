use Rattle.std.proofs.Common.{◌≡◌, ◌≤◌, length}
use Rattle.repl_group.specs.Copies.{holds}
use Rattle.repl_group.specs.aids.Logging.{held_at, held_sets}
use Rattle.repl_group.proofs.write_log.WriteLog.holds.Given as goal

abbrev pub invariant-loop-at : goal.invariant-loop-at
invariant-loop-at l =
    (l.at ≤ length l.self-inside.entries.items)
    × (holds (held_at (held_sets l.self-inside.entries.items) l.place) l.ticket ≡ holds (held_at (held_sets l.self-inside.entries.items) l.at) l.ticket)

abbrev pub decreases-loop-at : goal.decreases-loop-at
decreases-loop-at l = l.at
