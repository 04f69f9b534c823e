use Rattle.std.proofs.Common.{◌≤◌, length, ◌-◌}
use Rattle.std.specs.Io.KnownBytes.{Consumes, prepend_known}
use Rattle.api_lines.specs.Lines.{HasNoLineFeed, longest_line}
use Rattle.api_lines.specs.Sources.{most_held}
use Rattle.api_lines.proofs.line_input.next_line.Given as goal

abbrev pub invariant-loop-line : goal.invariant-loop-line
invariant-loop-line g l =
    HasNoLineFeed l.line.items
    × Consumes (prepend_known l.fn.chunk (g.R.Read.remaining l.fn.reader)) (prepend_known l.chunk (g.R.Read.remaining l.reader)) l.line.items
    × (length l.line.items ≤ longest_line)

abbrev pub decreases-loop-line : goal.decreases-loop-line
decreases-loop-line g l = most_held - length l.line.items
