use Rattle.std.proofs.Common.{length}
use Rattle.api_lines.proofs.ReadingLemmas.{IsReadUpTo}
use Rattle.api_lines.proofs.line_reader.take_text.Given as goal

abbrev pub invariant-loop-rest : goal.invariant-loop-rest
invariant-loop-rest g l =
    IsReadUpTo g.L.LineReader.takes (g.L.LineReader.reached l.fn.reader).state l.text l.rest (g.L.LineReader.reached l.reader).lines
    (g.L.LineReader.reached l.reader).state

abbrev pub decreases-loop-rest : goal.decreases-loop-rest
decreases-loop-rest g l = length l.rest
