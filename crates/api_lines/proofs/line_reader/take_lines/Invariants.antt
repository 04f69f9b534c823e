use Rattle.std.proofs.Common.{ℕ, List, ◌≡◌}
use Rattle.std.specs.Io.KnownBytes.{prepend_known}
use Rattle.api_lines.specs.Texts.{IsReadTo}
use Rattle.api_lines.proofs.InputLemmas.{IsReadOn}
use Rattle.api_lines.proofs.line_reader.take_lines.Given as goal

abbrev pub invariant-loop : goal.invariant-loop
invariant-loop g l = record {
  read : IsReadOn g.L.LineReader.takes (g.L.LineReader.reached l.fn.reader).state (g.R.Read.remaining l.fn.input)
      (prepend_known l.chunk (g.R.Read.remaining l.input)) (g.L.LineReader.reached l.reader);
  count : (g.L.LineReader.reached l.reader).lines ≡ l.counter;
  some : (text : List ℕ) × IsReadTo g.L.LineReader.takes (g.L.LineReader.reached l.fn.reader).state text (g.L.LineReader.reached l.reader);
}
