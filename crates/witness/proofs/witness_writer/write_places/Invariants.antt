use Rattle.std.proofs.Common.{map, take}
use Rattle.witness.specs.aids.Lines.{IsWrittenOn}
use Rattle.witness.specs.declared.witness_line.WitnessLine.TheVariants as line
use Rattle.witness.proofs.witness_writer.write_places.Given as goal

abbrev pub invariant-loop-i : goal.invariant-loop-i
invariant-loop-i l = IsWrittenOn l.fn.text.items l.text.items (map (λ q. line.Place q) (take l.i l.places))
