use Rattle.std.proofs.Common.{[], map, take}
use Rattle.places.specs.Documents.{witness_places}
use Rattle.witness.specs.aids.Lines.{IsWrittenOn}
use Rattle.witness.specs.Text.{said_by}
use Rattle.witness.proofs.witness_writer.write_witness.Given as goal

abbrev pub invariant-loop-i : goal.invariant-loop-i
invariant-loop-i l = IsWrittenOn [] l.text.items (said_by (map witness_places (take l.i l.witnesses)))
