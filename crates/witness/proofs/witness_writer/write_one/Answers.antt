use Rattle.std.proofs.Common.{[], ◌∷◌, map, subst}
use Rattle.witness.specs.aids.Lines.{IsWrittenOn}
use Rattle.witness.specs.declared.witness_line.WitnessLine.TheVariants as line
use Rattle.witness.proofs.WriteLemmas.{written_witness}
use Rattle.witness.proofs.witness_writer.write_one.Goals as goal

pub returns : goal.returns
returns c =
    written_witness c.args.text.now.items c.write_document.new.text.items c.write_places.new.text.items c.args.witness.now
    (subst (λ d. IsWrittenOn c.args.text.now.items c.write_document.new.text.items (line.Document d ∷ [])) c.id.ensures c.in_ok-write_document.ensures)
    (subst (λ ps. IsWrittenOn c.write_document.new.text.items c.write_places.new.text.items (map (λ q. line.Place q) ps)) c.places.ensures.same c.in_ok-write_places.ensures)
