use Rattle.std.proofs.Common.{arith, refl, [], ◌≡◌, ◌∙◌, ap, length, map}
use Rattle.std.proofs.lemmas.Option.{slice_get_read}
use Rattle.places.specs.Documents.{witness_places}
use Rattle.witness.specs.aids.Lines.{IsWrittenOn}
use Rattle.witness.specs.Text.{said_by, witness_text}
use Rattle.witness.proofs.WriteLemmas.{written_all, written_more}
use Rattle.witness.proofs.RoundTrip.{reads_back}
use Rattle.witness.proofs.witness_writer.write_witness.Goals as goal

pub loop-i-preserved : goal.loop-i-preserved
loop-i-preserved c =
    written_more [] c.loop-i.text.items c.write_one.new.text.items c.args.witnesses.now c.loop-i.i c.index-witnesses-i.result
    (slice_get_read c.args.witnesses.now _ c.loop-i.i c.index-witnesses-i.result refl (omega arith) c.index-witnesses-i.is)
    c.loop-i.invariant c.in_ok-write_one.ensures

pub returns-clause-reads_back : goal.returns-clause-reads_back
returns-clause-reads_back c = λ within.
    let end : c.loop-i.i ≡ length c.args.witnesses.now = omega arith in
    let all : IsWrittenOn [] c.loop-i.text.items (said_by (map witness_places c.args.witnesses.now)) = written_all c.loop-i.text.items c.args.witnesses.now c.loop-i.i end c.loop-i.invariant in
    ap witness_text all.added ∙ reads_back (map witness_places c.args.witnesses.now) within all.readable
