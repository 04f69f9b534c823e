use Rattle.std.proofs.Common.{arith, refl}
use Rattle.std.proofs.lemmas.Option.{slice_get_read}
use Rattle.witness.proofs.WriteLemmas.{written_none, written_place}
use Rattle.witness.proofs.witness_writer.write_places.Goals as goal

pub loop-i-init : goal.loop-i-init
loop-i-init c = written_none c.args.text.now.items

pub loop-i-preserved : goal.loop-i-preserved
loop-i-preserved c =
    written_place c.args.text.now.items c.loop-i.text.items c.write_place.new.text.items c.args.places.now c.loop-i.i c.index-places-i.result
    (slice_get_read c.args.places.now _ c.loop-i.i c.index-places-i.result refl (omega arith) c.index-places-i.is)
    c.loop-i.invariant c.in_ok-write_place.ensures
