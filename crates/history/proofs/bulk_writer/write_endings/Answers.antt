use Rattle.std.proofs.Common.{◌≡◌, ◌+◌, ◌++◌, ◌∷◌, [], arith, refl, rules}
use Rattle.std.proofs.lemmas.Option.{slice_get_read}
use Rattle.history.specs.BulkText.{ending_value as value_of_ending}
use Rattle.history.specs.Written.{written_values}
use Rattle.history.proofs.BulkTextLemmas.{endings_next}
use Rattle.history.proofs.bulk_writer.write_endings.Goals as goal

pub loop-i-preserved : goal.loop-i-preserved
loop-i-preserved c =
    let line : c.write_ending.new.text.items ≡ c.loop-i.text.items
    ++ written_values (value_of_ending (c.args.first + c.loop-i.i) c.index-items-i.result.0 c.index-heard-i.result ∷ []) = search rules in
    endings_next c.args.text.now.items c.loop-i.text.items c.write_ending.new.text.items c.args.first c.loop-i.i c.args.items.now c.args.heard.now
    c.index-items-i.result c.index-heard-i.result
    (slice_get_read c.args.items.now _ c.loop-i.i c.index-items-i.result refl (omega arith) c.index-items-i.is)
    (slice_get_read c.args.heard.now _ c.loop-i.i c.index-heard-i.result refl (omega arith) c.index-heard-i.is)
    (omega arith) c.requires.counted c.loop-i.invariant line
