use Rattle.std.proofs.Common.{◌≡◌, ◌+◌, ◌++◌, ◌∷◌, [], arith, refl, rules}
use Rattle.std.proofs.lemmas.Option.{slice_get_read}
use Rattle.history.specs.Written.{call_value as value_of_call, written_values}
use Rattle.history.proofs.BulkTextLemmas.{calls_next}
use Rattle.history.proofs.bulk_writer.write_calls.Goals as goal

pub loop-i-preserved : goal.loop-i-preserved
loop-i-preserved c =
    let line : c.write_call.new.text.items ≡ c.loop-i.text.items
    ++ written_values (value_of_call (c.args.first + c.loop-i.i) 0 c.index-items-i.result.0 c.index-items-i.result.1 ∷ []) = search rules in
    calls_next c.args.text.now.items c.loop-i.text.items c.write_call.new.text.items c.args.first c.loop-i.i c.args.items.now c.index-items-i.result
    (slice_get_read c.args.items.now _ c.loop-i.i c.index-items-i.result refl (omega arith) c.index-items-i.is) (omega arith) c.loop-i.invariant line
