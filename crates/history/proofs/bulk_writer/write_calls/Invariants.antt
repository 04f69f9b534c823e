use Rattle.std.proofs.Common.{◌≡◌, ◌++◌, take}
use Rattle.history.specs.BulkText.{call_values}
use Rattle.history.specs.Written.{written_values}
use Rattle.history.proofs.bulk_writer.write_calls.Given as goal

abbrev pub invariant-loop-i : goal.invariant-loop-i
invariant-loop-i l = l.text.items ≡ l.fn.text.items ++ written_values (call_values l.first (take l.i l.items))
