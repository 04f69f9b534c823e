use Rattle.std.proofs.Common.{◌≡◌, ◌++◌, take}
use Rattle.page.specs.Pages.{escaped}
use Rattle.page.proofs.escape.add_escaped.Given as goal

abbrev pub invariant-loop-byte : goal.invariant-loop-byte
invariant-loop-byte l = l.bytes.items ≡ l.initial.bytes.items ++ escaped (take l.byte-index l.byte-items)
