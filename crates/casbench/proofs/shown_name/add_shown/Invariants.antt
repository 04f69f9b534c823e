use Rattle.std.proofs.Common.{◌≡◌, ◌++◌, take}
use Rattle.casbench.specs.Names.{shown_name}
use Rattle.casbench.proofs.shown_name.add_shown.Given as goal

abbrev pub invariant-loop-byte : goal.invariant-loop-byte
invariant-loop-byte l = l.bytes.items ≡ l.initial.bytes.items ++ shown_name (take l.byte-index l.byte-items)
