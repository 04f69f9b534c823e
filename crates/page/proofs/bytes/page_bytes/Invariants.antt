use Rattle.std.proofs.Common.{◌≡◌, take}
use Rattle.page.specs.Pages.{page_bytes}
use Rattle.page.proofs.bytes.page_bytes.Given as goal

abbrev pub invariant-loop-piece : goal.invariant-loop-piece
invariant-loop-piece l = l.bytes.items ≡ page_bytes (take l.piece-index l.pieces)
