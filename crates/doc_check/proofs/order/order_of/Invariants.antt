use Rattle.std.proofs.Common.{◌≡◌, map, take}
use Rattle.doc_check.specs.aids.Order.{place_of}
use Rattle.doc_check.proofs.order.order_of.Given as goal

abbrev pub invariant-loop-i : goal.invariant-loop-i
invariant-loop-i l = l.places.items ≡ map place_of (take l.i l.standings.items)
