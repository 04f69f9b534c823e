use Rattle.std.proofs.Common.{◌≡◌, map, take}
use Rattle.doc_check.specs.ReplyOrder.{unpaired_place}
use Rattle.doc_check.proofs.reply_order.reply_order.Given as goal

abbrev pub invariant-loop-i : goal.invariant-loop-i
invariant-loop-i l = l.places.items ≡ map unpaired_place (take l.i l.answers.items)
