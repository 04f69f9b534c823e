use Rattle.api_lines.proofs.BulkReplyLemmas.{AreHeardUpTo}
use Rattle.api_lines.proofs.bulk_reply.heard_items.Given as goal

abbrev pub invariant-loop-i : goal.invariant-loop-i
invariant-loop-i l = AreHeardUpTo l.calls l.items l.i l.heard.items
