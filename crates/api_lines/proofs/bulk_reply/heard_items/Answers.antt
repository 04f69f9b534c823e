use Rattle.std.proofs.Common.{◌≡◌, ◌++◌, ◌∷◌, [], Ok, Err, sym, subst, arith, rules}
use Rattle.serde_json.specs.View.{view}
use Rattle.api_lines.specs.BulkReply.{heard_item as item_heard}
use Rattle.api_lines.proofs.BulkReplyLemmas.{AreHeardUpTo, always_reported, heard_more, heard_stops}
use Rattle.api_lines.proofs.bulk_reply.heard_items.Goals as goal

pub loop-i-preserved : goal.loop-i-preserved
loop-i-preserved c =
    let one : item_heard c.loop-i.i c.index-calls-i.result (view c.index-items-i.result) ≡ Ok c.in-Ok.item = search rules in
    let pushed : c.push.new.self.items ≡ c.loop-i.heard.items ++ c.in-Ok.item ∷ [] = search rules in
    subst (AreHeardUpTo c.args.calls.now c.args.items.now _) (sym pushed)
    (heard_more c.args.calls.now c.args.items.now c.loop-i.i c.loop-i.heard.items c.index-calls-i.result c.index-items-i.result c.in-Ok.item
    (omega arith) (omega arith) c.index-calls-i.is c.index-items-i.is c.loop-i.invariant one)

pub returns-in-Err-clause-fault : goal.returns-in-Err-clause-fault
returns-in-Err-clause-fault c =
    let one : item_heard c.loop-i.i c.index-calls-i.result (view c.index-items-i.result) ≡ Err c.in-Err.fault = search rules in
    always_reported c.in-Err.fault _
    (heard_stops c.args.calls.now c.args.items.now c.loop-i.i c.loop-i.heard.items c.index-calls-i.result c.index-items-i.result c.in-Err.fault
    (omega arith) (omega arith) c.index-calls-i.is c.index-items-i.is c.loop-i.invariant one)
