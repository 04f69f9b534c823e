use Rattle.std.proofs.Common.{◌≡◌, ap, ◌∙◌, sym, length, Ok, rules}
use Rattle.api_lines.specs.BulkReply.{bulk_reply}
use Rattle.history.proofs.BulkTextLemmas.{as_many_heard}
use Rattle.history.proofs.bulk_writer.bulk_text.Goals as goal

pub written_bulk-requires-clause-counted : goal.written_bulk-requires-clause-counted
written_bulk-requires-clause-counted c =
    let reported : bulk_reply c.deref.result.now c.args.status c.args.reply.now ≡ Ok c.in_ok-heard.heard.items = search rules in
    ap length c.deref-4.ensures.value
    ∙ (as_many_heard c.deref.result.now c.args.status c.args.reply.now c.in_ok-heard.heard.items reported
    ∙ ap length (c.deref.ensures.value ∙ sym c.deref-3.ensures.value))
