use Rattle.std.proofs.Common.{◌∙◌, ap, length, sym}
use Rattle.std.specs.Prelude.{insert}
use Rattle.repl_group.proofs.RequestLemmas.{insert-in_order, place_or_len}
use Rattle.repl_group.proofs.requests.put_in_order.Goals as goal

pub returns : goal.returns
returns c =
    c.in-Ok.ensures.items
    ∙ (ap (λ i. insert c.args.tickets.now.items i c.args.ticket) (place_or_len c.args.tickets.now.items c.args.ticket _ _ _ _ c.unwrap_or-place.ensures c.first_greater.ensures c.deref.ensures.value (c.len.ensures ∙ (sym c.deref.ensures.len ∙ ap length c.deref.ensures.value)))
    ∙ insert-in_order c.args.tickets.now.items c.args.ticket)
