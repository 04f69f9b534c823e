use Rattle.std.proofs.Common.{◌<◌, ◌+◌, arith, refl, subst, sym}
use Rattle.std.specs.Prelude.{slice_index_or, slice_set}
use Rattle.repl_group.proofs.LossLemmas.{AreLostTo, all_lost, lost_further, ticket_there}
use Rattle.repl_group.proofs.requests.lose.Goals as goal

pub index-requires : goal.index-requires
index-requires c =
    subst (λ n. slice_index_or c.args.tickets.now c.loop-ticket.ticket-index 0 < n) (sym c.loop-ticket.list.ok.0)
    (ticket_there c.loop-ticket.ticket-index c.args.list.now.items c.args.tickets.now c.loop-ticket.list.items _ c.loop-ticket-test.true refl c.loop-ticket.invariant)

pub index_mut-requires : goal.index_mut-requires
index_mut-requires c =
    subst (λ n. slice_index_or c.args.tickets.now c.loop-ticket.ticket-index 0 < n) (sym c.loop-ticket.list.ok.0)
    (ticket_there c.loop-ticket.ticket-index c.args.list.now.items c.args.tickets.now c.loop-ticket.list.items _ c.loop-ticket-test.true refl c.loop-ticket.invariant)

pub loop-ticket-preserved : goal.loop-ticket-preserved
loop-ticket-preserved c =
    subst (λ x. AreLostTo (c.loop-ticket.ticket-index + 1) c.args.list.now.items c.args.tickets.now (slice_set c.loop-ticket.list.items (slice_index_or c.args.tickets.now c.loop-ticket.ticket-index 0) x)) (sym c.lost.ensures)
    (lost_further c.loop-ticket.ticket-index c.args.list.now.items c.args.tickets.now c.loop-ticket.list.items _ c.loop-ticket-test.true refl c.loop-ticket.invariant c.index.result.now c.index.ensures)

pub returns : goal.returns
returns c = all_lost c.loop-ticket.ticket-index c.args.list.now.items c.args.tickets.now c.loop-ticket.list.items (omega (arith, c.loop-ticket-test.false)) c.loop-ticket.invariant
