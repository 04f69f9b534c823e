use Rattle.repl_group.proofs.LossLemmas.{AreLostTo}
use Rattle.repl_group.proofs.requests.lose.Given as goal

abbrev pub invariant-loop-ticket : goal.invariant-loop-ticket
invariant-loop-ticket l = AreLostTo l.ticket-index l.initial.list.items l.tickets l.list.items
