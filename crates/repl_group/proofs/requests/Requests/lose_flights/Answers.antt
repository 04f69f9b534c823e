use Rattle.repl_group.proofs.RequestLemmas.{listed_lost}
use Rattle.repl_group.proofs.requests.Requests.lose_flights.Goals as goal

pub invariant_of-self : goal.invariant_of-self
invariant_of-self c = rw c.lose.ensures (listed_lost _ _ _ c.clear.ensures.items c.clear-2.ensures.empty)
