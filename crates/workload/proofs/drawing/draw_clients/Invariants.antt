use Rattle.std.proofs.Common.{◌≡◌}
use Rattle.std.specs.Prelude.{map}
use Rattle.workload.specs.Drawing.{clients_drawn}
use Rattle.workload.proofs.DrawingLemmas.{after_clients}
use Rattle.workload.proofs.drawing.draw_clients.Given as goal

-- the clients so far, and the generator after them
abbrev pub invariant-loop : goal.invariant-loop
invariant-loop l = record {
  clients : map (λ turns. turns.items) l.drawn.items ≡ clients_drawn l.docs l.calls l.counter l.fn.random;
  random : l.random ≡ after_clients l.calls l.counter l.fn.random;
}
