use Rattle.std.proofs.Common.{◌≡◌}
use Rattle.workload.specs.Drawing.{after_turns, turns_drawn}
use Rattle.workload.proofs.drawing.draw_turns.Given as goal

-- the turns so far, and the generator after them
abbrev pub invariant-loop : goal.invariant-loop
invariant-loop l = record {
  turns : l.turns.items ≡ turns_drawn l.docs l.counter l.fn.random;
  random : l.random ≡ after_turns l.counter l.fn.random;
}
