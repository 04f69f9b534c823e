use Rattle.std.proofs.Common.{◌≡◌, ◌+◌}
use Rattle.workload.specs.aids.Clients.{IsLongerByFront}
use Rattle.workload.specs.ClientRuns.{pair_in}
use Rattle.workload.proofs.client.run_client.Given as goal

-- the pen's list is longer by a run of the turns so far
abbrev pub invariant-loop-turn : goal.invariant-loop-turn
invariant-loop-turn g l = record {
  front : IsLongerByFront g.T.Target.issued g.T.Target.gave l.polls l.first l.turns l.turn-index (pair_in l.known) (g.X.Recording.pen_state l.initial.pen).list (g.X.Recording.pen_state l.pen).list;
  number : l.k ≡ l.first + l.turn-index;
  pen : g.X.Recording.has_pen l.recorder l.pen;
}
