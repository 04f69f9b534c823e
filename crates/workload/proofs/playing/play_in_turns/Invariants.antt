use Rattle.std.proofs.Common.{◌≡◌, ◌<◌, [], All, length}
use Rattle.std.specs.Prelude.{sum_by}
use Rattle.workload.specs.aids.Players.{visits_owed}
use Rattle.workload.proofs.PlayerLemmas.{HaveRounds}
use Rattle.workload.proofs.playing.play_in_turns.Given as goal

-- the rounds so far
abbrev pub invariant-rounds : goal.invariant-rounds
invariant-rounds g l = record {
  made : HaveRounds g.T.OwnedTarget.takes g.T.OwnedTarget.reports l.turns l.plan
      (record { target = l.fn.target; players = l.initial.players.items; events = [] })
      (record { target = l.target; players = l.players.items; events = l.history });
  clients : All (λ player. player.client < length l.plan) l.players.items;
  count : length l.players.items ≡ length l.plan;
}

abbrev pub decreases-rounds : goal.decreases-rounds
decreases-rounds g l = sum_by (visits_owed l.plan l.turns) l.players.items
