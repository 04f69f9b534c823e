use Rattle.std.proofs.Common.{◌<◌, All, length}
use Rattle.workload.specs.Playing.{AreVisited}
use Rattle.workload.proofs.PlayerLemmas.{HaveAdvanced}
use Rattle.workload.proofs.playing.visit_all.Given as goal

-- the visits so far, and how far the clients are
abbrev pub invariant-loop-player : goal.invariant-loop-player
invariant-loop-player g l = record {
  visited : AreVisited g.T.OwnedTarget.takes g.T.OwnedTarget.reports l.polls l.plan l.player-index
      (record { target = l.fn.target; players = l.fn.players.items; events = l.fn.history })
      (record { target = l.target; players = l.player-items; events = l.history });
  advanced : HaveAdvanced l.polls l.plan l.fn.players.items l.player-items l.player-index l.acted;
  clients : All (λ player. player.client < length l.plan) l.player-items;
}
