use Rattle.workload.specs.Playing.{AreNewPlayers}
use Rattle.workload.proofs.playing.new_players.Given as goal

abbrev pub invariant-loop-client : goal.invariant-loop-client
invariant-loop-client l = AreNewPlayers l.client l.players.items
