use Rattle.std.proofs.Common.{◌∙◌, ℕ, [], All, List, length, subst, sym}
use Rattle.events.specs.declared.event.Event.{Event}
use Rattle.workload.specs.Playing.{AreNewPlayers, AreVisited, IsPlayedOut}
use Rattle.workload.specs.declared.player.Player.{Player}
use Rattle.workload.proofs.PlayerLemmas.{HaveRounds, new_clients_within, no_round, one_round_more}
use Rattle.workload.proofs.playing.play_in_turns.Goals as goal

pub rounds-init : goal.rounds-init
rounds-init g c =
    let players = c.in_ok-players.players.items in
    let fresh : AreNewPlayers (length c.args.plan.now) players = subst (λ (n : ℕ). AreNewPlayers n players) c.clients.ensures.count c.in_ok-players.ensures in
    record {
      made =
          subst (λ (events : List Event). HaveRounds g.T.OwnedTarget.takes g.T.OwnedTarget.reports c.args.turns c.args.plan.now
          (record { target = c.args.target.now; players = players; events = [] }) (record { target = c.args.target.now; players = players; events = events }))
          (sym c.new-history.ensures.empty) (0, no_round g.T.OwnedTarget.takes g.T.OwnedTarget.reports c.args.turns c.args.plan.now _);
      clients = new_clients_within (length c.args.plan.now) players fresh;
      count = fresh.count_is;
    }

pub rounds-preserved : goal.rounds-preserved
rounds-preserved g c =
    record {
      made =
          one_round_more g.T.OwnedTarget.takes g.T.OwnedTarget.reports c.args.turns c.args.plan.now _ _ _ c.rounds.invariant.made
          (subst (λ (n : ℕ). AreVisited g.T.OwnedTarget.takes g.T.OwnedTarget.reports c.args.turns c.args.plan.now n
          (record { target = c.rounds.target; players = c.rounds.players.items; events = c.rounds.history })
          (record { target = c.visit_all.new.target; players = c.visit_all.new.players.items; events = c.visit_all.new.history }))
          c.rounds.invariant.count c.in_ok-visit_all.ensures.visits);
      clients = c.in_ok-visit_all.ensures.clients;
      count = c.in_ok-visit_all.ensures.count ∙ c.rounds.invariant.count;
    }

pub returns : goal.returns
returns g c =
    let rested = c.in_ok-visit_all.ensures.advances.done c.if-branch.false in
    let made =
    one_round_more g.T.OwnedTarget.takes g.T.OwnedTarget.reports c.args.turns c.args.plan.now _ _ _ c.rounds.invariant.made
    (subst (λ (n : ℕ). AreVisited g.T.OwnedTarget.takes g.T.OwnedTarget.reports c.args.turns c.args.plan.now n
    (record { target = c.rounds.target; players = c.rounds.players.items; events = c.rounds.history })
    (record { target = c.visit_all.new.target; players = c.visit_all.new.players.items; events = c.visit_all.new.history }))
    c.rounds.invariant.count c.in_ok-visit_all.ensures.visits) in
    record {
      new = c.in_ok-players.players.items;
      are_new = subst (λ (n : ℕ). AreNewPlayers n c.in_ok-players.players.items) c.clients.ensures.count c.in_ok-players.ensures;
      done = c.visit_all.new.players.items;
      are_done = subst (λ (players : List Player). All (IsPlayedOut c.args.plan.now) players) (sym rested.0) rested.1;
      rounds = made.0;
      played = made.1;
    }
