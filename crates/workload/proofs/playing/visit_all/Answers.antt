use Rattle.std.proofs.Common.{◌<◌, ◌≡◌, ℕ, All, List, arith, false, inl, inr, length, subst, sym}
use Rattle.std.proofs.lemmas.List.Elements.{All-set}
use Rattle.workload.specs.Playing.{AreVisited}
use Rattle.workload.specs.declared.player.Player.{Player}
use Rattle.workload.proofs.PlayerLemmas.{HaveAdvanced, advanced_at_end, advanced_more, none_advanced, none_visited, visited_more}
use Rattle.workload.proofs.RoundLemmas.{lent_back}
use Rattle.workload.proofs.playing.visit_all.Goals as goal
use Rattle.workload.proofs.playing.visit_all.Goals.{then-branch, else-branch}

pub visit-requires : goal.visit-requires
visit-requires g c =
    c.loop-player.invariant.clients c.loop-player.player-index c.player-item.result (omega (arith, c.loop-player-test.true, c.loop-player.auto.player-items))

pub loop-player-preserved : goal.loop-player-preserved
loop-player-preserved g c =
    let here : c.loop-player.player-index < length c.loop-player.player-items = omega (arith, c.loop-player-test.true, c.loop-player.auto.player-items) in
    record {
      visited =
          visited_more g.T.OwnedTarget.takes g.T.OwnedTarget.reports c.args.polls c.args.plan.now _ c.loop-player.target c.visit.new.target c.loop-player.player-items
          c.loop-player.history c.visit.new.history c.loop-player.player-index c.player-item.result c.visit.new.player here
          c.in_ok-visit.ensures.visits c.loop-player.invariant.visited;
      advanced =
          advanced_more c.args.polls c.args.plan.now _ c.loop-player.player-items c.loop-player.player-index
          c.loop-player.acted c.in_ok-visit.field-0 c.if-branch.acted c.player-item.result c.visit.new.player here
          (elim c.if-branch.branch [ then-branch w ↦ inl (w.if-branch.true, w.acted-is) | else-branch w ↦ inr (w.if-branch.false, w.acted-is) ])
          c.in_ok-visit.ensures.advances c.loop-player.invariant.advanced;
      clients =
          All-set (λ player. player.client < length c.args.plan.now) c.loop-player.player-items c.loop-player.player-index c.visit.new.player
          (omega (arith, c.in_ok-visit.ensures.advances.same_client, c.loop-player.invariant.clients c.loop-player.player-index c.player-item.result here)) c.loop-player.invariant.clients;
    }

pub loop-player-init : goal.loop-player-init
loop-player-init g c =
    let old = c.args.players.now.items in
    let same : old ≡ c.deref_mut-player-items.result.now = sym c.deref_mut-player-items.ensures.value in
    record {
      visited =
          subst (λ (items : List Player). AreVisited g.T.OwnedTarget.takes g.T.OwnedTarget.reports c.args.polls c.args.plan.now 0
          (record { target = c.args.target.now; players = old; events = c.args.history.now })
          (record { target = c.args.target.now; players = items; events = c.args.history.now })) same
          (none_visited g.T.OwnedTarget.takes g.T.OwnedTarget.reports c.args.polls c.args.plan.now _);
      advanced = subst (λ (items : List Player). HaveAdvanced c.args.polls c.args.plan.now old items 0 false) same (none_advanced c.args.polls c.args.plan.now old);
      clients = subst (λ (items : List Player). All (λ player. player.client < length c.args.plan.now) items) same c.requires;
    }

pub returns : goal.returns
returns g c =
    let advanced = c.loop-player.invariant.advanced in
    let whole : length c.loop-player.player-items ≡ c.args.players.now.len = omega (arith, advanced.count, c.args.players.now.ok.0) in
    let all : c.loop-player.player-index ≡ length c.args.players.now.items =
    omega (arith, advanced.count, c.loop-player-test.false, c.loop-player.auto.player-items, c.loop-player.auto.player-index-end) in
    rw (lent_back c.loop-player.player-items c.args.players.now.items c.args.players.now.len whole) (record {
      visits =
          subst (λ (n : ℕ). AreVisited g.T.OwnedTarget.takes g.T.OwnedTarget.reports c.args.polls c.args.plan.now n
          (record { target = c.args.target.now; players = c.args.players.now.items; events = c.args.history.now })
          (record { target = c.loop-player.target; players = c.loop-player.player-items; events = c.loop-player.history })) all c.loop-player.invariant.visited;
      advances =
          advanced_at_end c.args.polls c.args.plan.now c.args.players.now.items c.loop-player.player-items c.loop-player.player-index c.loop-player.acted
          (omega (arith, advanced.count, all)) advanced;
      clients = c.loop-player.invariant.clients;
      count = advanced.count;
    })
