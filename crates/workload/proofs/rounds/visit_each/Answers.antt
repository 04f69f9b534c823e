use Rattle.std.proofs.Common.{◌<◌, ◌≡◌, arith, inl, inr, length}
use Rattle.std.proofs.lemmas.List.Elements.{All-set}
use Rattle.workload.specs.aids.Seats.{IsOpenIfAny}
use Rattle.workload.proofs.OnceLemmas.{visited_after, visited_at_end}
use Rattle.workload.proofs.RoundLemmas.{lent_back, round_after}
use Rattle.workload.proofs.rounds.visit_each.Goals as goal
use Rattle.workload.proofs.rounds.visit_each.Goals.{then-branch, else-branch}

within : (g : _) (c : goal.After-seat-item g) → c.loop-seat.seat-index < length c.loop-seat.seat-items
within g c = omega (arith, c.loop-seat-test.true, c.loop-seat.auto.seat-items)

pub visit-requires-clause-client : goal.visit-requires-clause-client
visit-requires-clause-client g c = c.loop-seat.invariant.clients c.loop-seat.seat-index c.seat-item.result (within g c)

pub visit-requires-clause-pen : goal.visit-requires-clause-pen
visit-requires-clause-pen g c = c.loop-seat.invariant.pens c.loop-seat.seat-index c.seat-item.result (within g c)

pub visit-requires-clause-opened : goal.visit-requires-clause-opened
visit-requires-clause-opened g c = c.loop-seat.invariant.calls c.loop-seat.seat-index c.seat-item.result (within g c)

pub loop-seat-preserved : goal.loop-seat-preserved
loop-seat-preserved g c =
    let here : c.loop-seat.seat-index < length c.loop-seat.seat-items = omega (arith, c.loop-seat-test.true, c.loop-seat.auto.seat-items) in
    record {
      round =
          round_after g.T.Target.issued g.T.Target.gave c.args.polls g.X.Recording.pen_state c.args.plan.now _ c.loop-seat.seat-items c.loop-seat.seat-index
          c.loop-seat.acted c.in_ok-visit.field-0 c.if-branch.acted c.seat-item.result c.visit.new.seat here
          (elim c.if-branch.branch [ then-branch w ↦ inl (w.if-branch.true, w.acted-is) | else-branch w ↦ inr (w.if-branch.false, w.acted-is) ])
          c.in_ok-visit.ensures.visits c.loop-seat.invariant.round;
      once =
          visited_after c.args.polls _ c.loop-seat.seat-items c.loop-seat.seat-index c.seat-item.result c.visit.new.seat here
          c.in_ok-visit.ensures.once c.loop-seat.invariant.once;
      clients =
          All-set (λ seat. seat.client < length c.args.plan.now) c.loop-seat.seat-items c.loop-seat.seat-index c.visit.new.seat
          (omega (arith, c.in_ok-visit.ensures.visits.same_client, c.loop-seat.invariant.clients c.loop-seat.seat-index c.seat-item.result here)) c.loop-seat.invariant.clients;
      pens =
          All-set (λ seat. g.X.Recording.has_pen c.args.recorder.now seat.pen) c.loop-seat.seat-items c.loop-seat.seat-index c.visit.new.seat
          c.in_ok-visit.ensures.keeps c.loop-seat.invariant.pens;
      calls =
          All-set (λ seat. IsOpenIfAny g.T.Target.issued (g.X.Recording.pen_state seat.pen).list seat.open_call) c.loop-seat.seat-items c.loop-seat.seat-index
          c.visit.new.seat c.in_ok-visit.ensures.opens c.loop-seat.invariant.calls;
    }

pub returns : goal.returns
returns g c =
    let round = c.loop-seat.invariant.round in
    let whole : length c.loop-seat.seat-items ≡ c.args.seats.now.len = omega (arith, round.count, c.args.seats.now.ok.0) in
    rw (lent_back c.loop-seat.seat-items c.args.seats.now.items c.args.seats.now.len whole) (record {
      visits = record {
        keeps = round.keeps;
        fewer = round.fewer;
        done = λ is_false. (round.same is_false, λ k e within. round.done is_false k e (omega (arith, round.count, c.loop-seat-test.false, c.loop-seat.auto.seat-items)));
      };
      once =
          visited_at_end c.args.polls _ c.loop-seat.seat-items c.loop-seat.seat-index (omega (arith, c.loop-seat-test.false, c.loop-seat.auto.seat-items))
          c.loop-seat.invariant.once;
      clients = c.loop-seat.invariant.clients;
      pens = c.loop-seat.invariant.pens;
      calls = c.loop-seat.invariant.calls;
      cause = tt;
    })
