use Rattle.std.proofs.Common.{All, subst, sym}
use Rattle.workload.specs.aids.Seats.{IsDone}
use Rattle.workload.proofs.RoundLemmas.{longer_when_done, new_clients, new_idle, new_pens, pens_ours, seated_at_start}
use Rattle.workload.proofs.RunningLemmas.{runs_of_new}
use Rattle.workload.proofs.rounds.run_in_turns.Goals as goal

pub rounds-init : goal.rounds-init
rounds-init g c =
    let pens = c.args.pens.items in
    let seats = c.in_ok-seats.seats.items in
    let new = c.in_ok-seats.ensures in
    record {
      seated = seated_at_start g.T.Target.issued g.T.Target.gave c.args.turns g.X.Recording.pen_state c.args.plan.now pens seats c.requires.count new;
      clients = new_clients pens seats _ new c.requires.count;
      pens = new_pens (g.X.Recording.has_pen c.args.recorder.now) pens seats new c.requires.pens;
      calls = new_idle g.T.Target.issued g.X.Recording.pen_state pens seats new;
    }

pub returns-clause-runs : goal.returns-clause-runs
returns-clause-runs g c =
    let visits = c.in_ok-visit_each.ensures.visits in
    let rested = visits.done c.if-branch.false in
    longer_when_done g.T.Target.issued g.T.Target.gave c.args.turns g.X.Recording.pen_state c.args.plan.now c.args.pens.items c.in_ok-pens_of.field-0.items
    c.visit_each.new.seats.items (visits.keeps c.args.pens.items c.rounds.invariant.seated)
    (subst (λ seats. All (IsDone c.args.plan.now) seats) (sym rested.0) rested.1) c.in_ok-pens_of.ensures

pub returns-clause-of_new_pens : goal.returns-clause-of_new_pens
returns-clause-of_new_pens g c new =
    runs_of_new g.T.Target.issued g.T.Target.gave c.args.turns c.args.plan.now _ _ new (returns-clause-runs g c)

pub returns-clause-keeps : goal.returns-clause-keeps
returns-clause-keeps g c =
    pens_ours g.T.Target.issued g.T.Target.gave c.args.turns g.X.Recording.pen_state c.args.plan.now (g.X.Recording.has_pen c.args.recorder.now) c.in_ok-pens_of.field-0.items c.visit_each.new.seats.items
    c.in_ok-visit_each.ensures.pens c.in_ok-pens_of.ensures
