use Rattle.std.proofs.lemmas.Result.{IfErr-weaker, IfOk-weaker}
use Rattle.workload.specs.RunFaults.{HasCause, IsMisfit}
use Rattle.workload.proofs.RunningLemmas.{AreRun, all_ours, fault_caused, jobs_fit, longer_by_runs, runs_of_new}
use Rattle.workload.proofs.running.run_clients.Goals as goal

pub run_jobs-requires-after_bounds : goal.run_jobs-requires-after_bounds
run_jobs-requires-after_bounds g c κs within =
    jobs_fit c.args.pens.items (g.X.Recording.has_pen c.args.recorder.now) _ c.in_ok-jobs.jobs.items c.in_ok-jobs.ensures c.requires.count c.requires.pens

ran : (g : _) (c : goal.After-gather_pens g) → AreRun g.T.Target.issued g.T.Target.gave c.args.turns g.X.Recording.pen_state (g.X.Recording.has_pen c.args.recorder.now)
    (HasCause (IsMisfit g.T.Target.issued g.T.Target.gave) g.T.Target.all_given (g.X.Recording.may_rewind c.args.recorder.now) g.X.Recording.pen_state
    (g.X.Recording.has_pen c.args.recorder.now)) c.args.plan.now c.in_ok-jobs.jobs.items c.in_ok-results.results.items
ran g c = record { count = c.in_ok-results.ensures.count; each = c.in_ok-results.ensures.each }

pub returns-clause-runs : goal.returns-clause-runs
returns-clause-runs g c =
    IfOk-weaker c.gather_pens.result _ _ (λ done all. longer_by_runs g.T.Target.issued g.T.Target.gave c.args.turns g.X.Recording.pen_state (g.X.Recording.has_pen c.args.recorder.now)
    _ c.args.plan.now c.args.pens.items done.items c.in_ok-jobs.jobs.items c.in_ok-results.results.items c.in_ok-jobs.ensures all (ran g c)) c.gather_pens.ensures.ok

pub returns-clause-of_new_pens : goal.returns-clause-of_new_pens
returns-clause-of_new_pens g c new =
    IfOk-weaker c.gather_pens.result _ _ (λ done longer. runs_of_new g.T.Target.issued g.T.Target.gave c.args.turns c.args.plan.now _ _ new longer) (returns-clause-runs g c)

pub returns-clause-keeps : goal.returns-clause-keeps
returns-clause-keeps g c =
    IfOk-weaker c.gather_pens.result _ _ (λ done all. all_ours g.T.Target.issued g.T.Target.gave c.args.turns g.X.Recording.pen_state (g.X.Recording.has_pen c.args.recorder.now)
    _ c.args.plan.now c.args.pens.items done.items c.in_ok-jobs.jobs.items c.in_ok-results.results.items c.in_ok-jobs.ensures all (ran g c)) c.gather_pens.ensures.ok

pub returns-clause-cause : goal.returns-clause-cause
returns-clause-cause g c =
    IfErr-weaker c.gather_pens.result _ _ (λ fault of_results. fault_caused g.T.Target.issued g.T.Target.gave c.args.turns g.X.Recording.pen_state
    (g.X.Recording.has_pen c.args.recorder.now) _ c.args.plan.now c.in_ok-jobs.jobs.items c.in_ok-results.results.items fault (ran g c) tt of_results)
    c.gather_pens.ensures.fault
