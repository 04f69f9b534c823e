use Rattle.std.proofs.Common.{arith, ◌<◌, ◌∙◌, length, subst, sym, take, ◌≤◌}
use Rattle.std.proofs.lemmas.List.{take_all}
use Rattle.events.specs.Events.{documents_of}
use Rattle.check_pool.proofs.JobLemmas.{AreNumbered-snoc}
use Rattle.compose.specs.aids.Worked.{AreJobsFor}
use Rattle.compose.proofs.WorkerLemmas.{jobs_one_more}
use Rattle.compose.proofs.workers.jobs_of.Goals as goal

pub loop-doc-preserved : goal.loop-doc-preserved
loop-doc-preserved c =
    let within : c.loop-doc.doc < length (documents_of c.args.history.now) = omega (arith, c.loop-doc-test.true, c.docs-doc-end.ensures) in
    record {
      count = omega (arith, c.in_ok-push.ensures.len);
      numbered = rw c.in_ok-push.ensures.items
          (AreNumbered-snoc c.loop-doc.jobs.items _ c.loop-doc.invariant.numbered (c.in_ok-job_of.ensures.number ∙ (sym c.loop-doc.invariant.count ∙ c.loop-doc.jobs.ok.0)));
      own = subst (AreJobsFor c.args.conflicts c.args.history.now (take _ (documents_of c.args.history.now))) (sym c.in_ok-push.ensures.items)
          (jobs_one_more c.args.conflicts c.args.history.now c.loop-doc.jobs.items c.loop-doc.doc c.in_ok-job_of.field-0 within c.loop-doc.invariant.own c.in_ok-job_of.ensures.job);
    }

pub returns-clause-jobs : goal.returns-clause-jobs
returns-clause-jobs c =
    let docs = documents_of c.args.history.now in
    let past : length docs ≤ c.loop-doc.doc = omega (arith, c.loop-doc-test.false, c.docs-doc-end.ensures) in
    subst (λ ds. AreJobsFor c.args.conflicts c.args.history.now ds c.loop-doc.jobs.items) (take_all c.loop-doc.doc docs past) c.loop-doc.invariant.own
