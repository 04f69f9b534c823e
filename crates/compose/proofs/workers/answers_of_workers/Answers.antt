use Rattle.std.proofs.lemmas.Result.{IfOk-weaker}
use Rattle.events.specs.Events.{documents_of}
use Rattle.compose.proofs.WorkerLemmas.{answers_for, jobs_count, workers_fault}
use Rattle.compose.proofs.workers.answers_of_workers.Goals as goal

pub returns-clause-ok : goal.returns-clause-ok
returns-clause-ok g c =
    IfOk-weaker c.answers.result _ _
    (λ answers are. answers_for c.args.conflicts c.args.history.now (documents_of c.args.history.now) c.in-Ok.jobs.items answers.items c.in-Ok.ensures.jobs are)
    c.answers.ensures.ok

pub returns-clause-fault : goal.returns-clause-fault
returns-clause-fault g c =
    workers_fault c.args.history.now c.in-Ok.jobs.items c.args.workers c.answers.result
    (jobs_count c.args.conflicts c.args.history.now (documents_of c.args.history.now) c.in-Ok.jobs.items c.in-Ok.ensures.jobs) c.requires.some c.requires.few
    c.answers.ensures.no_workers.0 c.answers.ensures.too_many.0 c.answers.ensures.named
