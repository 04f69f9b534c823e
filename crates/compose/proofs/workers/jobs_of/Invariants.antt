use Rattle.std.proofs.Common.{◌≡◌, take, vec_len}
use Rattle.events.specs.Events.{documents_of}
use Rattle.check_pool.specs.Answers.{AreNumbered}
use Rattle.compose.specs.aids.Worked.{AreJobsFor}
use Rattle.compose.proofs.workers.jobs_of.Given as goal

abbrev pub invariant-loop-doc : goal.invariant-loop-doc
invariant-loop-doc l = record {
  count : vec_len l.jobs ≡ l.doc;
  numbered : AreNumbered l.jobs.items;
  own : AreJobsFor l.conflicts l.history (take l.doc (documents_of l.history)) l.jobs.items;
}
