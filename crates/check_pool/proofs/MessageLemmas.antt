-- What an answer is about, and what it answers.
use Rattle.std.proofs.Common.{◌≡◌, ℕ, List}
use Rattle.doc_register.specs.declared.state.Conflicts.{Conflicts}
use Rattle.events.specs.declared.record.Rec.{Rec}
use Rattle.doc_check.specs.declared.search.DocAnswer.{DocAnswer}
use Rattle.doc_check.specs.declared.search.DocAnswer.TheVariants.{Found, NotFound}
use Rattle.check_pool.specs.declared.doc_job.DocJob.{DocJob}
use Rattle.check_pool.specs.Answers.{IsAnswerTo, IsSearchOf}
use Rattle.check_pool.specs.aids.Messages.{IsAboutJob, IsSearched}

at_same : (doc d : List ℕ) (records r : List Rec) (conflicts m : Conflicts) (answer : DocAnswer) → d ≡ doc → r ≡ records → m ≡ conflicts
    → IsSearchOf doc records conflicts answer → IsSearchOf d r m answer
at_same doc d records r conflicts m answer same_doc same_records same_conflicts s = rw (same_doc, same_records, same_conflicts) s

-- the search of a document promises its answer of what the answer itself is about
pub IsSearched-from_search : (doc : List ℕ) (records : List Rec) (conflicts : Conflicts) (answer : DocAnswer)
    → IsSearchOf doc records conflicts answer → IsSearched answer
IsSearched-from_search doc records conflicts (Found w) s = at_same doc _ records _ conflicts _ (Found w) s.about.0 s.about.1 s.about.2 s
IsSearched-from_search doc records conflicts (NotFound n) s = at_same doc _ records _ conflicts _ (NotFound n) s.about.0 s.about.1 s.about.2 s

-- an answer about a job that is what the search promises answers the job
pub IsAnswerTo-from_about : (job : DocJob) (answer : DocAnswer) → IsSearched answer → IsAboutJob job answer → IsAnswerTo job answer
IsAnswerTo-from_about job answer s about = rw (← about.same_id, ← about.same_records, ← about.same_conflicts) s
