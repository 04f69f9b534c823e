-- What the search for a job answers, and what the answers of a list of jobs are.
use Rattle.std.specs.Prelude.{◌≡◌, ℕ, List, Some, length, slice_get}
use Rattle.doc_register.specs.declared.state.Conflicts.{Conflicts}
use Rattle.events.specs.declared.record.Rec.{Rec}
use Rattle.doc_check.specs.Search.{FindsUnpaired, FollowsReplies, IsAbout}
use Rattle.doc_check.specs.declared.search.DocAnswer.{DocAnswer}
use Rattle.check_pool.specs.declared.doc_job.DocJob.{DocJob}

-- All that the search for a document promises of its answer.
-- Source: profile.
pub record IsSearchOf (doc : List ℕ) (records : List Rec) (conflicts : Conflicts) (answer : DocAnswer) : Type 0 where
  -- it is about the document, its records and this reading of conflicts (`IsAbout`)
  pub about : IsAbout doc records conflicts answer
  -- if response order is valid, it is the order found (`FollowsReplies`)
  pub replies : FollowsReplies conflicts records answer
  -- if any places without a given pair are valid, such places are found (`FindsUnpaired`)
  pub complete : FindsUnpaired conflicts records answer

-- the same for the id, the records and the reading of conflicts of a job
abbrev pub IsAnswerTo : DocJob → DocAnswer → Type 0
IsAnswerTo job answer = IsSearchOf job.id job.recs.items job.conflicts answer

-- the number of each job is its index
abbrev pub AreNumbered : List DocJob → Type 0
AreNumbered jobs = (i : ℕ) (job : DocJob) → slice_get jobs i ≡ Some job → job.doc ≡ i

-- the answers are those to the jobs
-- Source: profile.
pub record AreAnswers (jobs : List DocJob) (answers : List DocAnswer) : Type 0 where
  -- there are as many answers as jobs
  pub count : length answers ≡ length jobs
  -- at each job's index is an answer to that job
  pub each : (i : ℕ) (job : DocJob) → slice_get jobs i ≡ Some job
      → (answer : DocAnswer) × (slice_get answers i ≡ Some answer) × IsAnswerTo job answer
