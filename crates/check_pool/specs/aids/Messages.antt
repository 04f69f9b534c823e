-- The messages of workers.
use Rattle.std.specs.Prelude.{◌≡◌, ℕ, ◌-◌, min, List, Some, length, slice_get}
use Rattle.doc_check.specs.Search.{id_of, conflict_mode_of, records_of}
use Rattle.doc_check.specs.declared.search.DocAnswer.{DocAnswer}
use Rattle.check_pool.specs.declared.doc_job.DocJob.{DocJob}
use Rattle.check_pool.specs.Answers.{IsSearchOf}

-- the number of a job, and an answer
pub record Sent : Type 0 where
  pub doc : ℕ
  pub answer : DocAnswer

-- the answer is what the search promises for what the answer itself is about
abbrev pub IsSearched : DocAnswer → Type 0
IsSearched answer = IsSearchOf (id_of answer) (records_of answer) (conflict_mode_of answer) answer

-- the answer is about the id, the records and the reading of conflicts of the job
pub record IsAboutJob (job : DocJob) (answer : DocAnswer) : Type 0 where
  pub same_id : id_of answer ≡ job.id
  pub same_records : records_of answer ≡ job.recs.items
  pub same_conflicts : conflict_mode_of answer ≡ job.conflicts

-- some job has the number, and the answer is about that job
abbrev pub IsOfJob : List DocJob → Sent → Type 0
IsOfJob jobs m = (job : DocJob) × (slice_get jobs m.doc ≡ Some job) × IsAboutJob job m.answer

-- the number of the job that is named if a message of this number is of no job: the same number, or the last
-- job's if it is greater than that
abbrev pub nearest_number : List DocJob → ℕ → ℕ
nearest_number jobs n = min n (length jobs - 1)
