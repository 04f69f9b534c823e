-- The searches of the documents of a history as jobs of workers.
use Rattle.std.specs.Prelude.{◌≡◌, ◌<◌, ℕ, List, [], ◌∷◌, Some, length, slice_get}
use Rattle.doc_register.specs.declared.state.Conflicts.{Conflicts}
use Rattle.events.specs.declared.event.Event.{Event}
use Rattle.events.specs.Events.{documents_of, records_of}
use Rattle.check_pool.specs.declared.doc_job.DocJob.{DocJob}
use Rattle.check_pool.specs.declared.pool_fault.PoolFault.{PoolFault}
use Rattle.check_pool.specs.declared.pool_fault.PoolFault.TheVariants.{NoWorkers, TooMany, Lost, Double, Stranger, NoMemory}

-- the job has the document's id, its records and this reading of conflicts
pub record IsJobFor (conflicts : Conflicts) (events : List Event) (d : List ℕ) (job : DocJob) : Type 0 where
  pub id : job.id ≡ d
  pub own : job.recs.items ≡ records_of events d
  pub read : job.conflicts ≡ conflicts

-- those of the document at this index
abbrev pub IsJobOf : Conflicts → List Event → ℕ → DocJob → Type 0
IsJobOf conflicts events k job = (d : List ℕ × ℕ) → slice_get (documents_of events) k ≡ Some d → IsJobFor conflicts events d.0 job

-- one by one
abbrev pub AreJobsFor : Conflicts → List Event → List (List ℕ × ℕ) → List DocJob → Type 0
AreJobsFor conflicts events [] [] = Unit {0}
AreJobsFor conflicts events [] (job ∷ jobs) = ⊥
AreJobsFor conflicts events (d ∷ ds) [] = ⊥
AreJobsFor conflicts events (d ∷ ds) (job ∷ jobs) = IsJobFor conflicts events d.0 job × AreJobsFor conflicts events ds jobs

-- a fault that workers can have if their number is right; one that names a job names a document of the
-- history
abbrev pub IsWorkersFault : List Event → PoolFault → Type 0
IsWorkersFault events NoWorkers = ⊥
IsWorkersFault events TooMany = ⊥
IsWorkersFault events (Lost doc) = doc < length (documents_of events)
IsWorkersFault events (Double doc) = doc < length (documents_of events)
IsWorkersFault events (Stranger doc) = doc < length (documents_of events)
IsWorkersFault events NoMemory = Unit {0}
