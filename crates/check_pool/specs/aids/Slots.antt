-- The collector's slots for the answers, one for each job.
use Rattle.std.specs.Prelude.{◌≡◌, ℕ, ◌<◌, List, Option, None, Some, length, slice_get}
use Rattle.doc_check.specs.declared.search.DocAnswer.{DocAnswer}
use Rattle.check_pool.specs.declared.doc_job.DocJob.{DocJob}
use Rattle.check_pool.specs.declared.pool_fault.PoolFault.{PoolFault}
use Rattle.check_pool.specs.declared.pool_fault.PoolFault.TheVariants.{NoWorkers, TooMany, Lost, Double, Stranger, NoMemory}
use Rattle.check_pool.specs.Answers.{IsAnswerTo}
use Rattle.check_pool.specs.aids.Collected.{AreOfJobs, Lacks}
use Rattle.check_pool.specs.aids.Messages.{IsOfJob, Sent, nearest_number}

-- no slot has an answer
abbrev pub AreEmpty : List (Option DocAnswer) → Type 0
AreEmpty slots = (i : ℕ) (slot : Option DocAnswer) → slice_get slots i ≡ Some slot → slot ≡ None

-- why the slots are not all filled: the first one that is empty
abbrev pub IsFirstEmpty : List (Option DocAnswer) → PoolFault → Type 0
IsFirstEmpty slots NoWorkers = ⊥
IsFirstEmpty slots TooMany = ⊥
IsFirstEmpty slots (Lost doc) = (slice_get slots doc ≡ Some None)
    × ((i : ℕ) → i < doc → (answer : DocAnswer) × (slice_get slots i ≡ Some (Some answer)))
IsFirstEmpty slots (Double doc) = ⊥
IsFirstEmpty slots (Stranger doc) = ⊥
IsFirstEmpty slots NoMemory = Unit {0}

-- a message that can't be taken: its job's slot is taken, or it is of no job
abbrev pub IsRefused : List DocJob → List (Option DocAnswer) → Sent → PoolFault → Type 0
IsRefused jobs slots m NoWorkers = ⊥
IsRefused jobs slots m TooMany = ⊥
IsRefused jobs slots m (Lost doc) = ⊥
IsRefused jobs slots m (Double doc) = (m.doc ≡ doc) × IsOfJob jobs m × ((answer : DocAnswer) × (slice_get slots doc ≡ Some (Some answer)))
IsRefused jobs slots m (Stranger doc) = (nearest_number jobs m.doc ≡ doc) × (¬ IsOfJob jobs m)
IsRefused jobs slots m NoMemory = ⊥

-- the slots after these messages, each of a job: the answer of each message is in its job's slot, and is to
-- that job; the other slots are empty
pub record AreFilled (jobs : List DocJob) (messages : List Sent) (slots : List (Option DocAnswer)) : Type 0 where
  pub count : length slots ≡ length jobs
  pub of_jobs : AreOfJobs jobs messages
  pub empty : (i : ℕ) → slice_get slots i ≡ Some None → Lacks messages i
  pub full : (i : ℕ) (answer : DocAnswer) → slice_get slots i ≡ Some (Some answer) → ¬ Lacks messages i
  pub right : (i : ℕ) (answer : DocAnswer) (job : DocJob) → slice_get slots i ≡ Some (Some answer) → slice_get jobs i ≡ Some job
      → IsAnswerTo job answer
