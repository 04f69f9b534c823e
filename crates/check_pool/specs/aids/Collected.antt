-- The reasons why messages are not answers of the jobs.
use Rattle.std.specs.Prelude.{◌≡◌, ◌≢◌, ℕ, ◌<◌, Bool, false, List, Some, length, slice_get, take}
use Rattle.check_pool.specs.declared.doc_job.DocJob.{DocJob}
use Rattle.check_pool.specs.declared.pool_fault.PoolFault.{PoolFault}
use Rattle.check_pool.specs.declared.pool_fault.PoolFault.TheVariants.{NoWorkers, TooMany, Lost, Double, Stranger, NoMemory}
use Rattle.check_pool.specs.aids.Messages.{IsOfJob, Sent, nearest_number}

-- no message has this number
abbrev pub Lacks : List Sent → ℕ → Type 0
Lacks messages doc = (k : ℕ) (m : Sent) → slice_get messages k ≡ Some m → m.doc ≢ doc

-- each message is about the job of its number, and no two have the same number
pub record AreOfJobs (jobs : List DocJob) (messages : List Sent) : Type 0 where
  pub each : (k : ℕ) (m : Sent) → slice_get messages k ≡ Some m → IsOfJob jobs m
  pub once : (k : ℕ) (m : Sent) → slice_get messages k ≡ Some m → Lacks (take k messages) m.doc

-- the message at index k is the first that can't be taken
abbrev pub IsRefusedAt : List DocJob → List Sent → ℕ → Sent → Type 0
IsRefusedAt jobs messages k m = (slice_get messages k ≡ Some m) × AreOfJobs jobs (take k messages)

-- the first fault of these messages, if memory was not refused on the way. A job without a message is
-- reported only if each message was taken and no worker was refused memory
abbrev pub IsFaultOf : List DocJob → List Sent → Bool → PoolFault → Type 0
IsFaultOf jobs messages starved NoWorkers = ⊥
IsFaultOf jobs messages starved TooMany = ⊥
IsFaultOf jobs messages starved (Lost doc) = (starved ≡ false) × AreOfJobs jobs messages × (doc < length jobs) × Lacks messages doc
    × ((earlier : ℕ) → earlier < doc → ¬ Lacks messages earlier)
IsFaultOf jobs messages starved (Double doc) = (k : ℕ) × (m : Sent) × IsRefusedAt jobs messages k m × (m.doc ≡ doc) × IsOfJob jobs m
    × (¬ Lacks (take k messages) doc)
IsFaultOf jobs messages starved (Stranger doc) = (k : ℕ) × (m : Sent) × IsRefusedAt jobs messages k m × (nearest_number jobs m.doc ≡ doc)
    × (¬ IsOfJob jobs m)
IsFaultOf jobs messages starved NoMemory = Unit {0}
