-- Which jobs a fault of the pool names. A fault of the pool says why jobs have no answers.
use Rattle.std.specs.Prelude.{◌<◌, List, length}
use Rattle.check_pool.specs.declared.doc_job.DocJob.{DocJob}
use Rattle.check_pool.specs.declared.pool_fault.PoolFault.{PoolFault}
use Rattle.check_pool.specs.declared.pool_fault.PoolFault.TheVariants.{NoWorkers, TooMany, Lost, Double, Stranger, NoMemory}

-- if the fault names a job (one without a message, one of which two messages came, or one that an answer is
-- not about), it is one of the jobs
-- Source: profile.
abbrev pub NamesJob : List DocJob → PoolFault → Type 0
NamesJob jobs NoWorkers = Unit {0}
NamesJob jobs TooMany = Unit {0}
NamesJob jobs (Lost doc) = doc < length jobs
NamesJob jobs (Double doc) = doc < length jobs
NamesJob jobs (Stranger doc) = doc < length jobs
NamesJob jobs NoMemory = Unit {0}
