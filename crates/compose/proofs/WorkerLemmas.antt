-- The jobs of the documents of a history, and the answers to them.
use Rattle.std.proofs.Common.{ℕ, suc, true, ◌≡◌, ◌+◌, ◌<◌, ◌++◌, List, [], ◌∷◌, refl, sym, ap, subst, ◌∙◌, arith, length, take, ◌≤◌, Ok, Err, Result, Vec}
use Rattle.std.specs.Prelude.{IfErr, IsErrOf}
use Rattle.std.specs.declared.alloc.Global.{Global}
use Rattle.std.proofs.Math.Numerals.{add-one}
use Rattle.doc_register.specs.declared.state.Conflicts.{Conflicts}
use Rattle.events.specs.declared.event.Event.{Event}
use Rattle.events.specs.Events.{documents_of, records_of}
use Rattle.version_pair.proofs.ListLemmas.{get_within, same_some, take_one_more}
use Rattle.doc_check.specs.Search.{FindsUnpaired, IsAbout}
use Rattle.doc_check.specs.declared.search.DocAnswer.{DocAnswer}
use Rattle.check_pool.specs.Answers.{AreAnswers, IsAnswerTo}
use Rattle.check_pool.specs.Faults.{NamesJob}
use Rattle.check_pool.specs.declared.doc_job.DocJob.{DocJob}
use Rattle.check_pool.specs.declared.pool_fault.PoolFault.{PoolFault}
use Rattle.check_pool.specs.declared.pool_fault.PoolFault.TheVariants.{NoWorkers, TooMany, Lost, Double, Stranger, NoMemory}
use Rattle.covers.specs.Answered.{AreAnswersFor, IsAnswerFor}
use Rattle.compose.specs.aids.Worked.{AreJobsFor, IsJobFor, IsJobOf, IsWorkersFault}

jobs_snoc : (conflicts : Conflicts) (events : List Event) (ds : List (List ℕ × ℕ)) (jobs : List DocJob) (d : List ℕ × ℕ) (job : DocJob) → AreJobsFor conflicts events ds jobs
    → IsJobFor conflicts events d.0 job → AreJobsFor conflicts events (ds ++ d ∷ []) (jobs ++ job ∷ [])
jobs_snoc conflicts events [] [] d job are is = (is, tt)
jobs_snoc conflicts events [] (j ∷ js) d job are is = absurd are
jobs_snoc conflicts events (c ∷ cs) [] d job are is = absurd are
jobs_snoc conflicts events (c ∷ cs) (j ∷ js) d job are is = (are.0, jobs_snoc conflicts events cs js d job are.1 is)

-- one more document
pub jobs_one_more : (conflicts : Conflicts) (events : List Event) (jobs : List DocJob) (k : ℕ) (job : DocJob) → k < length (documents_of events)
    → AreJobsFor conflicts events (take k (documents_of events)) jobs → IsJobOf conflicts events k job
    → AreJobsFor conflicts events (take (k + 1) (documents_of events)) (jobs ++ job ∷ [])
jobs_one_more conflicts events jobs k job within are is =
    let d = get_within (documents_of events) k within in
    subst (λ ds. AreJobsFor conflicts events ds (jobs ++ job ∷ [])) (sym (ap (λ n. take n (documents_of events)) (add-one k) ∙ take_one_more (documents_of events) k d.0 d.1))
    (jobs_snoc conflicts events (take k (documents_of events)) jobs d.0 job are (is d.0 d.1))

-- as many jobs as documents
pub jobs_count : (conflicts : Conflicts) (events : List Event) (ds : List (List ℕ × ℕ)) (jobs : List DocJob) → AreJobsFor conflicts events ds jobs → length jobs ≡ length ds
jobs_count conflicts events [] [] are = refl
jobs_count conflicts events [] (j ∷ js) are = absurd are
jobs_count conflicts events (d ∷ ds) [] are = absurd are
jobs_count conflicts events (d ∷ ds) (j ∷ js) are = ap suc (jobs_count conflicts events ds js are.1)

-- an answer to the job of a document is one for the document
answer_for : (conflicts : Conflicts) (events : List Event) (d : List ℕ) (job : DocJob) (x : DocAnswer) → IsJobFor conflicts events d job → IsAnswerTo job x → IsAnswerFor conflicts events true d x
answer_for conflicts events d job x is answers = (
  subst (λ i. IsAbout i (records_of events d) conflicts x) is.id (subst (λ rs. IsAbout job.id rs conflicts x) is.own (subst (λ m. IsAbout job.id job.recs.items m x) is.read answers.about)),
  λ first. subst (λ rs. FindsUnpaired conflicts rs x) is.own (subst (λ m. FindsUnpaired m job.recs.items x) is.read answers.complete),
)

-- the answers to the jobs of documents are answers for the documents
pub answers_for : (conflicts : Conflicts) (events : List Event) (ds : List (List ℕ × ℕ)) (jobs : List DocJob) (xs : List DocAnswer) → AreJobsFor conflicts events ds jobs → AreAnswers jobs xs
    → AreAnswersFor conflicts events true ds xs
answers_for conflicts events [] [] [] are answers = tt
answers_for conflicts events [] [] (x ∷ xs) are answers = let count : length (x ∷ xs) ≡ 0 = answers.count in absurd (omega arith)
answers_for conflicts events [] (j ∷ js) xs are answers = absurd are
answers_for conflicts events (d ∷ ds) [] xs are answers = absurd are
answers_for conflicts events (d ∷ ds) (j ∷ js) [] are answers = let count : 0 ≡ length (j ∷ js) = answers.count in absurd (omega arith)
answers_for conflicts events (d ∷ ds) (j ∷ js) (x ∷ xs) are answers = (
  (let a = answers.each 0 j refl in answer_for conflicts events d.0 j x are.0 (subst (IsAnswerTo j) (sym (same_some x a.0 a.1)) a.2)),
  answers_for conflicts events ds js xs are.1 record { count = omega (arith, answers.count); each = λ i job at. answers.each (suc i) job at },
)

-- a fault of workers whose number is right
pub workers_fault : (events : List Event) (jobs : List DocJob) (workers : ℕ) (result : Result (Vec DocAnswer Global) PoolFault) → length jobs ≡ length (documents_of events) → 0 < workers → workers ≤ 16
    → (IsErrOf result NoWorkers → workers ≡ 0) → (IsErrOf result TooMany → 16 < workers) → IfErr result (NamesJob jobs) → IfErr result (IsWorkersFault events)
workers_fault events jobs workers (Ok xs) count some few none many named = tt
workers_fault events jobs workers (Err NoWorkers) count some few none many named = let no : workers ≡ 0 = none refl in absurd (omega arith)
workers_fault events jobs workers (Err TooMany) count some few none many named = let over : 16 < workers = many refl in absurd (omega arith)
workers_fault events jobs workers (Err (Lost doc)) count some few none many named = let within : doc < length jobs = named in omega arith
workers_fault events jobs workers (Err (Double doc)) count some few none many named = let within : doc < length jobs = named in omega arith
workers_fault events jobs workers (Err (Stranger doc)) count some few none many named = let within : doc < length jobs = named in omega arith
workers_fault events jobs workers (Err NoMemory) count some few none many named = tt
