-- Lists of jobs that are built one job after another.
use Rattle.std.proofs.Common.{◌≡◌, inl, inr, List, [], ◌∷◌, ◌++◌, length, sym, ap, ◌∙◌}
use Rattle.check_pool.specs.declared.doc_job.DocJob.{DocJob}
use Rattle.check_pool.specs.Answers.{AreNumbered}
use Rattle.version_pair.proofs.ListLemmas.{get_snoc}

-- one more job, whose number is its place
pub AreNumbered-snoc : (jobs : List DocJob) (job : DocJob) → AreNumbered jobs → job.doc ≡ length jobs → AreNumbered (jobs ++ job ∷ [])
AreNumbered-snoc jobs job numbered last i other at =
    elim (get_snoc jobs job other i at) [
      | inl before ↦ numbered i other before
      | inr here ↦ ap (λ (j : DocJob). j.doc) (sym here.1) ∙ (last ∙ sym here.0)
    ]
