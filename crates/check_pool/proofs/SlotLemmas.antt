-- The collector's places: empty at the start, filled message by message, and read at the end.
use Rattle.std.proofs.Common.{ℕ, zero, suc, ◌==◌, ◌≡◌, ◌≢◌, ◌<◌, ◌≤◌, ◌-◌, inl, inr, List, [], ◌∷◌, ◌++◌, length, refl, sym, ap, subst, ◌∙◌, arith, Bool, true, false, Option, None, Some, get_or, slice_get, slice_set, take, rules}
use Rattle.std.specs.Prelude.{IsTrue, is_some, map, min}
use Rattle.std.proofs.Math.Nat.{min-le_right}
use Rattle.std.proofs.Math.Seq.{take-append_seam}
use Rattle.std.proofs.lemmas.List.{length-map, length-set, take-append-le}
use Rattle.std.proofs.lemmas.Option.{slice_get-get_or, slice_get-map, slice_get_cases, slice_get_within}
use Rattle.doc_check.specs.declared.search.DocAnswer.{DocAnswer}
use Rattle.check_pool.specs.declared.doc_job.DocJob.{DocJob}
use Rattle.check_pool.specs.declared.pool_fault.PoolFault.{PoolFault}
use Rattle.check_pool.specs.declared.pool_fault.PoolFault.TheVariants.{NoWorkers, TooMany, Lost, Double, Stranger, NoMemory}
use Rattle.check_pool.specs.Answers.{AreAnswers}
use Rattle.check_pool.specs.aids.Collected.{AreOfJobs, IsFaultOf, Lacks}
use Rattle.check_pool.specs.Faults.{NamesJob}
use Rattle.check_pool.specs.aids.Messages.{IsOfJob, IsSearched, Sent}
use Rattle.check_pool.specs.aids.Slots.{AreEmpty, AreFilled, IsFirstEmpty, IsRefused}
use Rattle.check_pool.proofs.Lists.{get-before, get-last, get-set}
use Rattle.check_pool.proofs.MessageLemmas.{IsAnswerTo-from_about}
use Rattle.version_pair.proofs.ListLemmas.{get_snoc}

-- what is not some value is none
pub none_from : {X : Type 0} (o : Option X) → ((x : X) → ¬ (o ≡ Some x)) → o ≡ None
none_from None never = refl
none_from (Some x) never = absurd (never x refl)

pub is_true : (b : Bool) → b ≡ true → IsTrue b
is_true true is = search rules
is_true false is = absurd (cc)

-- ---- the places that are read

full_at : (answers : List DocAnswer) (i : ℕ) (answer : DocAnswer) → slice_get answers i ≡ Some answer
    → slice_get (map (λ a. Some a) answers) i ≡ Some (Some answer)
full_at answers i answer at =
    slice_get-map (λ (a : DocAnswer). Some a) answers i ∙ ap (λ (o : Option DocAnswer). elim o [ None ↦ None | Some a ↦ Some (Some a) ]) at

full_before : (answers : List DocAnswer) (rest : List (Option DocAnswer)) (i : ℕ) → i < length answers
    → (answer : DocAnswer) × (slice_get (map (λ a. Some a) answers ++ rest) i ≡ Some (Some answer))
full_before answers rest i within =
    elim (slice_get_cases answers i).1 [
      | inl at ↦ (at.0, get-before (map (λ a. Some a) answers) rest (Some at.0) i (full_at answers i at.0 at.2))
      | inr past ↦ absurd (omega (arith, past.0))
    ]

-- the first place that is empty
pub IsFirstEmpty-from_rest : (answers : List DocAnswer) (slots rest : List (Option DocAnswer)) (n : ℕ) → n ≡ length answers
    → map (λ a. Some a) answers ++ None ∷ rest ≡ slots → IsFirstEmpty slots (Lost n)
IsFirstEmpty-from_rest answers slots rest n is all =
    rw (is, ← all) (
      (let e = get-last (map (λ (a : DocAnswer). Some a) answers) None rest in rw length-map at e),
      (λ i within. full_before answers (None ∷ rest) i within),
    )

-- ---- the places that are filled

-- at the start no message has come
pub AreFilled-start : (jobs : List DocJob) (slots : List (Option DocAnswer)) → length slots ≡ length jobs → AreEmpty slots → AreFilled jobs [] slots
AreFilled-start jobs slots count empty = record {
  count = count;
  of_jobs = record { each = λ k m at. absurd (cc); once = λ k m at. absurd (cc) };
  empty = λ i at k m none. absurd (cc);
  full = λ i answer at. let e : Some answer ≡ None = empty i (Some answer) at in absurd (cc);
  right = λ i answer job at. let e : Some answer ≡ None = empty i (Some answer) at in absurd (cc);
}

Lacks-snoc : (messages : List Sent) (m : Sent) (doc : ℕ) → Lacks messages doc → m.doc ≢ doc → Lacks (messages ++ m ∷ []) doc
Lacks-snoc messages m doc lacks other k n at =
    elim (get_snoc messages m n k at) [
      | inl before ↦ lacks k n before
      | inr last ↦ subst (λ (x : Sent). x.doc ≢ doc) last.1 other
    ]

Lacks-from_snoc : (messages : List Sent) (m : Sent) (doc : ℕ) → Lacks (messages ++ m ∷ []) doc → Lacks messages doc
Lacks-from_snoc messages m doc lacks k n at = lacks k n (get-before messages (m ∷ []) n k at)

Lacks-last : (messages : List Sent) (m : Sent) → ¬ Lacks (messages ++ m ∷ []) m.doc
Lacks-last messages m lacks = lacks (length messages) m (get-last messages m []) refl

AreOfJobs-snoc : (jobs : List DocJob) (messages : List Sent) (m : Sent) → AreOfJobs jobs messages → IsOfJob jobs m → Lacks messages m.doc
    → AreOfJobs jobs (messages ++ m ∷ [])
AreOfJobs-snoc jobs messages m all one lacks = record {
  each = λ k n at. elim (get_snoc messages m n k at) [
    | inl before ↦ all.each k n before
    | inr last ↦ subst (IsOfJob jobs) last.1 one
  ];
  once = λ k n at. elim (get_snoc messages m n k at) [
    | inl before ↦
        let within : k < length messages = slice_get_within messages k n before in
        let short : take k (messages ++ m ∷ []) ≡ take k messages = take-append-le k messages (m ∷ []) (omega arith) in
        rw short (all.once k n before)
    | inr last ↦ rw (last.0, take-append_seam messages (m ∷ []), ← last.1) lacks
  ];
}

one_job : (jobs : List DocJob) (i : ℕ) (job other : DocJob) → slice_get jobs i ≡ Some job → slice_get jobs i ≡ Some other → job ≡ other
one_job jobs i job other at also = let e : Some job ≡ Some other = sym at ∙ also in cc

-- one more message, whose answer is put at its job's place
pub AreFilled-snoc : (jobs : List DocJob) (messages : List Sent) (slots : List (Option DocAnswer)) (m : Sent) → AreFilled jobs messages slots
    → IsOfJob jobs m → slice_get slots m.doc ≡ Some None → IsSearched m.answer
    → AreFilled jobs (messages ++ m ∷ []) (slice_set slots m.doc (Some m.answer))
AreFilled-snoc jobs messages slots m filled one free searched = record {
  count = length-set slots m.doc (Some m.answer) ∙ filled.count;
  of_jobs = AreOfJobs-snoc jobs messages m filled.of_jobs one (filled.empty m.doc free);
  empty = λ i at. elim (get-set slots m.doc (Some m.answer) None i at) [
    | inl here ↦ absurd (let e : Some m.answer ≡ None = here.1 in cc)
    | inr other ↦ Lacks-snoc messages m i (filled.empty i other.1) (λ e. other.0 (sym e))
  ];
  full = λ i answer at. elim (get-set slots m.doc (Some m.answer) (Some answer) i at) [
    | inl here ↦ rw here.0 (Lacks-last messages m)
    | inr other ↦ λ lacks. filled.full i answer other.1 (Lacks-from_snoc messages m i lacks)
  ];
  right = λ i answer job at job_at. elim (get-set slots m.doc (Some m.answer) (Some answer) i at) [
    | inl here ↦
        let same : one.0 ≡ job = one_job jobs m.doc one.0 job one.1 (rw here.0 at job_at) in
        let is : m.answer ≡ answer = (let e : Some m.answer ≡ Some answer = here.1 in cc) in
        rw (← same, ← is) (IsAnswerTo-from_about one.0 m.answer searched one.2)
    | inr other ↦ filled.right i answer job other.1 job_at
  ];
}

-- ---- the answers and the faults

-- places that all have an answer
pub AreAnswers-from_full : (jobs : List DocJob) (messages : List Sent) (slots : List (Option DocAnswer)) (answers : List DocAnswer)
    → AreFilled jobs messages slots → slots ≡ map (λ a. Some a) answers → AreAnswers jobs answers
AreAnswers-from_full jobs messages slots answers filled all =
    let count : length answers ≡ length jobs = sym (length-map answers (λ (a : DocAnswer). Some a)) ∙ (sym (ap length all) ∙ filled.count) in
    record {
      count = count;
      each = λ i job at. elim (slice_get_cases answers i).1 [
        | inl found ↦ (
          found.0,
          found.2,
          filled.right i found.0 job (rw all (full_at answers i found.0 found.2)) at,
        )
        | inr past ↦ absurd (let within : i < length jobs = slice_get_within jobs i job at in omega arith)
      ];
    }

-- an empty place is a job without a message
pub IsFaultOf-from_empty : (jobs : List DocJob) (messages : List Sent) (slots : List (Option DocAnswer)) (fault : PoolFault)
    → AreFilled jobs messages slots → IsFirstEmpty slots fault → IsFaultOf jobs messages false fault
IsFaultOf-from_empty jobs messages slots NoWorkers filled empty = empty
IsFaultOf-from_empty jobs messages slots TooMany filled empty = empty
IsFaultOf-from_empty jobs messages slots (Lost doc) filled empty = (
  refl,
  filled.of_jobs,
  (let within : doc < length slots = slice_get_within slots doc None empty.0 in let e = filled.count in omega arith),
  filled.empty doc empty.0,
  λ i before. let at = empty.1 i before in filled.full i at.0 at.1,
)
IsFaultOf-from_empty jobs messages slots (Double doc) filled empty = absurd empty
IsFaultOf-from_empty jobs messages slots (Stranger doc) filled empty = absurd empty
IsFaultOf-from_empty jobs messages slots NoMemory filled empty = tt

-- a message that can't be taken, after messages that were
pub IsFaultOf-from_refused : (jobs : List DocJob) (messages rest : List Sent) (slots : List (Option DocAnswer)) (m : Sent) (starved : Bool) (fault : PoolFault)
    → AreFilled jobs messages slots → IsRefused jobs slots m fault → IsFaultOf jobs (messages ++ m ∷ rest) starved fault
IsFaultOf-from_refused jobs messages rest slots m starved NoWorkers filled refused = refused
IsFaultOf-from_refused jobs messages rest slots m starved TooMany filled refused = refused
IsFaultOf-from_refused jobs messages rest slots m starved (Lost doc) filled refused = absurd refused
IsFaultOf-from_refused jobs messages rest slots m starved (Double doc) filled refused = (
  length messages,
  m,
  (get-last messages m rest, rw take-append_seam filled.of_jobs),
  refused.0,
  refused.1,
  rw take-append_seam (filled.full doc refused.2.0 refused.2.1),
)
IsFaultOf-from_refused jobs messages rest slots m starved (Stranger doc) filled refused =
    (length messages, m, (get-last messages m rest, rw take-append_seam filled.of_jobs), refused.0, refused.1)
IsFaultOf-from_refused jobs messages rest slots m starved NoMemory filled refused = tt

-- ---- the place of a message's job

-- what is no value is none
pub none_at : (slots : List (Option DocAnswer)) (i : ℕ) (slot : Option DocAnswer) → i < length slots → false ≡ is_some (get_or slots i slot)
    → slice_get slots i ≡ Some None
none_at slots i slot within is = slice_get-get_or slots i slot within ∙ ap (λ (o : Option DocAnswer). Some o) (by_cases (get_or slots i slot) is) where
  by_cases : (o : Option DocAnswer) → false ≡ is_some o → o ≡ None
  by_cases None h = refl
  by_cases (Some a) h = absurd (cc)

-- what is not none is a value
pub some_at : (slots : List (Option DocAnswer)) (i : ℕ) (slot : Option DocAnswer) → i < length slots → true ≡ is_some (get_or slots i slot)
    → (answer : DocAnswer) × (slice_get slots i ≡ Some (Some answer))
some_at slots i slot within is = by_cases (get_or slots i slot) refl is where
  by_cases : (o : Option DocAnswer) → get_or slots i slot ≡ o → true ≡ is_some o → (answer : DocAnswer) × (slice_get slots i ≡ Some (Some answer))
  by_cases None at h = absurd (cc)
  by_cases (Some a) at h = (a, slice_get-get_or slots i slot within ∙ ap (λ (o : Option DocAnswer). Some o) at)

pub some-from_not_empty : (n len : ℕ) (b : Bool) → b ≡ false → b ≡ (len == 0) → len ≡ n → 0 < n
some-from_not_empty n zero b is test same = absurd (let e : false ≡ true = sym is ∙ test in cc)
some-from_not_empty n (suc len) b is test same = omega (arith, same)

-- a job that is at fault, where there are jobs
pub NamesJob-from_fault : (jobs : List DocJob) (messages : List Sent) (starved : Bool) (fault : PoolFault) → 0 < length jobs
    → IsFaultOf jobs messages starved fault → NamesJob jobs fault
NamesJob-from_fault jobs messages starved (Lost doc) some is = is.2
NamesJob-from_fault jobs messages starved (Double doc) some is =
    let job = is.4 in rw (is.3) at (slice_get_within jobs is.1.doc job.0 job.1)
NamesJob-from_fault jobs messages starved (Stranger doc) some is =
    let least : min is.1.doc (length jobs - 1) ≤ length jobs - 1 = min-le_right is.1.doc (length jobs - 1) in
    let same : min is.1.doc (length jobs - 1) ≡ doc = is.3 in
    omega (arith, least, same, some)
NamesJob-from_fault jobs messages starved NoWorkers some is = tt
NamesJob-from_fault jobs messages starved TooMany some is = tt
NamesJob-from_fault jobs messages starved NoMemory some is = tt
