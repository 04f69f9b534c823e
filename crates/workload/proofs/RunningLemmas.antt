-- The runs of all clients together.
use Rattle.std.proofs.Common.{subst, suc, zero, zero-add, ◌≡◌, ℕ, ◌+◌, ◌<◌, ◌∙◌, All, List, [], ◌∷◌, ◌++◌, Ok, Err, Result, Some, ap, arith, get_or, inl, inr, length, refl, slice_get, sym}
use Rattle.std.specs.Prelude.{IfErr, map, replicate}
use Rattle.std.specs.List.{enumerate_from}
use Rattle.std.proofs.lemmas.List.{get_or-map, get_or-replicate, length-map, length-replicate}
use Rattle.std.proofs.lemmas.List.FromFn.{get_or-enumerate_from, length-enumerate_from}
use Rattle.std.proofs.lemmas.Option.{get_or_from_slice_get, slice_get-get_or, slice_get_cases, slice_get_within}
use Rattle.doc_register.specs.declared.op.Op.{Op}
use Rattle.events.specs.declared.event.Event.{Event}
use Rattle.recorder.specs.Pens.{IsRising, PenState, new_pen}
use Rattle.recorder.specs.Recordings.{lists_of}
use Rattle.workload.specs.ClientRuns.{AreClientRuns, AreLongerByRuns, IsClientRun}
use Rattle.workload.specs.aids.Clients.{IsLongerByClient, RunsJob}
use Rattle.workload.specs.aids.Gathering.{IsFaultOf}
use Rattle.workload.specs.declared.run_fault.RunFault.{RunFault}
use Rattle.workload.specs.declared.run_fault.RunFault.TheVariants.{NoMemory}
use Rattle.workload.specs.declared.target.Progress.{Progress}
use Rattle.workload.specs.declared.target.Ticket.{Ticket}
use Rattle.workload.specs.declared.turn.Turn.{Turn}
use Rattle.version_pair.proofs.ListLemmas.{mapped_from}

-- ---- the fault of the least client

last_at : {P : Type 0} (pens : List P) (x : Result P RunFault) (rest : List (Result P RunFault))
    → slice_get (map (λ pen. Ok pen) pens ++ x ∷ rest) (length pens) ≡ Some x
last_at [] x rest = refl
last_at (pen ∷ pens) x rest = last_at pens x rest

ok_before : {P : Type 0} (pens : List P) (rest : List (Result P RunFault)) (i : ℕ) → i < length pens
    → (pen : P) × (slice_get (map (λ pen. Ok pen) pens ++ rest) i ≡ Some (Ok pen))
ok_before [] rest i within = absurd (omega arith)
ok_before (pen ∷ pens) rest zero within = (pen, refl)
ok_before (pen ∷ pens) rest (suc i) within = ok_before pens rest i (omega arith)

pub fault_here : {P : Type 0} (pens : List P) (rest : List (Result P RunFault)) (fault : RunFault)
    → IsFaultOf (map (λ pen. Ok pen) pens ++ Err fault ∷ rest) fault
fault_here pens rest fault = inr (length pens, last_at pens (Err fault) rest, λ i within. ok_before pens (Err fault ∷ rest) i within)

-- ---- jobs

-- a job is the number of a client and its pen
pub jobs_fit : {P : Type 0} (pens : List P) (is_ours : P → Type 0) (clients : ℕ) (jobs : List (ℕ × P)) → jobs ≡ enumerate_from 0 pens
    → length pens ≡ clients → All is_ours pens → All (λ job. (job.0 < clients) × is_ours job.1) jobs
jobs_fit pens is_ours clients jobs are count ours i d within =
    let here : i < length pens = omega (arith, ap length are, length-enumerate_from 0 pens) in
    let at : get_or jobs i d ≡ (0 + i, get_or pens i d.1) = ap (λ js. get_or js i d) are ∙ get_or-enumerate_from 0 pens i d here in
    rw at (omega arith, ours i d.1 here)

-- ---- the pens of all clients

-- where the list of each client's pen is longer by its run, all are
pub longer_by_each : (issued : Ticket → List ℕ → Op → Type 0) (gave : Ticket → Progress → Type 0) (polls : ℕ) {P : Type 0} (state : P → PenState)
    (clients : List (List Turn)) (pens done : List P) → length done ≡ length pens
    → ((i : ℕ) (pen p : P) → slice_get pens i ≡ Some pen → slice_get done i ≡ Some p → IsLongerByClient issued gave polls clients i (state pen).list (state p).list)
    → AreLongerByRuns issued gave polls clients (map state pens) (map state done)
longer_by_each issued gave polls state clients pens done same_count each = record {
  count = length-map done state ∙ same_count ∙ sym (length-map pens state);
  each = λ client before after at_old at_new.
      let old = mapped_from state pens client before at_old in
      let new = mapped_from state done client after at_new in
      let ran = each client old.0 new.0 old.1 new.1 in (
        ran.entries,
        ap (λ (s : PenState). s.list) (sym new.2) ∙ ran.grows ∙ ap (λ (s : PenState). s.list ++ ran.entries) old.2,
        ran.run,
        λ rose. subst (λ (s : PenState). IsRising s.list) new.2 (ran.rises (subst (λ (s : PenState). IsRising s.list) (sym old.2) rose)),
      );
}

module _ (issued : Ticket → List ℕ → Op → Type 0) (gave : Ticket → Progress → Type 0) (polls : ℕ) {P : Type 0} (state : P → PenState) (is_ours : P → Type 0) (has_cause : RunFault → Type 0) (clients : List (List Turn)) where
  -- each job gave what it should
  pub record AreRun (jobs : List (ℕ × P)) (results : List (Result P RunFault)) : Type 0 where
    pub count : length results ≡ length jobs
    pub each : (i : ℕ) (d : ℕ × P) (e : Result P RunFault) → i < length jobs
        → RunsJob issued gave polls state is_ours has_cause clients (get_or jobs i d) (get_or results i e)

  -- the fault of the least client, or want of memory, has a cause
  pub fault_caused : (jobs : List (ℕ × P)) (results : List (Result P RunFault)) (fault : RunFault) → AreRun jobs results → has_cause NoMemory
      → IsFaultOf results fault → has_cause fault
  fault_caused jobs results fault run memory (inl none) = subst has_cause (sym none) memory
  fault_caused jobs results fault run memory (inr found) =
      let within : found.0 < length results = slice_get_within results found.0 (Err fault) found.1 in
      let here : found.0 < length jobs = omega (arith, run.count) in
      let result : get_or results found.0 (Err fault) ≡ Err fault = get_or_from_slice_get results found.0 (Err fault) (Err fault) found.1 in
      let job : ℕ × P = elim (slice_get_cases jobs found.0).1 [ inl job ↦ job.0 | inr past ↦ absurd (omega (arith, past.0)) ] in
      let ran = (run.each found.0 job (Err fault) here).cause in
      let reported : IfErr {T = P} (Err fault) has_cause = rw result at ran in
      reported

  module _ (pens done : List P) (jobs : List (ℕ × P)) (results : List (Result P RunFault)) (are : jobs ≡ enumerate_from 0 pens) (all : results ≡ map (λ pen. Ok pen) done) (run : AreRun jobs results) where
    same_count : length done ≡ length pens
    same_count =
        let ok : P → Result P RunFault = λ pen. Ok pen in
        omega (arith, ap length are, ap length all, run.count, length-enumerate_from 0 pens, length-map done ok)

    ran_at : (i : ℕ) (pen p : P) → slice_get pens i ≡ Some pen → slice_get done i ≡ Some p
        → IsLongerByClient issued gave polls clients i (state pen).list (state p).list × is_ours p
    ran_at i pen p at_old at_new =
        let here : i < length pens = slice_get_within pens i pen at_old in
        let within : i < length jobs = omega (arith, ap length are, length-enumerate_from 0 pens) in
        let job : get_or jobs i (i, pen) ≡ (i, pen) =
        ap (λ js. get_or js i (i, pen)) are ∙ get_or-enumerate_from 0 pens i (i, pen) here
        ∙ ap (λ n. (n, get_or pens i pen)) (zero-add i) ∙ ap (λ (q : P). (i, q)) (get_or_from_slice_get pens i pen pen at_old) in
        let result : get_or results i (Ok p) ≡ Ok p =
        ap (λ rs. get_or rs i (Ok p)) all ∙ get_or-map (λ (q : P). Ok q) done i p (Ok p) (slice_get_within done i p at_new)
        ∙ ap (λ (q : P). Ok q) (get_or_from_slice_get done i p p at_new) in
        let ran = run.each i (i, pen) (Ok p) within in
        let reported : RunsJob issued gave polls state is_ours has_cause clients (i, pen) (Ok p) = rw (job, result) at ran in
        reported.runs

    -- where each job was run and gave a pen, these pens' lists are longer by the clients' runs
    pub longer_by_runs : AreLongerByRuns issued gave polls clients (map state pens) (map state done)
    longer_by_runs = longer_by_each issued gave polls state clients pens done same_count (λ i pen p at_old at_new. (ran_at i pen p at_old at_new).0)

    pub all_ours : All is_ours done
    all_ours i d within =
        (ran_at i (get_or pens i d) (get_or done i d)
        (slice_get-get_or pens i d (omega (arith, same_count))) (slice_get-get_or done i d within)).1

-- the lists of pens that were new are the runs of the clients
pub runs_of_new : (issued : Ticket → List ℕ → Op → Type 0) (gave : Ticket → Progress → Type 0) (polls : ℕ) (clients : List (List Turn)) (old new : List PenState)
    → old ≡ replicate (length clients) new_pen → AreLongerByRuns issued gave polls clients old new
    → AreClientRuns issued gave polls clients (lists_of new)
runs_of_new issued gave polls clients old new are longer = record {
  count = length-map new (λ (pen : PenState). pen.list) ∙ longer.count ∙ ap length are ∙ length-replicate (length clients) new_pen;
  each = λ client list at.
      let after = mapped_from (λ (pen : PenState). pen.list) new client list at in
      let within : client < length old = omega (arith, slice_get_within new client after.0 after.1, longer.count) in
      let before : slice_get old client ≡ Some new_pen =
      slice_get-get_or old client new_pen within ∙ ap (λ (pens : List PenState). Some (get_or pens client new_pen)) are
      ∙ ap Some (get_or-replicate (length clients) client new_pen new_pen (omega (arith, within, ap length are, length-replicate (length clients) new_pen))) in
      let run = longer.each client new_pen after.0 before after.1 in
      let same : run.0 ≡ list = sym run.1 ∙ after.2 in
      subst (λ (entries : List (ℕ × Event)). IsClientRun issued gave polls clients client entries) same run.2;
}
