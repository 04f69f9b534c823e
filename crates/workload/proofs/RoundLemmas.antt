-- Rounds over all clients.
use Rattle.std.proofs.Common.{◌≡◌, ◌∙◌, ◌⊎◌, ◌≤◌, ℕ, ◌+◌, ◌-◌, ◌<◌, ◌++◌, ◌∷◌, [], All, Bool, List, None, Some, ap, arith, drop, false, get_or, inl, inr, length, map, refl, slice_get, subst, suc, sym, take, true}
use Rattle.std.specs.Prelude.{option_and_then, sum_by}
use Rattle.std.proofs.Math.ListN.{set}
use Rattle.std.proofs.lemmas.Bool.{cases_eq, both_ways}
use Rattle.std.proofs.lemmas.List.{drop_all, drop_more, length-drop, length-map, length-set, length_push, set-get_or, take_at}
use Rattle.std.proofs.lemmas.List.Sums.{sum_by-set}
use Rattle.std.proofs.lemmas.Option.{slice_get-get_or, slice_get_cases, slice_get_within}
use Rattle.doc_register.specs.declared.op.Op.{Op}
use Rattle.events.specs.declared.event.Event.{Event}
use Rattle.recorder.specs.Pens.{PenState}
use Rattle.workload.specs.ClientRuns.{AreLongerByRuns, nothing_known, pair_in}
use Rattle.workload.specs.Plans.{turn_at, turn_count}
use Rattle.workload.specs.aids.Clients.{IsLongerByClient, IsLongerByFront}
use Rattle.workload.specs.aids.Seats.{AreNew, AreSeated, IsDone, IsLongerSoFar, IsOpenIfAny, IsNew, IsSeated, Visits, visits_left}
use Rattle.workload.specs.declared.seat.Seat.{Seat}
use Rattle.workload.specs.declared.target.Progress.{Progress}
use Rattle.workload.specs.declared.target.Ticket.{Ticket}
use Rattle.workload.specs.declared.turn.Turn.{Turn}
use Rattle.workload.proofs.ClientLemmas.{longer_at_start, run_at_end}
use Rattle.workload.proofs.RunningLemmas.{longer_by_each}
use Rattle.version_pair.proofs.ListLemmas.{mapped_from, from_set, get_snoc, none_is_not_some}
use Rattle.recorder.proofs.ListLemmas.{all_at}

module _ {X : Type 0} where
  none_past : (xs : List X) (i : ℕ) → slice_get xs i ≡ None → drop i xs ≡ []
  none_past xs i none =
      elim (slice_get_cases xs i).1 [ inl found ↦ absurd (none_is_not_some found.0 (sym none ∙ found.2)) | inr past ↦ drop_all i xs past.0 ]

  -- a list of which a part was lent whole
  pub lent_back : (now old : List X) (count : ℕ) → length now ≡ count → take count (now ++ drop (length now) old) ≡ now
  lent_back now old count same = take_at now (drop (length now) old) count same

-- ---- before the first turn

module _ {P : Type 0} where
  -- The first clients are seated, and these pens are left.
  pub record AreNewSoFar (pens : List P) (seats : List (Seat P)) (rest : List P) : Type 0 where
    pub left : drop (length seats) pens ≡ rest
    pub within : length seats ≤ length pens
    pub each : (i : ℕ) (pen : P) (seat : Seat P) → slice_get pens i ≡ Some pen → slice_get seats i ≡ Some seat → IsNew i pen seat

  pub new_after : (pens : List P) (seats : List (Seat P)) (pen : P) (rest : List P) (seat : Seat P) → AreNewSoFar pens seats (pen ∷ rest)
      → IsNew (length seats) pen seat → AreNewSoFar pens (seats ++ seat ∷ []) rest
  new_after pens seats pen rest seat front new =
      let count : length pens - length seats ≡ suc (length rest) = sym (length-drop (length seats) pens) ∙ ap length front.left in
      let more : length seats < length pens = omega arith in
      let next : pen ∷ rest ≡ get_or pens (length seats) pen ∷ drop (length seats + 1) pens = sym front.left ∙ drop_more pens (length seats) pen more in
      let longer : length (seats ++ seat ∷ []) ≡ length seats + 1 = length_push seats seat in
      record {
        left = ap (λ n. drop n pens) longer ∙ (cc);
        within = omega arith;
        each = λ i p s at_pen at_seat.
            elim (get_snoc seats seat s i at_seat) [
              | inr here ↦
                  let same : Some p ≡ Some pen =
                  sym at_pen ∙ ap (slice_get pens) here.0 ∙ slice_get-get_or pens (length seats) pen more ∙ (let first : get_or pens (length seats) pen ≡ pen = cc in ap Some first) in
                  let is_pen : pen ≡ p = cc in
                  rw (← here.1) (subst (λ n. IsNew n p seat) (sym here.0) (subst (λ q. IsNew (length seats) q seat) is_pen new))
              | inl there ↦ front.each i p s at_pen there
            ];
      }

  pub new_at_end : (pens : List P) (seats : List (Seat P)) → AreNewSoFar pens seats [] → AreNew pens seats
  new_at_end pens seats front =
      let none : length pens - length seats ≡ 0 = sym (length-drop (length seats) pens) ∙ ap length front.left in
      let within = front.within in
      record { count = omega arith; each = front.each }

  fresh_at : (pens : List P) (seats : List (Seat P)) → AreNew pens seats → (i : ℕ) (d : Seat P) → i < length seats → IsNew i (get_or pens i d.pen) (get_or seats i d)
  fresh_at pens seats new i d within =
      new.each i (get_or pens i d.pen) (get_or seats i d) (slice_get-get_or pens i d.pen (omega (arith, new.count))) (slice_get-get_or seats i d within)

  pub new_clients : (pens : List P) (seats : List (Seat P)) (count : ℕ) → AreNew pens seats → length pens ≡ count
      → All (λ seat. seat.client < count) seats
  new_clients pens seats count new same i d within = omega (arith, new.count, (fresh_at pens seats new i d within).client_is)

  pub new_idle : (issued : Ticket → List ℕ → Op → Type 0) (state : P → PenState) (pens : List P) (seats : List (Seat P)) → AreNew pens seats
      → All (λ seat. IsOpenIfAny issued (state seat.pen).list seat.open_call) seats
  new_idle issued state pens seats new i d within =
      subst (IsOpenIfAny issued (state (get_or seats i d).pen).list) (sym (fresh_at pens seats new i d within).is_idle) tt

  pub new_pens : (is_ours : P → Type 0) (pens : List P) (seats : List (Seat P)) → AreNew pens seats → All is_ours pens
      → All (λ seat. is_ours seat.pen) seats
  new_pens is_ours pens seats new all i d within = subst is_ours (sym (fresh_at pens seats new i d within).pen_is) (all i d.pen (omega (arith, new.count)))

module _ (issued : Ticket → List ℕ → Op → Type 0) (gave : Ticket → Progress → Type 0) (polls : ℕ) {P : Type 0} (state : P → PenState) (clients : List (List Turn)) where
  -- A round so far, in which the first i seats were visited.
  pub record IsRoundSoFar (old now : List (Seat P)) (i : ℕ) (acted : Bool) : Type 0 where
    pub count : length now ≡ length old
    pub keeps : (pens : List P) → AreSeated issued gave polls state clients pens old → AreSeated issued gave polls state clients pens now
    pub fewer : acted ≡ true → sum_by (visits_left clients polls) now < sum_by (visits_left clients polls) old
    pub same : acted ≡ false → now ≡ old
    pub done : acted ≡ false → (k : ℕ) (d : Seat P) → k < i → IsDone clients (get_or old k d)

  pub seated_after : (pens : List P) (now : List (Seat P)) (i : ℕ) (seat new : Seat P) (acted : Bool) → slice_get now i ≡ Some seat
      → Visits issued gave polls state clients seat new acted → AreSeated issued gave polls state clients pens now
      → AreSeated issued gave polls state clients pens (set now i new)
  seated_after pens now i seat new acted at visits seated = record {
    count = length-set now i new ∙ seated.count;
    each = λ j pen later at_pen at_later.
        elim (from_set now i j new later at_later) [
          | inl here ↦
              rw here.1 (visits.keeps j (state pen).list (seated.each j pen seat at_pen (ap (slice_get now) here.0 ∙ at)))
          | inr there ↦ seated.each j pen later at_pen there.1
        ];
  }

  -- the visit of the next seat
  pub round_after : (old now : List (Seat P)) (i : ℕ) (acted reported next : Bool) (d new : Seat P) → i < length now
      → ((reported ≡ true) × (next ≡ true)) ⊎ ((reported ≡ false) × (next ≡ acted))
      → Visits issued gave polls state clients (get_or now i d) new reported
      → IsRoundSoFar old now i acted → IsRoundSoFar old (set now i new) (i + 1) next
  round_after old now i acted reported next d new within (inl busy) visits round = record {
    count = length-set now i new ∙ round.count;
    keeps = λ pens seated. seated_after pens now i (get_or now i d) new reported (slice_get-get_or now i d within) visits (round.keeps pens seated);
    fewer = λ _. fewer_still acted refl (sum_by-set (visits_left clients polls) now i new d within) (visits.fewer busy.0);
    same = λ is_false. absurd (both_ways next is_false busy.1);
    done = λ is_false. absurd (both_ways next is_false busy.1);
  }
    where
      fewer_still : (b : Bool) → acted ≡ b
          → sum_by (visits_left clients polls) (set now i new) + visits_left clients polls (get_or now i d) ≡ sum_by (visits_left clients polls) now + visits_left clients polls new
          → visits_left clients polls new < visits_left clients polls (get_or now i d)
          → sum_by (visits_left clients polls) (set now i new) < sum_by (visits_left clients polls) old
      fewer_still true was moved less = omega (arith, round.fewer was)
      fewer_still false was moved less = omega (arith, ap (sum_by (visits_left clients polls)) (round.same was))
  round_after old now i acted reported next d new within (inr idle) visits round =
      let rested = visits.done idle.0 in
      let unchanged : set now i new ≡ now = ap (set now i) rested.0 ∙ set-get_or now i d in
      record {
        count = length-set now i new ∙ round.count;
        keeps = λ pens seated. seated_after pens now i (get_or now i d) new reported (slice_get-get_or now i d within) visits (round.keeps pens seated);
        fewer = λ is_true. rw unchanged (round.fewer (sym idle.1 ∙ is_true));
        same = λ is_false. unchanged ∙ round.same (sym idle.1 ∙ is_false);
        done = λ is_false k e below.
            elim (cases_eq k i) [
              | inl here ↦
                  let at_d = slice_get-get_or now i d within in
                  let at_e = slice_get-get_or now i e within in
                  let alike : get_or now i d ≡ get_or now i e = cc in
                  subst (IsDone clients) (alike ∙ ap (λ seats. get_or seats i e) (round.same (sym idle.1 ∙ is_false)) ∙ ap (λ n. get_or old n e) (sym here)) rested.1
              | inr there ↦ round.done (sym idle.1 ∙ is_false) k e (omega arith)
            ];
      }

  -- ---- before the first round, and after the last

  pub seated_at_start : (pens : List P) (seats : List (Seat P)) → length pens ≡ length clients → AreNew pens seats
      → AreSeated issued gave polls state clients pens seats
  seated_at_start pens seats same new = record {
    count = new.count;
    each = λ i pen seat at_pen at_seat.
        let fresh = new.each i pen seat at_pen at_seat in
        let within : i < length clients = omega (arith, slice_get_within pens i pen at_pen) in
        let first = 1 + turn_count (take i clients) in
        let turns = get_or clients i [] in
        let none : IsLongerByFront issued gave polls first turns 0 nothing_known (state pen).list (state pen).list =
        longer_at_start issued gave polls first turns (state pen).list in
        let known : IsLongerByFront issued gave polls first turns 0 (pair_in seat.known) (state pen).list (state pen).list =
        subst (λ k. IsLongerByFront issued gave polls first turns 0 k (state pen).list (state pen).list) (sym fresh.knows) none in
        record {
          client_is = fresh.client_is;
          turns = turns;
          turns_are = slice_get-get_or clients i [] within;
          longer =
              subst (λ o. IsLongerSoFar issued gave polls first turns seat.begun (pair_in seat.known) (state pen).list (state seat.pen).list o) (sym fresh.is_idle)
              (subst (λ n. IsLongerByFront issued gave polls first turns n (pair_in seat.known) (state pen).list (state seat.pen).list) (sym fresh.begun_is)
              (subst (λ p. IsLongerByFront issued gave polls first turns 0 (pair_in seat.known) (state pen).list (state p).list) (sym fresh.pen_is) known));
        };
  }

  -- a client that is done has run
  done_has_run : (client : ℕ) (list : List (ℕ × Event)) (seat : Seat P) → IsSeated issued gave polls state clients client list seat → IsDone clients seat
      → IsLongerByClient issued gave polls clients client list (state seat.pen).list
  done_has_run client list seat seated done =
      let first = 1 + turn_count (take client clients) in
      let front : IsLongerByFront issued gave polls first seated.turns seat.begun (pair_in seat.known) list (state seat.pen).list =
      subst (λ o. IsLongerSoFar issued gave polls first seated.turns seat.begun (pair_in seat.known) list (state seat.pen).list o) done.is_idle seated.longer in
      let none : slice_get seated.turns seat.begun ≡ None =
      sym (ap (option_and_then (λ ts. slice_get ts seat.begun)) seated.turns_are) ∙ ap (λ c. turn_at clients c seat.begun) (sym seated.client_is) ∙ done.is_at_end in
      let run = run_at_end issued gave polls first seated.turns seat.begun (pair_in seat.known) list (state seat.pen).list (none_past seated.turns seat.begun none) front in
      record {
        entries = run.entries;
        grows = run.grows;
        run = record { turns = seated.turns; turns_are = seated.turns_are; run = run.run; rising = run.rising };
        rises = run.rises;
      }

  -- where all are done, the lists of their pens are longer by the clients' runs
  pub longer_when_done : (pens done : List P) (seats : List (Seat P)) → AreSeated issued gave polls state clients pens seats → All (IsDone clients) seats
      → done ≡ map (λ seat. seat.pen) seats → AreLongerByRuns issued gave polls clients (map state pens) (map state done)
  longer_when_done pens done seats seated all are =
      let count : length done ≡ length pens = ap length are ∙ length-map seats (λ (seat : Seat P). seat.pen) ∙ seated.count in
      longer_by_each issued gave polls state clients pens done count (λ i pen p at_pen at_done.
      let found = mapped_from (λ (seat : Seat P). seat.pen) seats i p (ap (λ ps. slice_get ps i) (sym are) ∙ at_done) in
      let rested : IsDone clients found.0 = all_at (IsDone clients) seats i found.0 all found.1 in
      subst (λ q. IsLongerByClient issued gave polls clients i (state pen).list (state q).list) found.2
      (done_has_run i (state pen).list found.0 (seated.each i pen found.0 at_pen found.1) rested))

  -- the pens of seats whose pens are this recorder's are its own
  pub pens_ours : (is_ours : P → Type 0) (done : List P) (seats : List (Seat P)) → All (λ seat. is_ours seat.pen) seats
      → done ≡ map (λ seat. seat.pen) seats → All is_ours done
  pens_ours is_ours done seats all are i d within =
      let found = mapped_from (λ (seat : Seat P). seat.pen) seats i (get_or done i d) (ap (λ ps. slice_get ps i) (sym are) ∙ slice_get-get_or done i d within) in
      subst is_ours found.2 (all_at (λ (seat : Seat P). is_ours seat.pen) seats i found.0 all found.1)
