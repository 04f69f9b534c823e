-- Rounds over clients that are played in turns.
use Rattle.std.proofs.Common.{◌≡◌, ◌∙◌, ◌⊎◌, ◌≤◌, ℕ, ◌+◌, ◌<◌, ◌++◌, ◌∷◌, [], All, Bool, List, None, Some, ap, arith, false, get_or, inl, inr, length, refl, subst, suc, sym, take, true, add-one}
use Rattle.std.specs.Prelude.{sum_by}
use Rattle.std.proofs.Math.ListN.{set}
use Rattle.std.proofs.lemmas.Bool.{cases_eq, both_ways}
use Rattle.std.proofs.lemmas.List.{length-set, length_push, set-get_or}
use Rattle.std.proofs.lemmas.List.Sums.{sum_by-set}
use Rattle.std.proofs.lemmas.Option.{slice_get-get_or, slice_get_within}
use Rattle.doc_register.specs.declared.op.Op.{Op}
use Rattle.events.specs.declared.event.Event.{Event}
use Rattle.events.specs.declared.event.Event.TheVariants.{Call}
use Rattle.workload.specs.ClientRuns.{doc_name, op_of, pair_in}
use Rattle.workload.specs.Plans.{turn_at, turn_count}
use Rattle.workload.specs.Playing.{AreNewPlayers, AreRounds, AreVisited, BeginsCall, IsNewPlayer, IsPlayedOut, PlayState, VisitsAt, VisitsPlayer, VisitsWith}
use Rattle.workload.specs.aids.Players.{Advances, AdvanceEach, visits_owed}
use Rattle.workload.specs.aids.Seats.{turns_of}
use Rattle.workload.specs.declared.open_call.OpenCall.{OpenCall}
use Rattle.workload.specs.declared.player.Player.{Player}
use Rattle.workload.specs.declared.target.Progress.{Progress}
use Rattle.workload.specs.declared.target.Ticket.{Ticket}
use Rattle.workload.specs.declared.turn.Turn.{Turn}
use Rattle.workload.proofs.SeatLemmas.{fewer_begun, turn_at_of}
use Rattle.version_pair.proofs.ListLemmas.{get_snoc, none_is_not_some}

module _ (polls : ℕ) (clients : List (List Turn)) where
  -- A round so far, in which the first i clients were visited.
  pub record HaveAdvanced (old now : List Player) (i : ℕ) (acted : Bool) : Type 0 where
    pub count : length now ≡ length old
    pub fewer : acted ≡ true → sum_by (visits_owed clients polls) now < sum_by (visits_owed clients polls) old
    pub same : acted ≡ false → now ≡ old
    pub done : acted ≡ false → (k : ℕ) (d : Player) → k < i → IsPlayedOut clients (get_or old k d)

  pub none_advanced : (players : List Player) → HaveAdvanced players players 0 false
  none_advanced players = record {
    count = refl;
    fewer = λ no. absurd (both_ways false refl no);
    same = λ yes. refl;
    done = λ yes k d below. absurd (omega arith);
  }

  -- the visit of the next client
  pub advanced_more : (old now : List Player) (i : ℕ) (acted reported next : Bool) (d new : Player) → i < length now
      → ((reported ≡ true) × (next ≡ true)) ⊎ ((reported ≡ false) × (next ≡ acted))
      → Advances polls clients (get_or now i d) new reported
      → HaveAdvanced old now i acted → HaveAdvanced old (set now i new) (i + 1) next
  advanced_more old now i acted reported next d new within (inl busy) advances round = record {
    count = length-set now i new ∙ round.count;
    fewer = λ _. fewer_still acted refl (sum_by-set (visits_owed clients polls) now i new d within) (advances.fewer busy.0);
    same = λ is_false. absurd (both_ways next is_false busy.1);
    done = λ is_false. absurd (both_ways next is_false busy.1);
  }
    where
      fewer_still : (b : Bool) → acted ≡ b
          → sum_by (visits_owed clients polls) (set now i new) + visits_owed clients polls (get_or now i d) ≡ sum_by (visits_owed clients polls) now + visits_owed clients polls new
          → visits_owed clients polls new < visits_owed clients polls (get_or now i d)
          → sum_by (visits_owed clients polls) (set now i new) < sum_by (visits_owed clients polls) old
      fewer_still true was moved less = omega (arith, round.fewer was)
      fewer_still false was moved less = omega (arith, ap (sum_by (visits_owed clients polls)) (round.same was))
  advanced_more old now i acted reported next d new within (inr idle) advances round =
      let rested = advances.done idle.0 in
      let unchanged : set now i new ≡ now = ap (set now i) rested.0 ∙ set-get_or now i d in
      record {
        count = length-set now i new ∙ round.count;
        fewer = λ is_true. rw unchanged (round.fewer (sym idle.1 ∙ is_true));
        same = λ is_false. unchanged ∙ round.same (sym idle.1 ∙ is_false);
        done = λ is_false k e below.
            elim (cases_eq k i) [
              | inl here ↦
                  let at_d = slice_get-get_or now i d within in
                  let at_e = slice_get-get_or now i e within in
                  let alike : get_or now i d ≡ get_or now i e = cc in
                  subst (IsPlayedOut clients) (alike ∙ ap (λ players. get_or players i e) (round.same (sym idle.1 ∙ is_false)) ∙ ap (λ n. get_or old n e) (sym here)) rested.1
              | inr there ↦ round.done (sym idle.1 ∙ is_false) k e (omega arith)
            ];
      }

  pub advanced_at_end : (old now : List Player) (i : ℕ) (acted : Bool) → length now ≤ i → HaveAdvanced old now i acted → AdvanceEach polls clients old now acted
  advanced_at_end old now i acted all round = record {
    fewer = round.fewer;
    done = λ is_false. (round.same is_false, λ k e within. round.done is_false k e (omega (arith, round.count)));
  }

module _ {S : Type 0} (takes : S → List ℕ → Op → Ticket → S → Type 0) (reports : S → Ticket → Progress → S → Type 0) (polls : ℕ) (clients : List (List Turn)) where
  -- nobody was visited yet
  pub none_visited : (w : PlayState S) → AreVisited takes reports polls clients 0 w w
  unfolding AreVisited
  none_visited w = refl

  -- the visit of the next client
  pub visited_more : (old : PlayState S) (w w' : S) (players : List Player) (events events' : List Event) (i : ℕ) (d new : Player) → i < length players
      → VisitsPlayer takes reports polls clients w (get_or players i d) events w' new events'
      → AreVisited takes reports polls clients i old (record { target = w; players = players; events = events })
      → AreVisited takes reports polls clients (i + 1) old (record { target = w'; players = set players i new; events = events' })
  unfolding AreVisited
  visited_more old w w' players events events' i d new within visits so_far =
      let between : PlayState S = record { target = w; players = players; events = events } in
      let after : PlayState S = record { target = w'; players = set players i new; events = events' } in
      let here : VisitsAt takes reports polls clients i between after = record {
        before = get_or players i d;
        after = new;
        is_there = slice_get-get_or players i d within;
        visited = visits;
        others_stay = refl;
      } in
      let more : AreVisited takes reports polls clients (suc i) old after = (between, so_far, here) in
      subst (λ (n : ℕ). AreVisited takes reports polls clients n old after) (sym (add-one i)) more

  -- no round was made yet
  pub no_round : (w : PlayState S) → AreRounds takes reports polls clients 0 w w
  unfolding AreRounds
  no_round w = refl

  -- some rounds were made
  abbrev pub HaveRounds : PlayState S → PlayState S → Type 0
  HaveRounds old new = (n : ℕ) × AreRounds takes reports polls clients n old new

  -- the next round
  pub one_round_more : (old between new : PlayState S) → HaveRounds old between → AreVisited takes reports polls clients (length clients) between new → HaveRounds old new
  unfolding AreRounds
  one_round_more old between new rounds round = (suc rounds.0, (between, rounds.1, round))

-- ---- before the first visit

pub no_players : AreNewPlayers 0 []
no_players = record { count_is = refl; each = λ i player at. absurd (none_is_not_some player at) }

-- the next client is seated
pub players_more : (count : ℕ) (players : List Player) (player : Player) → AreNewPlayers count players → IsNewPlayer count player
    → AreNewPlayers (count + 1) (players ++ player ∷ [])
players_more count players player new fresh = record {
  count_is = length_push players player ∙ ap (λ n. n + 1) new.count_is;
  each = λ i p at.
      elim (get_snoc players player p i at) [
        | inl earlier ↦ new.each i p earlier
        | inr last ↦ subst (IsNewPlayer i) last.1 (subst (λ n. IsNewPlayer n player) (sym (last.0 ∙ new.count_is)) fresh)
      ];
}

pub new_clients_within : (count : ℕ) (players : List Player) → AreNewPlayers count players → All (λ player. player.client < count) players
new_clients_within count players new i d within =
    let fresh = new.each i (get_or players i d) (slice_get-get_or players i d within) in
    omega (arith, fresh.client_is, new.count_is)

-- ---- a visit that begins a turn

pub begun_advances : (polls : ℕ) (clients : List (List Turn)) (old : Player) (turn : Turn) (call : OpenCall) → old.open_call ≡ None
    → turn_at clients old.client old.begun ≡ Some turn
    → Advances polls clients old (record old { begun = old.begun + 1; open_call = Some (record { call = call; polls_left = polls }) }) true
begun_advances polls clients old turn call idle next = record {
  same_client = refl;
  fewer = λ _.
      let within : old.begun < length (turns_of clients old.client) =
      slice_get_within (turns_of clients old.client) old.begun turn (sym (turn_at_of clients old.client old.begun) ∙ next) in
      rw idle (fewer_begun (length (turns_of clients old.client)) old.begun polls within);
  done = λ no. cc;
}

module _ {S : Type 0} (takes : S → List ℕ → Op → Ticket → S → Type 0) (reports : S → Ticket → Progress → S → Type 0) (polls : ℕ) (clients : List (List Turn)) where
  pub begun_visits : (w w' : S) (old : Player) (before after : List Event) (turn : Turn) (k : ℕ) (call : OpenCall) → old.open_call ≡ None
      → turn_at clients old.client old.begun ≡ Some turn → k ≡ 1 + turn_count (take old.client clients) + old.begun
      → call.no ≡ length before → call.doc ≡ turn.doc
      → takes w (doc_name turn.doc) (op_of turn.kind (pair_in old.known turn.doc) k) call.ticket w'
      → after ≡ before ++ Call 0 call.no (doc_name turn.doc) (op_of turn.kind (pair_in old.known turn.doc) k) ∷ []
      → VisitsPlayer takes reports polls clients w old before w'
      (record old { begun = old.begun + 1; open_call = Some (record { call = call; polls_left = polls }) }) after
  begun_visits w w' old before after turn k call idle next number last doc submitted recorded =
      let new : Player = record old { begun = old.begun + 1; open_call = Some (record { call = call; polls_left = polls }) } in
      let begins : BeginsCall takes reports polls clients turn w old before w' new after = record {
        call = call;
        numbered = last;
        of_document = doc;
        recorded =
            recorded ∙ ap (λ n. before ++ Call 0 n (doc_name turn.doc) (op_of turn.kind (pair_in old.known turn.doc) k) ∷ []) last
            ∙ ap (λ n. before ++ Call 0 (length before) (doc_name turn.doc) (op_of turn.kind (pair_in old.known turn.doc) n) ∷ []) number;
        submitted = subst (λ n. takes w (doc_name turn.doc) (op_of turn.kind (pair_in old.known turn.doc) n) call.ticket w') number submitted;
        opened = refl;
      } in
      subst (λ o. VisitsWith takes reports polls clients o (turn_at clients old.client old.begun) w old before w' new after) (sym idle)
      (subst (λ t. VisitsWith takes reports polls clients None t w old before w' new after) (sym next) begins)
