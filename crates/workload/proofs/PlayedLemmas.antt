-- Clients that are played in turns record the runs of the clients.
use Rattle.std.proofs.Common.{◌≡◌, ◌∙◌, ℕ, zero, suc, ◌+◌, ◌-◌, ◌<◌, ◌++◌, ◌∷◌, [], All, Bool, List, MatchBool, None, Option, Some, add-zero, ap, append_assoc, arith, false, get_or, if◌then◌else◌, inl, inr, length, length-append, map, refl, slice_get, subst, sym, take, true}
use Rattle.std.specs.Prelude.{nat_lt, option_map, replicate}
use Rattle.std.specs.List.{enumerate_from}
use Rattle.std.specs.List.Sorted.{IsPermutation}
use Rattle.std.proofs.Math.ListN.{set}
use Rattle.std.proofs.Math.Seq.{map-set_same}
use Rattle.std.proofs.lemmas.Bool.{ltb-false, ltb-true}
use Rattle.std.proofs.lemmas.List.{get_or-replicate, length-map, length-replicate, map-id, map-set, set-get_or}
use Rattle.std.proofs.lemmas.List.Elements.{All-push, All-weaker}
use Rattle.std.proofs.lemmas.List.Sorted.{IsPermutation-append_comm, IsPermutation-append_right, IsPermutation-append_left, IsPermutation-refl, IsPermutation-trans}
use Rattle.std.proofs.lemmas.Option.{get_or_from_slice_get, slice_get-get_or, slice_get-map, slice_get_within}
use Rattle.doc_register.specs.declared.op.Op.{Op}
use Rattle.doc_register.specs.declared.reply.Reply.{Reply as Answer}
use Rattle.events.specs.declared.event.Event.{Event}
use Rattle.events.specs.declared.event.Event.TheVariants.{Call}
use Rattle.recorder.specs.Pens.{PenState, new_pen}
use Rattle.recorder.specs.Recordings.{IsRecordingOf, entries_of, lists_of}
use Rattle.workload.specs.ClientRuns.{AreLongerByRuns, AreOfClients, doc_name, ending_of, op_of, pair_in}
use Rattle.workload.specs.Plans.{turn_at, turn_count}
use Rattle.workload.specs.Playing.{AreNewPlayers, ArePlayed, AreRounds, AreVisited, BeginsCall, EndsCall, GoesOn, IsPlayedOut, LosesCall, PlayState, PollsCall, VisitsAt, VisitsPlayer, VisitsWith, asked_at, polled_to}
use Rattle.workload.specs.aids.Clients.{BeginsTurn, EndsTurn, IsHeard}
use Rattle.workload.specs.aids.Seats.{AreNew, AreSeated, IsDone, IsNew, Visits}
use Rattle.workload.specs.declared.player.Player.{Player}
use Rattle.workload.specs.declared.polled_call.PolledCall.{PolledCall}
use Rattle.workload.specs.declared.polled_call.Polled.TheVariants.{Ends, Waits}
use Rattle.workload.specs.declared.seat.Seat.{Seat}
use Rattle.workload.specs.declared.target.Progress.{Progress}
use Rattle.workload.specs.declared.target.Progress.TheVariants.{Waiting, Done, Unknown}
use Rattle.workload.specs.declared.target.Ticket.{Ticket}
use Rattle.workload.specs.declared.turn.Turn.{Turn}
use Rattle.workload.proofs.RoundLemmas.{longer_when_done, seated_after, seated_at_start}
use Rattle.workload.proofs.RunningLemmas.{runs_of_new}
use Rattle.workload.proofs.SeatLemmas.{visit_begins, visit_ends, visit_waits}
use Rattle.version_pair.proofs.ListLemmas.{mapped_from, from_set, none_is_not_some, same_some}
use Rattle.recorder.proofs.ListLemmas.{all_at}

-- ---- a client that is played, and its seat with a list

abbrev player_of : Seat PenState → Player
player_of seat = record { client = seat.client; known = seat.known; begun = seat.begun; open_call = seat.open_call }

abbrev seat_of : Player → Seat PenState
seat_of player = record { client = player.client; pen = new_pen; known = player.known; begun = player.begun; open_call = player.open_call }

abbrev state : PenState → PenState
state pen = pen

abbrev pens_in : List (Seat PenState) → List PenState
pens_in seats = map (λ (seat : Seat PenState). seat.pen) seats

players_of_seats : (players : List Player) → map player_of (map seat_of players) ≡ players
players_of_seats [] = refl
players_of_seats (player ∷ players) = ap (λ rest. player ∷ rest) (players_of_seats players)

-- ---- one entry more

entered_more : (seats : List (Seat PenState)) (i : ℕ) (seat new : Seat PenState) (entry : ℕ × Event) → slice_get seats i ≡ Some seat
    → new.pen.list ≡ seat.pen.list ++ entry ∷ []
    → IsPermutation (entries_of (lists_of (pens_in (set seats i new)))) (entries_of (lists_of (pens_in seats)) ++ entry ∷ [])
entered_more [] i seat new entry at is = absurd (none_is_not_some seat at)
entered_more (s ∷ ss) zero seat new entry at is =
    let rest = entries_of (lists_of (pens_in ss)) in
    let list : new.pen.list ≡ s.pen.list ++ entry ∷ [] = is ∙ ap (λ (t : Seat PenState). t.pen.list ++ entry ∷ []) (sym (same_some s seat at)) in
    let moved : IsPermutation (s.pen.list ++ (entry ∷ rest)) (s.pen.list ++ (rest ++ entry ∷ [])) =
    IsPermutation-append_right s.pen.list (entry ∷ rest) (rest ++ entry ∷ []) (IsPermutation-append_comm (entry ∷ []) rest) in
    let behind : IsPermutation (s.pen.list ++ (entry ∷ rest)) ((s.pen.list ++ rest) ++ entry ∷ []) =
    subst (λ xs. IsPermutation (s.pen.list ++ (entry ∷ rest)) xs) (sym (append_assoc s.pen.list rest (entry ∷ []))) moved in
    subst (λ xs. IsPermutation xs ((s.pen.list ++ rest) ++ entry ∷ [])) (sym (ap (λ xs. xs ++ rest) list ∙ append_assoc s.pen.list (entry ∷ []) rest)) behind
entered_more (s ∷ ss) (suc i) seat new entry at is =
    let rest = entries_of (lists_of (pens_in ss)) in
    let later = entries_of (lists_of (pens_in (set ss i new))) in
    subst (λ xs. IsPermutation (s.pen.list ++ later) xs) (sym (append_assoc s.pen.list rest (entry ∷ [])))
    (IsPermutation-append_right s.pen.list later (rest ++ entry ∷ []) (entered_more ss i seat new entry at is))

numbered_more : (n : ℕ) (events : List Event) (e : Event) → enumerate_from n (events ++ e ∷ []) ≡ enumerate_from n events ++ (n + length events, e) ∷ []
numbered_more n [] e = ap (λ k. (k, e) ∷ []) (sym (add-zero n))
numbered_more n (x ∷ xs) e =
    let number : n + 1 + length xs ≡ n + suc (length xs) = omega arith in
    ap (λ rest. (n, x) ∷ rest) (numbered_more (n + 1) xs e ∙ ap (λ k. enumerate_from (n + 1) xs ++ (k, e) ∷ []) number)

recorded_more : (seats : List (Seat PenState)) (i : ℕ) (seat new : Seat PenState) (events : List Event) (e : Event) → slice_get seats i ≡ Some seat
    → new.pen.list ≡ seat.pen.list ++ (length events, e) ∷ [] → IsRecordingOf (lists_of (pens_in seats)) events
    → IsRecordingOf (lists_of (pens_in (set seats i new))) (events ++ e ∷ [])
recorded_more seats i seat new events e at is recording =
    let entry : ℕ × Event = (length events, e) in
    let last : 0 + length events ≡ length events = omega arith in
    let numbered : enumerate_from 0 (events ++ e ∷ []) ≡ enumerate_from 0 events ++ entry ∷ [] =
    numbered_more 0 events e ∙ ap (λ k. enumerate_from 0 events ++ (k, e) ∷ []) last in
    subst (λ xs. IsPermutation (entries_of (lists_of (pens_in (set seats i new)))) xs) (sym numbered)
    (IsPermutation-trans (entries_of (lists_of (pens_in (set seats i new)))) (entries_of (lists_of (pens_in seats)) ++ entry ∷ []) (enumerate_from 0 events ++ entry ∷ [])
    (entered_more seats i seat new entry at is)
    (IsPermutation-append_left (entry ∷ []) (entries_of (lists_of (pens_in seats))) (enumerate_from 0 events) recording))

-- ---- before the first visit

none_entered : (players : List Player) → entries_of (lists_of (pens_in (map seat_of players))) ≡ []
none_entered [] = refl
none_entered (player ∷ players) = none_entered players

replicated : (n i : ℕ) (pen : PenState) → slice_get (replicate n new_pen) i ≡ Some pen → pen ≡ new_pen
replicated n i pen at =
    let within : i < n = omega (arith, slice_get_within (replicate n new_pen) i pen at, length-replicate n new_pen) in
    sym (get_or_from_slice_get (replicate n new_pen) i pen pen at) ∙ get_or-replicate n i new_pen pen within

new_seats : (count : ℕ) (players : List Player) → AreNewPlayers count players → AreNew (replicate count new_pen) (map seat_of players)
new_seats count players new = record {
  count = length-map players seat_of ∙ new.count_is ∙ sym (length-replicate count new_pen);
  each = λ i pen seat at_pen at_seat.
      let found = mapped_from seat_of players i seat at_seat in
      let fresh = new.each i found.0 found.1 in
      subst (λ (s : Seat PenState). IsNew i pen s) found.2
      (subst (λ p. IsNew i p (seat_of found.0)) (sym (replicated count i pen at_pen)) (record {
        client_is = fresh.client_is;
        pen_is = refl;
        knows = fresh.knows;
        begun_is = fresh.begun_is;
        is_idle = fresh.is_idle;
      }));
}

module _ {S : Type 0} (takes : S → List ℕ → Op → Ticket → S → Type 0) (reports : S → Ticket → Progress → S → Type 0) (polls : ℕ) (clients : List (List Turn)) (issued : Ticket → List ℕ → Op → Type 0) (gave : Ticket → Progress → Type 0) (issues : (w w' : S) (id : List ℕ) (op : Op) (ticket : Ticket) → takes w id op ticket w' → issued ticket id op) (gives : (w w' : S) (ticket : Ticket) (progress : Progress) → reports w ticket progress w' → gave ticket progress) where
  -- The clients that are played have seats with lists that are runs so far, and the events are the recording of these lists.
  record HaveLists (players : List Player) (events : List Event) : Type 0 where
    pub seats : List (Seat PenState)
    pub are : map player_of seats ≡ players
    pub seated : AreSeated issued gave polls state clients (replicate (length clients) new_pen) seats
    pub recording : IsRecordingOf (lists_of (pens_in seats)) events
    pub below : (i : ℕ) (seat : Seat PenState) → slice_get seats i ≡ Some seat → All (λ entry. entry.0 < length events) seat.pen.list

  at_start : (players : List Player) → AreNewPlayers (length clients) players → HaveLists players []
  at_start players new = record {
    seats = map seat_of players;
    are = players_of_seats players;
    seated =
        seated_at_start issued gave polls state clients (replicate (length clients) new_pen) (map seat_of players) (length-replicate (length clients) new_pen)
        (new_seats (length clients) players new);
    recording = subst (λ (xs : List (ℕ × Event)). IsPermutation xs []) (sym (none_entered players)) (IsPermutation-refl []);
    below = λ i seat at.
        let found = mapped_from seat_of players i seat at in
        subst (λ (s : Seat PenState). All (λ entry. entry.0 < 0) s.pen.list) found.2 (λ k d within. absurd (omega arith));
  }

  -- ---- one visit to the client whose seat stands at the place

  module _ (seats : List (Seat PenState)) (events : List Event) (i : ℕ) (seat : Seat PenState) (at : slice_get seats i ≡ Some seat) (have : AreSeated issued gave polls state clients (replicate (length clients) new_pen) seats) (recording : IsRecordingOf (lists_of (pens_in seats)) events) (below : (k : ℕ) (s : Seat PenState) → slice_get seats k ≡ Some s → All (λ entry. entry.0 < length events) s.pen.list) where
    -- an event is recorded, and the visit keeps whose seat it is
    with_event : (new : Seat PenState) (e : Event) → new.pen.list ≡ seat.pen.list ++ (length events, e) ∷ []
        → Visits issued gave polls state clients seat new true → HaveLists (set (map player_of seats) i (player_of new)) (events ++ e ∷ [])
    with_event new e is visits = record {
      seats = set seats i new;
      are = map-set player_of seats i new;
      seated = seated_after issued gave polls state clients (replicate (length clients) new_pen) seats i seat new true at visits have;
      recording = recorded_more seats i seat new events e at is recording;
      below = λ k s at_s.
          let more : length (events ++ e ∷ []) ≡ length events + 1 = length_more events e in
          elim (from_set seats i k new s at_s) [
            | inl here ↦
                subst (λ (t : Seat PenState). All (λ entry. entry.0 < length (events ++ e ∷ [])) t.pen.list) (sym here.1)
                (subst (λ (xs : List (ℕ × Event)). All (λ entry. entry.0 < length (events ++ e ∷ [])) xs) (sym is)
                (All-push (λ (entry : ℕ × Event). entry.0 < length (events ++ e ∷ [])) seat.pen.list (length events, e) (wider seat.pen.list more (below i seat at)) (omega arith)))
            | inr there ↦ wider s.pen.list more (below k s there.1)
          ];
    }
      where
        length_more : (xs : List Event) (x : Event) → length (xs ++ x ∷ []) ≡ length xs + 1
        length_more xs x = omega (arith, length-append xs (x ∷ []))

        wider : (list : List (ℕ × Event)) → length (events ++ e ∷ []) ≡ length events + 1 → All (λ entry. entry.0 < length events) list
            → All (λ entry. entry.0 < length (events ++ e ∷ [])) list
        wider list more all = All-weaker (λ (entry : ℕ × Event). entry.0 < length events) (λ (entry : ℕ × Event). entry.0 < length (events ++ e ∷ [])) (λ entry less. omega arith) list all

    -- nothing is recorded, and the visit keeps the pen and whose seat it is
    without_event : (new : Seat PenState) → new.pen ≡ seat.pen → Visits issued gave polls state clients seat new true
        → HaveLists (set (map player_of seats) i (player_of new)) events
    without_event new same visits = record {
      seats = set seats i new;
      are = map-set player_of seats i new;
      seated = seated_after issued gave polls state clients (replicate (length clients) new_pen) seats i seat new true at visits have;
      recording =
          subst (λ (pens : List PenState). IsRecordingOf (lists_of pens) events)
          (sym (map-set_same (λ (s : Seat PenState). s.pen) seats i new seat (same ∙ ap (λ (s : Seat PenState). s.pen) (sym (get_or_from_slice_get seats i seat seat at))))) recording;
      below = λ k s at_s.
          elim (from_set seats i k new s at_s) [
            | inl here ↦
                subst (λ (t : Seat PenState). All (λ entry. entry.0 < length events) t.pen.list) (sym here.1)
                (subst (λ (pen : PenState). All (λ entry. entry.0 < length events) pen.list) (sym same) (below i seat at))
            | inr there ↦ below k s there.1
          ];
    }

    begins : (turn : Turn) (w w' : S) (after : Player) (events' : List Event) → seat.open_call ≡ None → turn_at clients seat.client seat.begun ≡ Some turn
        → BeginsCall takes reports polls clients turn w (player_of seat) events w' after events' → HaveLists (set (map player_of seats) i after) events'
    begins turn w w' after events' idle next b =
        let k = 1 + turn_count (take seat.client clients) + seat.begun in
        let event : ℕ → Event = λ n. Call 0 n (doc_name turn.doc) (op_of turn.kind (pair_in seat.known turn.doc) k) in
        let pen : PenState = record { list = seat.pen.list ++ (length events, event (length events)) ∷ []; is_full = false } in
        let new : Seat PenState = record seat { pen = pen; begun = seat.begun + 1; open_call = Some (record { call = b.call; polls_left = polls }) } in
        let begun : BeginsTurn issued (pair_in seat.known) k turn seat.pen.list pen.list b.call = record {
          grows = ap (λ n. seat.pen.list ++ (n, event n) ∷ []) (sym b.numbered);
          above = subst (λ n. All (λ (entry : ℕ × Event). entry.0 < n) seat.pen.list) (sym b.numbered) (below i seat at);
          is_of = b.of_document;
          was_issued = issues w w' (doc_name turn.doc) (asked_at clients (player_of seat) turn) b.call.ticket b.submitted;
        } in
        let visits = visit_begins issued gave polls state clients seat turn k pen b.call idle next refl begun in
        subst (λ es. HaveLists (set (map player_of seats) i after) es) (sym b.recorded)
        (subst (λ p. HaveLists (set (map player_of seats) i p) (events ++ event (length events) ∷ [])) (sym b.opened) (with_event new (event (length events)) refl visits))

    ends : (polled : PolledCall) (heard : Option Answer) (after : Player) (events' : List Event) → seat.open_call ≡ Some polled
        → IsHeard issued gave polled.polls_left polled.call.ticket heard
        → EndsCall polled.call heard (player_of seat) events after events' → HaveLists (set (map player_of seats) i after) events'
    ends polled heard after events' is_open reported e =
        let event = ending_of polled.call.no heard in
        let pen : PenState = record { list = seat.pen.list ++ (length events, event) ∷ []; is_full = false } in
        let new : Seat PenState = record seat { pen = pen; known = after.known; open_call = None } in
        let ended : EndsTurn polled.call heard (pair_in seat.known) seat.pen.list pen.list (pair_in after.known) = record {
          number = length events;
          grows = refl;
          above = below i seat at;
          knows = e.knows;
        } in
        let visits = visit_ends issued gave polls state clients seat polled heard pen after.known is_open reported ended in
        subst (λ es. HaveLists (set (map player_of seats) i after) es) (sym e.recorded)
        (subst (λ p. HaveLists (set (map player_of seats) i p) (events ++ event ∷ [])) (sym e.closed) (with_event new event refl visits))

    waits : (polled : PolledCall) (after : Player) (events' : List Event) → seat.open_call ≡ Some polled → 1 < polled.polls_left → gave polled.call.ticket Waiting
        → GoesOn polled Waits (player_of seat) events after events' → HaveLists (set (map player_of seats) i after) events'
    waits polled after events' is_open more given on =
        let new : Seat PenState = record seat { open_call = Some (record polled { polls_left = polled.polls_left - 1 }) } in
        subst (λ es. HaveLists (set (map player_of seats) i after) es) (sym on.1)
        (subst (λ p. HaveLists (set (map player_of seats) i p) events) (sym on.0)
        (without_event new refl (visit_waits issued gave polls state clients seat polled is_open more given)))

    idles : (after : Player) (events' : List Event) → after ≡ player_of seat → events' ≡ events → HaveLists (set (map player_of seats) i after) events'
    idles after events' same none =
        let as_it_was : set seats i seat ≡ seats = ap (set seats i) (sym (get_or_from_slice_get seats i seat seat at)) ∙ set-get_or seats i seat in
        subst (λ es. HaveLists (set (map player_of seats) i after) es) (sym none)
        (subst (λ p. HaveLists (set (map player_of seats) i p) events) (sym same) (record {
          seats = seats;
          are = ap (map player_of) (sym as_it_was) ∙ map-set player_of seats i seat;
          seated = have;
          recording = recording;
          below = below;
        }))

    goes_on : (polled : PolledCall) (progress : Progress) (after : Player) (events' : List Event) → seat.open_call ≡ Some polled → gave polled.call.ticket progress
        → GoesOn polled (polled_to polled.polls_left progress) (player_of seat) events after events' → HaveLists (set (map player_of seats) i after) events'
    goes_on polled Waiting after events' is_open given on = by_left (nat_lt 1 polled.polls_left) refl on where
      by_left : (b : Bool) → nat_lt 1 polled.polls_left ≡ b → GoesOn polled (if b then Waits else Ends None) (player_of seat) events after events'
          → HaveLists (set (map player_of seats) i after) events'
      by_left true is one = waits polled after events' is_open (ltb-true 1 polled.polls_left is) given one
      by_left false is one = ends polled None after events' is_open (λ some. inl given) one
    goes_on polled (Done r) after events' is_open given on = ends polled (Some r) after events' is_open given on
    goes_on polled Unknown after events' is_open given on = ends polled None after events' is_open (λ some. inr given) on

    visited : (w w' : S) (after : Player) (events' : List Event) (o : Option PolledCall) (t : Option Turn) → seat.open_call ≡ o → turn_at clients seat.client seat.begun ≡ t
        → VisitsWith takes reports polls clients o t w (player_of seat) events w' after events' → HaveLists (set (map player_of seats) i after) events'
    visited w w' after events' None None idle at_end visits = idles after events' visits.1 visits.2
    visited w w' after events' None (Some turn) idle next visits = begins turn w w' after events' idle next visits
    visited w w' after events' (Some polled) t is_open next visits = by_left (nat_lt 0 polled.polls_left) refl visits where
      by_left : (b : Bool) → nat_lt 0 polled.polls_left ≡ b
          → MatchBool b (PollsCall reports polled w (player_of seat) events w' after events') (LosesCall polled w (player_of seat) events w' after events')
          → HaveLists (set (map player_of seats) i after) events'
      by_left true is one = goes_on polled one.progress after events' is_open (gives w w' polled.call.ticket one.progress one.reported) one.goes_on
      by_left false is one = ends polled None after events' is_open (λ some. absurd (omega (arith, ltb-false 0 polled.polls_left is))) one.1

  -- ---- all visits

  visit_kept : (i : ℕ) (old new : PlayState S) → VisitsAt takes reports polls clients i old new → HaveLists old.players old.events → HaveLists new.players new.events
  visit_kept i old new here have =
      let found = mapped_from player_of have.seats i here.before (ap (λ players. slice_get players i) have.are ∙ here.is_there) in
      let visits : VisitsPlayer takes reports polls clients old.target (player_of found.0) old.events new.target here.after new.events =
      subst (λ p. VisitsPlayer takes reports polls clients old.target p old.events new.target here.after new.events) (sym found.2) here.visited in
      let after = visited have.seats old.events i found.0 found.1 have.seated have.recording have.below old.target new.target here.after new.events
      (found.0).open_call (turn_at clients (found.0).client (found.0).begun) refl refl visits in
      subst (λ players. HaveLists players new.events) (ap (λ players. set players i here.after) have.are ∙ sym here.others_stay) after

  round_kept : (i : ℕ) (old new : PlayState S) → AreVisited takes reports polls clients i old new → HaveLists old.players old.events → HaveLists new.players new.events
  unfolding AreVisited
  round_kept zero old new same have = subst (λ (w : PlayState S). HaveLists w.players w.events) (sym same) have
  round_kept (suc i) old new visits have = visit_kept i visits.0 new visits.2 (round_kept i old visits.0 visits.1 have)

  rounds_kept : (n : ℕ) (old new : PlayState S) → AreRounds takes reports polls clients n old new → HaveLists old.players old.events → HaveLists new.players new.events
  unfolding AreRounds
  rounds_kept zero old new same have = subst (λ (w : PlayState S). HaveLists w.players w.events) (sym same) have
  rounds_kept (suc n) old new rounds have = round_kept (length clients) rounds.0 new rounds.2 (rounds_kept n old rounds.0 rounds.1 have)

  seats_done : (players : List Player) (seats : List (Seat PenState)) → map player_of seats ≡ players → All (IsPlayedOut clients) players → All (IsDone clients) seats
  seats_done players seats are all k d within =
      let seat = get_or seats k d in
      let long : k < length players = omega (arith, ap length are, length-map seats player_of) in
      let at : slice_get players k ≡ Some (player_of seat) =
      sym (ap (λ ps. slice_get ps k) are) ∙ (slice_get-map player_of seats k ∙ ap (option_map player_of) (slice_get-get_or seats k d within)) in
      let done = all_at (IsPlayedOut clients) players k (player_of seat) all at in
      record { is_idle = done.is_idle; is_at_end = done.is_at_end }

  -- What was recorded is the recording of lists that are the runs of the clients.
  pub played_is_run : (first last : S) (events : List Event) → ArePlayed takes reports polls clients first last events → AreOfClients issued gave polls clients events
  played_is_run first last events played =
      let have = rounds_kept played.rounds _ _ played.played (at_start played.new played.are_new) in
      let pens = replicate (length clients) new_pen in
      let done = pens_in have.seats in
      let longer : AreLongerByRuns issued gave polls clients (map state pens) (map state done) =
      longer_when_done issued gave polls state clients pens done have.seats have.seated (seats_done played.done have.seats have.are played.are_done) refl in
      let same : AreLongerByRuns issued gave polls clients pens done =
      subst (λ xs. AreLongerByRuns issued gave polls clients pens xs) (map-id done) (subst (λ xs. AreLongerByRuns issued gave polls clients xs (map state done)) (map-id pens) longer) in
      record {
        lists = lists_of done;
        runs = runs_of_new issued gave polls clients pens done refl same;
        recording = have.recording;
      }
