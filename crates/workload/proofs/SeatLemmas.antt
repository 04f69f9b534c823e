-- What a visit makes of a client.
use Rattle.std.proofs.Common.{◌≡◌, ◌∙◌, ℕ, ◌+◌, ◌-◌, ◌*◌, ◌<◌, ◌∷◌, [], List, Option, Some, None, ap, arith, drop, inl, length, refl, slice_get, subst, suc, sym, take, true, zero}
use Rattle.std.specs.Prelude.{option_and_then, unwrap_or}
use Rattle.std.proofs.lemmas.List.{drop_more}
use Rattle.std.proofs.lemmas.Option.{get_or_from_slice_get, slice_get_within}
use Rattle.version_pair.specs.declared.pair.Pair.{Pair}
use Rattle.doc_register.specs.declared.op.Op.{Op}
use Rattle.doc_register.specs.declared.reply.Reply.{Reply as Answer}
use Rattle.recorder.specs.Pens.{PenState}
use Rattle.workload.specs.Plans.{turn_at, turn_count}
use Rattle.workload.specs.aids.Clients.{BeginsTurn, EndsTurn, IsHeard, IsLongerByFront}
use Rattle.workload.specs.aids.Seats.{IsLongerByOpen, IsLongerSoFar, Visits, turns_of}
use Rattle.workload.specs.declared.open_call.OpenCall.{OpenCall}
use Rattle.workload.specs.declared.polled_call.PolledCall.{PolledCall}
use Rattle.workload.specs.declared.seat.Seat.{Seat}
use Rattle.workload.specs.declared.target.Progress.{Progress}
use Rattle.workload.specs.declared.target.Progress.TheVariants.{Waiting}
use Rattle.workload.specs.declared.target.Ticket.{Ticket}
use Rattle.workload.specs.declared.turn.Turn.{Turn}
use Rattle.workload.specs.ClientRuns.{pair_in}
use Rattle.workload.proofs.ClientLemmas.{longer_after, turn_taken}

-- ---- turns of a plan

turn_in : (clients : List (List Turn)) (client i : ℕ) (turns : List Turn) (turn : Turn) → slice_get clients client ≡ Some turns
    → turn_at clients client i ≡ Some turn → slice_get turns i ≡ Some turn
turn_in clients client i turns turn are at = sym (ap (option_and_then (λ ts. slice_get ts i)) are) ∙ at

pub turn_at_of : (clients : List (List Turn)) (client i : ℕ) → turn_at clients client i ≡ slice_get (turns_of clients client) i
turn_at_of clients client i =
    elim (slice_get clients client) as (λ o. option_and_then (λ ts. slice_get ts i) o ≡ slice_get (unwrap_or o []) i) [ None ↦ refl | Some turns ↦ refl ]

next_turn : (turns : List Turn) (i : ℕ) (turn : Turn) → slice_get turns i ≡ Some turn → drop i turns ≡ turn ∷ drop (i + 1) turns
next_turn turns i turn at =
    drop_more turns i turn (slice_get_within turns i turn at) ∙ ap (λ t. t ∷ drop (i + 1) turns) (get_or_from_slice_get turns i turn turn at)

-- ---- visits

pub fewer_begun : (count begun polls : ℕ) → begun < count → (count - (begun + 1)) * (polls + 2) + (polls + 1) < (count - begun) * (polls + 2) + 0
fewer_begun count begun polls within =
    let one : count - begun ≡ (count - (begun + 1)) + 1 = omega arith in
    rw one (omega arith)

module _ (issued : Ticket → List ℕ → Op → Type 0) (gave : Ticket → Progress → Type 0) (polls : ℕ) where
  -- what the last poll says is what the polls say
  heard_at_last : (left : ℕ) (ticket : Ticket) (heard : Option Answer) → (left < polls → gave ticket Waiting)
      → IsHeard issued gave left ticket heard → IsHeard issued gave polls ticket heard
  heard_at_last zero ticket None waited reported = λ some. inl (waited some)
  heard_at_last (suc left) ticket None waited reported = λ some. reported (omega arith)
  heard_at_last left ticket (Some r) waited reported = reported

  module _ {P : Type 0} (state : P → PenState) (clients : List (List Turn)) where
    -- a visit that begins a turn
    pub visit_begins : (seat : Seat P) (turn : Turn) (k : ℕ) (pen : P) (call : OpenCall)
        → seat.open_call ≡ None → turn_at clients seat.client seat.begun ≡ Some turn
        → k ≡ 1 + turn_count (take seat.client clients) + seat.begun
        → BeginsTurn issued (pair_in seat.known) k turn (state seat.pen).list (state pen).list call
        → Visits issued gave polls state clients seat
        (record seat { pen = pen; begun = seat.begun + 1; open_call = Some (record { call = call; polls_left = polls }) }) true
    visit_begins seat turn k pen call idle at number begins = record {
      same_client = refl;
      keeps = λ client list seated.
          let turn_is : slice_get seated.turns seat.begun ≡ Some turn =
          turn_in clients client seat.begun seated.turns turn seated.turns_are (ap (λ c. turn_at clients c seat.begun) (sym seated.client_is) ∙ at) in
          let front : IsLongerByFront issued gave polls (1 + turn_count (take client clients)) seated.turns seat.begun (pair_in seat.known) list (state seat.pen).list =
          subst (λ o. IsLongerSoFar issued gave polls (1 + turn_count (take client clients)) seated.turns seat.begun (pair_in seat.known) list (state seat.pen).list o) idle seated.longer in
          let number_is : k ≡ 1 + turn_count (take client clients) + seat.begun = number ∙ ap (λ c. 1 + turn_count (take c clients) + seat.begun) seated.client_is in
          record {
            client_is = seated.client_is;
            turns = seated.turns;
            turns_are = seated.turns_are;
            longer = record {
              place = seat.begun;
              is_last = refl;
              turn = turn;
              turn_is = turn_is;
              between = (state seat.pen).list;
              front = front;
              begins = subst (λ n. BeginsTurn issued (pair_in seat.known) n turn (state seat.pen).list (state pen).list call) number_is begins;
              waited = λ less. absurd (omega arith);
            };
          };
      fewer = λ _.
          let within : seat.begun < length (turns_of clients seat.client) = slice_get_within _ _ turn (sym (turn_at_of clients seat.client seat.begun) ∙ at) in
          rw idle (fewer_begun (length (turns_of clients seat.client)) seat.begun polls within);
      done = λ no. cc;
    }

    -- a visit that ends a turn
    pub visit_ends : (seat : Seat P) (polled : PolledCall) (heard : Option Answer) (pen : P) (known : List (Option Pair))
        → seat.open_call ≡ Some polled → IsHeard issued gave polled.polls_left polled.call.ticket heard
        → EndsTurn polled.call heard (pair_in seat.known) (state seat.pen).list (state pen).list (pair_in known)
        → Visits issued gave polls state clients seat (record seat { pen = pen; known = known; open_call = None }) true
    visit_ends seat polled heard pen known is_open reported ends = record {
      same_client = refl;
      keeps = λ client list seated.
          let first = 1 + turn_count (take client clients) in
          let before : IsLongerByOpen issued gave polls first seated.turns seat.begun (pair_in seat.known) list (state seat.pen).list polled =
          subst (λ o. IsLongerSoFar issued gave polls first seated.turns seat.begun (pair_in seat.known) list (state seat.pen).list o) is_open seated.longer in
          let taken = turn_taken issued gave polls (pair_in seat.known) (pair_in known) (first + before.place) before.turn before.between (state seat.pen).list (state pen).list polled.call heard before.begins
          (heard_at_last polled.polls_left polled.call.ticket heard before.waited reported) ends in
          record {
            client_is = seated.client_is;
            turns = seated.turns;
            turns_are = seated.turns_are;
            longer =
                subst (λ begun. IsLongerByFront issued gave polls first seated.turns begun (pair_in known) list (state pen).list) (sym before.is_last)
                (longer_after issued gave polls first seated.turns before.place (first + before.place) (pair_in seat.known) (pair_in known) before.turn list before.between (state pen).list
                (next_turn seated.turns before.place before.turn before.turn_is) refl before.front taken);
          };
      fewer = λ _. rw is_open (omega arith);
      done = λ no. cc;
    }

    -- a visit that polls a call which stays open
    pub visit_waits : (seat : Seat P) (polled : PolledCall) → seat.open_call ≡ Some polled → 1 < polled.polls_left → gave polled.call.ticket Waiting
        → Visits issued gave polls state clients seat (record seat { open_call = Some (record polled { polls_left = polled.polls_left - 1 }) }) true
    visit_waits seat polled is_open more waits = record {
      same_client = refl;
      keeps = λ client list seated.
          let first = 1 + turn_count (take client clients) in
          let before : IsLongerByOpen issued gave polls first seated.turns seat.begun (pair_in seat.known) list (state seat.pen).list polled =
          subst (λ o. IsLongerSoFar issued gave polls first seated.turns seat.begun (pair_in seat.known) list (state seat.pen).list o) is_open seated.longer in
          record {
            client_is = seated.client_is;
            turns = seated.turns;
            turns_are = seated.turns_are;
            longer = record {
              place = before.place;
              is_last = before.is_last;
              turn = before.turn;
              turn_is = before.turn_is;
              between = before.between;
              front = before.front;
              begins = before.begins;
              waited = λ _. waits;
            };
          };
      fewer = λ _. rw is_open (omega arith);
      done = λ no. cc;
    }
