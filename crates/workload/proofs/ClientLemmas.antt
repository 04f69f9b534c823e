-- Runs of a client, turn by turn.
use Rattle.std.proofs.Common.{◌≡◌, ℕ, ◌+◌, ◌<◌, ◌∙◌, suc, All, List, None, Option, Some, [], ◌∷◌, ◌++◌, add-zero, ap, append_assoc, append-nil, arith, drop, refl, subst, sym}
use Rattle.std.proofs.lemmas.List.Elements.{All-head, All-push, All-weaker}
use Rattle.std.proofs.lemmas.List.Quantifiers.{all_pairs_push}
use Rattle.doc_register.specs.declared.op.Op.{Op}
use Rattle.doc_register.specs.declared.reply.Reply.{Reply as Answer}
use Rattle.events.specs.declared.event.Event.{Event}
use Rattle.events.specs.declared.event.Event.TheVariants.{Call}
use Rattle.recorder.specs.Pens.{IsRising}
use Rattle.workload.specs.ClientRuns.{Ends, IsRunFrom, IsTurn, LastPairs, after_ending, doc_name, ending_of, nothing_known, op_of}
use Rattle.workload.specs.aids.Clients.{BeginsTurn, EndsTurn, IsFront, IsHeard, IsLongerByFront, IsLongerByRun, TakesTurn}
use Rattle.workload.specs.declared.open_call.OpenCall.{OpenCall}
use Rattle.workload.specs.declared.target.Progress.{Progress}
use Rattle.workload.specs.declared.target.Ticket.{Ticket}
use Rattle.workload.specs.declared.turn.Turn.{Turn}
use Rattle.recorder.proofs.ListLemmas.{all_of_second}

none_rising : IsRising []
none_rising i j d less within = absurd (omega arith)

-- a list whose numbers rise is longer by a call and its ending, numbered above all in it
rising_by_turn : (list : List (ℕ × Event)) (call ending : ℕ × Event) → IsRising list → All (λ entry. entry.0 < call.0) list → call.0 < ending.0
    → IsRising (list ++ call ∷ ending ∷ [])
rising_by_turn list call ending rising above later =
    let with_call : IsRising (list ++ call ∷ []) = all_pairs_push (λ (x y : ℕ × Event). x.0 < y.0) list call rising above in
    let below : All (λ entry. entry.0 < ending.0) (list ++ call ∷ []) =
    All-push (λ entry. entry.0 < ending.0) list call (All-weaker (λ entry. entry.0 < call.0) (λ entry. entry.0 < ending.0) (λ entry less. omega arith) list above) later in
    subst IsRising (append_assoc list (call ∷ []) (ending ∷ []))
    (all_pairs_push (λ (x y : ℕ × Event). x.0 < y.0) (list ++ call ∷ []) ending with_call below)

module _ (issued : Ticket → List ℕ → Op → Type 0) (gave : Ticket → Progress → Type 0) (polls : ℕ) where
  -- a turn that was begun, heard of and ended was taken
  pub turn_taken : (known after : LastPairs) (k : ℕ) (turn : Turn) (old list new : List (ℕ × Event)) (call : OpenCall) (heard : Option Answer)
      → BeginsTurn issued known k turn old list call → IsHeard issued gave polls call.ticket heard
      → EndsTurn call heard known list new after → TakesTurn issued gave polls known k turn old new after
  turn_taken known after k turn old list new call heard begins hears ends = record {
    call = (call.no, Call 0 call.no (doc_name turn.doc) (op_of turn.kind (known turn.doc) k));
    ending = (ends.number, ending_of call.no heard);
    grows = ends.grows ∙ ap (λ xs. xs ++ (ends.number, ending_of call.no heard) ∷ []) begins.grows ∙ append_assoc old _ _;
    above = begins.above;
    later = All-head (λ entry. entry.0 < ends.number) (call.no, Call 0 call.no (doc_name turn.doc) (op_of turn.kind (known turn.doc) k)) []
        (all_of_second (λ entry. entry.0 < ends.number) old _ (subst (λ xs. All (λ (entry : ℕ × Event). entry.0 < ends.number) xs) begins.grows ends.above));
    is_turn = record { called = refl; ended = ended heard hears };
    knows = ends.knows ∙ ap (λ doc. after_ending known doc (ending_of call.no heard)) begins.is_of;
  }
    where
      ended : (h : Option Answer) → IsHeard issued gave polls call.ticket h
          → Ends issued gave polls call.no (doc_name turn.doc) (op_of turn.kind (known turn.doc) k) (ending_of call.no h)
      ended None none = (refl, record { ticket = call.ticket; was_issued = begins.was_issued; was_given = none })
      ended (Some r) given = (refl, record { ticket = call.ticket; was_issued = begins.was_issued; was_given = given })

module _ (issued : Ticket → List ℕ → Op → Type 0) (gave : Ticket → Progress → Type 0) (polls : ℕ) (first : ℕ) (turns : List Turn) where
  -- before the first turn
  front_at_start : IsFront issued gave polls first turns 0 nothing_known []
  front_at_start = record {
    onward = λ rest run. subst (λ k. IsRunFrom issued gave polls nothing_known k turns rest) (add-zero first) run;
  }

  -- the list of a pen before the first turn
  pub longer_at_start : (list : List (ℕ × Event)) → IsLongerByFront issued gave polls first turns 0 nothing_known list list
  longer_at_start list = record {
    entries = [];
    grows = sym (append-nil list);
    front = front_at_start;
    rising = none_rising;
    rises = λ rose. rose;
  }

  -- one turn more
  front_after : (i : ℕ) (known : LastPairs) (turn : Turn) (entries : List (ℕ × Event)) (call ending : ℕ × Event)
      → drop i turns ≡ turn ∷ drop (i + 1) turns
      → IsFront issued gave polls first turns i known entries
      → IsTurn issued gave polls known (first + i) turn call ending
      → IsFront issued gave polls first turns (i + 1) (after_ending known turn.doc ending.1) (entries ++ call ∷ ending ∷ [])
  unfolding IsRunFrom
  front_after i known turn entries call ending next front turned = record {
    onward = λ rest run.
        let after : LastPairs = after_ending known turn.doc ending.1 in
        let number : first + (i + 1) ≡ suc (first + i) = omega arith in
        let later : IsRunFrom issued gave polls after (suc (first + i)) (drop (i + 1) turns) rest =
        subst (λ k. IsRunFrom issued gave polls after k (drop (i + 1) turns) rest) number run in
        let here : IsRunFrom issued gave polls known (first + i) (turn ∷ drop (i + 1) turns) (call ∷ ending ∷ rest) = (turned, later) in
        let left : IsRunFrom issued gave polls known (first + i) (drop i turns) (call ∷ ending ∷ rest) =
        subst (λ ts. IsRunFrom issued gave polls known (first + i) ts (call ∷ ending ∷ rest)) (sym next) here in
        subst (λ es. IsRunFrom issued gave polls nothing_known first turns es) (sym (append_assoc entries (call ∷ ending ∷ []) rest))
        (front.onward (call ∷ ending ∷ rest) left);
  }

  -- the list of the pen, one turn later
  pub longer_after : (i k : ℕ) (known after : LastPairs) (turn : Turn) (old list new : List (ℕ × Event))
      → drop i turns ≡ turn ∷ drop (i + 1) turns → k ≡ first + i
      → IsLongerByFront issued gave polls first turns i known old list
      → TakesTurn issued gave polls known k turn list new after
      → IsLongerByFront issued gave polls first turns (i + 1) after old new
  longer_after i k known after turn old list new next number longer taken = record {
    entries = longer.entries ++ taken.call ∷ taken.ending ∷ [];
    grows = taken.grows ∙ ap (λ xs. xs ++ taken.call ∷ taken.ending ∷ []) longer.grows ∙ append_assoc old longer.entries (taken.call ∷ taken.ending ∷ []);
    front =
        subst (λ now. IsFront issued gave polls first turns (i + 1) now (longer.entries ++ taken.call ∷ taken.ending ∷ [])) (sym taken.knows)
        (front_after i known turn longer.entries taken.call taken.ending next longer.front
        (subst (λ n. IsTurn issued gave polls known n turn taken.call taken.ending) number taken.is_turn));
    rising =
        rising_by_turn longer.entries taken.call taken.ending longer.rising
        (all_of_second (λ entry. entry.0 < taken.call.0) old longer.entries (subst (λ xs. All (λ entry. entry.0 < taken.call.0) xs) longer.grows taken.above)) taken.later;
    rises = λ rose. subst IsRising (sym taken.grows) (rising_by_turn list taken.call taken.ending (longer.rises rose) taken.above taken.later);
  }

  -- after the last turn
  pub run_at_end : (i : ℕ) (known : LastPairs) (old new : List (ℕ × Event)) → drop i turns ≡ []
      → IsLongerByFront issued gave polls first turns i known old new → IsLongerByRun issued gave polls first turns old new
  unfolding IsRunFrom
  run_at_end i known old new none longer = record {
    entries = longer.entries;
    grows = longer.grows;
    run =
        let nothing_left : IsRunFrom issued gave polls known (first + i) (drop i turns) [] =
        subst (λ ts. IsRunFrom issued gave polls known (first + i) ts []) (sym none) tt in
        subst (λ es. IsRunFrom issued gave polls nothing_known first turns es) (append-nil longer.entries)
        (longer.front.onward [] nothing_left);
    rising = longer.rising;
    rises = longer.rises;
  }
