-- How the history that is judged grows event by event.
use Rattle.std.proofs.Common.{ℕ, zero, suc, ◌≡◌, ◌<◌, ◌≤◌, ◌+◌, ◌*◌, ◌⊎◌, inl, inr, List, [], ◌∷◌, ◌++◌, refl, sym, ap, subst, ◌∙◌, arith, add-one, Bool, true, false, Option, Some, None, append_assoc, drop, length, map, option_map, slice_get}
use Rattle.std.specs.Prelude.{IfSome, if◌then◌else◌, unwrap_or}
use Rattle.std.specs.Option.{option_to_list}
use Rattle.std.proofs.lemmas.Option.{slice_get-map}
use Rattle.doc_register.specs.declared.op.Op.{Op}
use Rattle.doc_register.specs.declared.reply.Reply.{Reply as Answer}
use Rattle.version_pair.proofs.ListLemmas.{get_middle, none_is_not_some, same_some}
use Rattle.events.specs.declared.event.Event.{Event}
use Rattle.events.specs.declared.event.Event.TheVariants.{Call, Reply, Lost}
use Rattle.events.specs.Events.{HasShard, IsHistory, is_call, place_of}
use Rattle.events.specs.Refusal.{most_events, refusal_of}
use Rattle.events.proofs.AcceptedEvents.{IsNext, accepted}
use Rattle.events.proofs.PlaceLemmas.{shard_at}
use Rattle.readings.specs.declared.reading.Reading.{Reading}
use Rattle.history.specs.declared.text_rules.Writes.{Writes}
use Rattle.history.specs.declared.text_rules.Writes.TheVariants as writes
use Rattle.history.specs.Laws.{AreLost}
use Rattle.history.specs.ByRules.{is_repeatable, room_taken}
use Rattle.readings.specs.Reading.{doubled, heeded, heeded_events, is_hidden, read_as, shown_events, twin_before, with_twins, without_hidden, without_void}
use Rattle.readings.specs.declared.judged.ReadEvent.{ReadEvent}
use Rattle.readings.specs.aids.Judging.{IsReadAs, IsReadSoFar, ending_number, left_to_read, main_event, shown_event, twin_event}
use Rattle.readings.proofs.ReadingLaws.{read_history, room_read}
use Rattle.readings.proofs.ShownLemmas.{IsMask, hidden_mask, void_mask}

-- ---- numbers

place_masked : (f : Event → Event) → IsMask f → (n : ℕ) (events : List Event) → place_of (is_call n) (map f events) ≡ place_of (is_call n) events
place_masked f mask n [] = refl
place_masked f mask n (e ∷ es) =
    ap (λ b. if b then Some 0 else option_map suc (place_of (is_call n) (map f es))) (mask.calls n e)
    ∙ ap (λ o. if is_call n e then Some 0 else option_map suc o) (place_masked f mask n es)

-- the events that are shown name their calls as the text does
pub doubled_shown : (reading : Reading) (voids : List ℕ) (events : List Event) (n : ℕ) → doubled (shown_events reading voids events) n ≡ doubled events n
doubled_shown reading voids events n =
    ap (λ o. 2 * unwrap_or o 0)
    (place_masked (without_hidden reading) (hidden_mask reading) n (heeded_events reading voids events)
    ∙ place_masked (without_void (heeded reading.failed voids)) (void_mask (heeded reading.failed voids)) n events)

-- ---- one event

drop_at : {X : Type 0} (xs : List X) (i : ℕ) (x : X) → slice_get xs i ≡ Some x → drop i xs ≡ x ∷ drop (suc i) xs
drop_at [] i x at = absurd (none_is_not_some x at)
drop_at (y ∷ ys) zero x at = ap (λ z. z ∷ ys) (same_some y x at)
drop_at (y ∷ ys) (suc i) x at = drop_at ys i x at

-- the event at a position is read before those behind it
left_next : (mode : Writes) (events : List Event) (i : ℕ) (e : Event) (es : List Event)
    → left_to_read mode events i (e ∷ es) ≡ main_event mode events i e ∷ (option_to_list (twin_event mode i e) ++ left_to_read mode events (suc i) es)
left_next writes.Once events i (Call h n d op) es = refl
left_next writes.Once events i (Reply n r) es = refl
left_next writes.Once events i (Lost n) es = refl
left_next writes.Repeated events i (Call h n d op) es = by_test (is_repeatable op) where
  by_test : (b : Bool) → Call h (2 * i) d op ∷ twin_before b (Call h (2 * i + 1) d op) (with_twins events (suc i) es)
      ≡ Call h (2 * i) d op ∷ (option_to_list (if b then Some (Call h (2 * i + 1) d op) else None) ++ with_twins events (suc i) es)
  by_test true = refl
  by_test false = refl
left_next writes.Repeated events i (Reply n r) es = refl
left_next writes.Repeated events i (Lost n) es = refl

shown_at : (reading : Reading) (voids : List ℕ) (events : List Event) (i : ℕ) (e : Event) → slice_get events i ≡ Some e
    → slice_get (shown_events reading voids events) i ≡ Some (shown_event reading voids e)
shown_at reading voids events i e at =
    slice_get-map (without_hidden reading) (heeded_events reading voids events) i
    ∙ ap (option_map (without_hidden reading)) (slice_get-map (without_void (heeded reading.failed voids)) events i ∙ ap (option_map (without_void (heeded reading.failed voids))) at)

-- what is left begins with the event
pub next_main : (reading : Reading) (voids : List ℕ) (events : List Event) (i : ℕ) (e : Event) (done : List Event) → slice_get events i ≡ Some e → IsReadSoFar reading voids events i done
    → read_as reading voids events ≡ done ++ main_event reading.writes (shown_events reading voids events) i (shown_event reading voids e)
    ∷ (option_to_list (twin_event reading.writes i (shown_event reading voids e))
    ++ left_to_read reading.writes (shown_events reading voids events) (suc i) (drop (suc i) (shown_events reading voids events)))
next_main reading voids events i e done at so_far =
    let shown = shown_events reading voids events in
    let x = shown_event reading voids e in
    so_far ∙ ap (λ xs. done ++ xs)
    (ap (left_to_read reading.writes shown i) (drop_at shown i x (shown_at reading voids events i e at)) ∙ left_next reading.writes shown i x (drop (suc i) shown))

-- endings name their calls in what is read as in the text
ending_shown : (reading : Reading) (voids : List ℕ) (events : List Event) (mode : Writes) (n : ℕ) → ending_number mode (shown_events reading voids events) n ≡ ending_number mode events n
ending_shown reading voids events writes.Once n = refl
ending_shown reading voids events writes.Repeated n = doubled_shown reading voids events n

no_twin_reply : (mode : Writes) (i n : ℕ) (r : Answer) (b : Bool) → twin_event mode i (if b then Lost n else Reply n r) ≡ None
no_twin_reply writes.Once i n r b = refl
no_twin_reply writes.Repeated i n r true = refl
no_twin_reply writes.Repeated i n r false = refl

no_twin_lost : (mode : Writes) (i n : ℕ) → twin_event mode i (Lost n) ≡ None
no_twin_lost writes.Once i n = refl
no_twin_lost writes.Repeated i n = refl

-- a reply is read so
pub reply_read_as : (reading : Reading) (voids : List ℕ) (events : List Event) (i n : ℕ) (r : Answer) (e : Event) (own : ℕ) → own ≡ ending_number reading.writes events n
    → ((is_hidden reading r ≡ true) × (e ≡ Lost own)) ⊎ ((is_hidden reading r ≡ false) × (e ≡ Reply own r)) → IsReadAs reading voids events i (Reply n r) (record { event = e; twin = None })
reply_read_as reading voids events i n r e own number (inl hidden) = record {
  event = hidden.1 ∙ (ap (λ m. Lost m) (number ∙ sym (ending_shown reading voids events reading.writes n))
      ∙ ap (λ b. main_event reading.writes (shown_events reading voids events) i (if b then Lost n else Reply n r)) (sym hidden.0));
  twin = sym (no_twin_reply reading.writes i n r (is_hidden reading r));
}
reply_read_as reading voids events i n r e own number (inr shown) = record {
  event = shown.1 ∙ (ap (λ m. Reply m r) (number ∙ sym (ending_shown reading voids events reading.writes n))
      ∙ ap (λ b. main_event reading.writes (shown_events reading voids events) i (if b then Lost n else Reply n r)) (sym shown.0));
  twin = sym (no_twin_reply reading.writes i n r (is_hidden reading r));
}

-- so is a loss
pub lost_read_as : (reading : Reading) (voids : List ℕ) (events : List Event) (i n own : ℕ) → own ≡ ending_number reading.writes events n
    → IsReadAs reading voids events i (Lost n) (record { event = Lost own; twin = None })
lost_read_as reading voids events i n own number = record {
  event = ap (λ m. Lost m) (number ∙ sym (ending_shown reading voids events reading.writes n));
  twin = sym (no_twin_lost reading.writes i n);
}

-- ---- one event more

-- what is read begins with the event
pub read_next : (reading : Reading) (voids : List ℕ) (events : List Event) (i : ℕ) (e : Event) (done : List Event) (read : ReadEvent) → slice_get events i ≡ Some e → IsReadSoFar reading voids events i done
    → IsReadAs reading voids events i e read
    → read_as reading voids events ≡ done ++ read.event ∷ (option_to_list read.twin ++ left_to_read reading.writes (shown_events reading voids events) (suc i) (drop (suc i) (shown_events reading voids events)))
read_next reading voids events i e done read at so_far is =
    next_main reading voids events i e done at so_far
    ∙ (ap (λ x. done ++ x ∷ (option_to_list (twin_event reading.writes i (shown_event reading voids e)) ++ left_to_read reading.writes (shown_events reading voids events) (suc i) (drop (suc i) (shown_events reading voids events)))) (sym is.event)
    ∙ ap (λ t. done ++ read.event ∷ (option_to_list t ++ left_to_read reading.writes (shown_events reading voids events) (suc i) (drop (suc i) (shown_events reading voids events)))) (sym is.twin))

-- the event and its twin, if it has one, are read
pub read_on : (reading : Reading) (voids : List ℕ) (events : List Event) (i : ℕ) (e : Event) (done grown last : List Event) (read : ReadEvent) → slice_get events i ≡ Some e
    → IsReadSoFar reading voids events i done → IsReadAs reading voids events i e read → grown ≡ done ++ read.event ∷ [] → last ≡ grown ++ option_to_list read.twin
    → IsReadSoFar reading voids events (i + 1) last
read_on reading voids events i e done grown last read at so_far is same end =
    let twin = option_to_list read.twin in
    let rest = left_to_read reading.writes (shown_events reading voids events) (suc i) (drop (suc i) (shown_events reading voids events)) in
    subst (λ k. IsReadSoFar reading voids events k last) (sym (add-one i))
    (read_next reading voids events i e done read at so_far is
    ∙ (sym (append_assoc done (read.event ∷ []) (twin ++ rest))
    ∙ (ap (λ xs. xs ++ (twin ++ rest)) (sym same) ∙ (sym (append_assoc grown twin rest) ∙ ap (λ xs. xs ++ rest) (sym end)))))

-- ---- what is read is accepted

-- the event is the next of what is read
pub is_accepted : (reading : Reading) (voids : List ℕ) (events : List Event) (done : List Event) (e : Event) (after : List Event) → IsHistory events → AreLost events voids
    → room_taken reading.writes events ≤ most_events → read_as reading voids events ≡ done ++ e ∷ after → refusal_of done e ≡ None
is_accepted reading voids events done e after history void room split =
    let length_fits : length (read_as reading voids events) ≤ room_taken reading.writes events = room_read reading voids reading.writes events in
    accepted (read_as reading voids events) done e (record { history = read_history reading voids events history void; after = after; split = split }) (omega arith)

pub has_shard : (reading : Reading) (voids : List ℕ) (events : List Event) (done : List Event) (e : Event) (after : List Event) → IsHistory events → AreLost events voids
    → read_as reading voids events ≡ done ++ e ∷ after → HasShard e
has_shard reading voids events done e after history void split =
    shard_at (read_as reading voids events) (length done) e (read_history reading voids events history void) (ap (λ xs. slice_get xs (length done)) split ∙ get_middle done after e)

-- so is the twin behind it
pub twin_is_accepted : (reading : Reading) (voids : List ℕ) (events : List Event) (i : ℕ) (e : Event) (done grown : List Event) (read : ReadEvent) → IsHistory events → AreLost events voids
    → room_taken reading.writes events ≤ most_events → slice_get events i ≡ Some e → IsReadSoFar reading voids events i done → IsReadAs reading voids events i e read → grown ≡ done ++ read.event ∷ []
    → IfSome read.twin (λ twin. (refusal_of grown twin ≡ None) × HasShard twin)
twin_is_accepted reading voids events i e done grown read history void room at so_far is same = by_twin read.twin split where
  rest : List Event
  rest = left_to_read reading.writes (shown_events reading voids events) (suc i) (drop (suc i) (shown_events reading voids events))

  split : read_as reading voids events ≡ grown ++ (option_to_list read.twin ++ rest)
  split = read_next reading voids events i e done read at so_far is
      ∙ (sym (append_assoc done (read.event ∷ []) (option_to_list read.twin ++ rest)) ∙ ap (λ xs. xs ++ (option_to_list read.twin ++ rest)) (sym same))

  by_twin : (t : Option Event) → read_as reading voids events ≡ grown ++ (option_to_list t ++ rest) → IfSome t (λ twin. (refusal_of grown twin ≡ None) × HasShard twin)
  by_twin None is = tt
  by_twin (Some twin) is = (is_accepted reading voids events grown twin rest history void room is, has_shard reading voids events grown twin rest history void is)
