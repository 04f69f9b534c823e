-- What a reading makes of a history is a history, and has the room that it is given.
use Rattle.std.proofs.lemmas.List.Sums.{sum_by-cons}
use Rattle.std.proofs.Common.{ap, sym, subst, ◌∙◌, ℕ, suc, ◌≡◌, ◌≤◌, ◌+◌, ◌*◌, List, [], ◌∷◌, refl, arith, Bool, true, false, length, map}
use Rattle.std.specs.Prelude.{if◌then◌else◌}
use Rattle.doc_register.specs.declared.op.Op.{Op}
use Rattle.doc_register.specs.declared.op.Op.TheVariants.{Get}
use Rattle.doc_register.specs.declared.reply.Reply.TheVariants.{Indexed, Deleted, Found, Missing, Conflict}
use Rattle.events.specs.declared.event.Event.{Event}
use Rattle.events.specs.declared.event.Event.TheVariants.{Call, Reply, Lost}
use Rattle.events.specs.Events.{IsHistory}
use Rattle.readings.specs.declared.reading.Reading.{Reading}
use Rattle.history.specs.declared.text_rules.Writes.{Writes}
use Rattle.history.specs.declared.text_rules.Writes.TheVariants as writes
use Rattle.evidence.proofs.EvidenceLaws.{evidence_refutes}
use Rattle.readings.specs.Laws.{EvidenceRefutesReadings, ReadingsKeepHistories}
use Rattle.readings.specs.Reading.{conflicts_as}
use Rattle.history.specs.Laws.{AreLost}
use Rattle.history.specs.ByRules.{is_repeatable, room_of, room_taken}
use Rattle.readings.specs.Reading.{doubled, heeded, heeded_events, is_among, is_hidden, read_as, shown_events, twin_before, strict_reading, twinned, with_twins, without_hidden, without_void}
use Rattle.readings.proofs.DocumentLemmas.{read_documents}
use Rattle.readings.proofs.KeptLemmas.{left_as_they_are}
use Rattle.readings.proofs.ShownLemmas.{heeded_void, hidden_history, void_history}
use Rattle.readings.proofs.TwinLemmas.{twins_are_history}

pub heeded_history : (reading : Reading) (voids : List ℕ) (events : List Event) → IsHistory events → AreLost events voids → IsHistory (heeded_events reading voids events)
heeded_history reading voids events history void = void_history (heeded reading.failed voids) events history (heeded_void reading.failed voids events void)

pub shown_history : (reading : Reading) (voids : List ℕ) (events : List Event) → IsHistory events → AreLost events voids → IsHistory (shown_events reading voids events)
shown_history reading voids events history void = hidden_history reading (heeded_events reading voids events) (heeded_history reading voids events history void)

twinned_history : (mode : Writes) (events : List Event) → IsHistory events → IsHistory (twinned mode events)
twinned_history writes.Once events history = history
twinned_history writes.Repeated events history = twins_are_history events history

pub read_history : (reading : Reading) (voids : List ℕ) (events : List Event) → IsHistory events → AreLost events voids → IsHistory (read_as reading voids events)
read_history reading voids events history void = twinned_history reading.writes (shown_events reading voids events) (shown_history reading voids events history void)

-- ---- room

-- the room that the events take, event by event
abbrev rooms : Writes → List Event → ℕ
rooms mode [] = 0
rooms mode (e ∷ es) = room_of mode e + rooms mode es

rooms_taken : (mode : Writes) (events : List Event) → rooms mode events ≡ room_taken mode events
rooms_taken mode [] = refl
rooms_taken mode (e ∷ es) = ap (λ n. room_of mode e + n) (rooms_taken mode es) ∙ sym (sum_by-cons (room_of mode) e es)

-- an event takes one place, if writes are performed once
one_room : (e : Event) → room_of writes.Once e ≡ 1
one_room (Call h n d op) = refl
one_room (Reply n r) = refl
one_room (Lost n) = refl

room_once : (f g : Event → Event) (events : List Event) → length (map g (map f events)) ≤ rooms writes.Once events
room_once f g [] = omega arith
room_once f g (e ∷ es) = let rest = room_once f g es in let one : room_of writes.Once e ≡ 1 = one_room e in omega arith

-- a call with its twin, if there is one, takes no more than its room
call_room : (h n : ℕ) (d : List ℕ) (void twice : Bool) (op : Op) (twin : Event) (rest : List Event) (room : ℕ) → is_repeatable op ≡ twice → length rest ≤ room
    → suc (length (twin_before (is_repeatable (if void then Get else op)) twin rest)) ≤ (if is_repeatable op then 2 else 1) + room
call_room h n d true true op twin rest room is fits = rw is (omega arith)
call_room h n d true false op twin rest room is fits = rw is (omega arith)
call_room h n d false true op twin rest room is fits = rw is (omega arith)
call_room h n d false false op twin rest room is fits = rw is (omega arith)

room_repeated : (reading : Reading) (voids : List ℕ) (all : List Event) (i : ℕ) (events : List Event)
    → length (with_twins all i (map (without_hidden reading) (map (without_void voids) events))) ≤ rooms writes.Repeated events
room_repeated reading voids all i [] = omega arith
room_repeated reading voids all i (Call h n d op ∷ es) =
    call_room h n d (is_among voids n) (is_repeatable op) op (Call h (2 * i + 1) d (if is_among voids n then Get else op))
    (with_twins all (suc i) (map (without_hidden reading) (map (without_void voids) es))) (rooms writes.Repeated es) refl (room_repeated reading voids all (suc i) es)
room_repeated reading voids all i (Reply n r ∷ es) = by_test (is_hidden reading r) (room_repeated reading voids all (suc i) es) where
  by_test : (b : Bool) → length (with_twins all (suc i) (map (without_hidden reading) (map (without_void voids) es))) ≤ rooms writes.Repeated es
      → length (with_twins all i ((if b then Lost n else Reply n r) ∷ map (without_hidden reading) (map (without_void voids) es))) ≤ 1 + rooms writes.Repeated es
  by_test true rest = omega arith
  by_test false rest = omega arith
room_repeated reading voids all i (Lost n ∷ es) =
    let rest = room_repeated reading voids all (suc i) es in
    omega arith

pub room_read : (reading : Reading) (voids : List ℕ) (mode : Writes) (events : List Event) → length (twinned mode (shown_events reading voids events)) ≤ room_taken mode events
room_read reading voids mode events = subst (λ n. length (twinned mode (shown_events reading voids events)) ≤ n) (rooms_taken mode events) (by_mode mode) where
  by_mode : (m : Writes) → length (twinned m (shown_events reading voids events)) ≤ rooms m events
  by_mode writes.Once = room_once (without_void (heeded reading.failed voids)) (without_hidden reading) events
  by_mode writes.Repeated = room_repeated reading (heeded reading.failed voids) (shown_events reading voids events) 0 events

-- ---- the laws

pub readings_keep_histories : ReadingsKeepHistories
readings_keep_histories = record {
  history = read_history;
  heeded = heeded_history;
  documents = read_documents;
  room = λ reading voids events. room_read reading voids reading.writes events;
  left = left_as_they_are;
  strict = refl;
}

pub evidence_refutes_readings : EvidenceRefutesReadings
evidence_refutes_readings = record {
  read = λ reading voids events e history void holds explained.
      evidence_refutes (conflicts_as reading.conflicts) (read_as reading voids events) e (read_history reading voids events history void) holds explained.linearizable;
  gets = λ reading voids events e any holds explained. explained.gets any e holds;
}
