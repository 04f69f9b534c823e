-- What holds of a text that is read by any rules.
use Rattle.std.proofs.Common.{ℕ, suc, ◌≡◌, ◌<◌, ◌≤◌, List, [], ◌∷◌, ◌++◌, length, refl, sym, ap, subst, ◌∙◌, arith, Bool, true, false, Option, Some, None, ◌⊎◌, inl, inr, Result, Ok, Err, slice_get, eq-eqb}
use Rattle.std.specs.Prelude.{Contains}
use Rattle.std.proofs.lemmas.List.Elements.{Contains-append_cases, Contains-push_cases}
use Rattle.serde_json.specs.Data.{Data}
use Rattle.api_lines.specs.Faults.{◌>>=◌}
use Rattle.api_lines.specs.Fields.{BodyValues, LineValues, line_values}
use Rattle.api_lines.specs.HistoryLines.{line_parsed}
use Rattle.api_lines.specs.Lines.{lines_of}
use Rattle.api_lines.specs.Texts.{line_given, read_line, read_lines, read_on, taken}
use Rattle.api_lines.specs.declared.history_line.LineSaid.{LineSaid}
use Rattle.api_lines.specs.declared.history_line.LineSaid.TheVariants as said
use Rattle.api_lines.specs.declared.text_fault.TextCause.{TextCause}
use Rattle.api_lines.specs.declared.text_fault.TextFault.{TextFault}
use Rattle.api_lines.proofs.ReadingLemmas.{first_ok}
use Rattle.events.specs.declared.event.Event.{Event}
use Rattle.events.specs.declared.event.Event.TheVariants.{Reply, Lost}
use Rattle.events.specs.Events.{IsHistory, is_ending}
use Rattle.events.specs.Refusal.{most_events}
use Rattle.events.proofs.EventLemmas.{element_passes}
use Rattle.version_pair.proofs.ListLemmas.{get_front, get_middle}
use Rattle.history.specs.ByRules.{TextState, history_text_by, in_room, number_voided, read_of, room_taken, start_by, takes_line_by, takes_value_by, void_heeded, with_line}
use Rattle.history.specs.Laws.{AreLost, IsLostCall, TextsAreReadByRules}
use Rattle.history.specs.Reading.{adds, event_said, history_text, takes_line, takes_value}
use Rattle.history.specs.Text.{IsHistoryText}
use Rattle.history.specs.declared.text_read.TextRead.{TextRead}
use Rattle.history.specs.declared.text_rules.TextRules.{TextRules}
use Rattle.history.proofs.RuledLines.{in_room_ok}
use Rattle.history.proofs.SaidLines.{same_ok}
use Rattle.history.proofs.StrictTexts.{text-strict}
use Rattle.history.proofs.TextLaws.{added, read_is_text}

-- the events have the loss of the call numbered n
HasLoss : List Event → ℕ → Type 0
HasLoss H n = (i : ℕ) × (slice_get H i ≡ Some (Lost n))

-- what was read by these rules has the losses of its numbers, and room
record IsSound (rules : TextRules) (s : TextState) : Type 0 where
  ruled : s.rules ≡ rules
  lost : (n : ℕ) → Contains s.read.voids n → HasLoss s.read.history n
  room : room_taken rules.writes s.read.history ≤ most_events

-- ---- one line

loss_front : (H : List Event) (e : Event) (n : ℕ) → HasLoss H n → HasLoss (H ++ e ∷ []) n
unfolding HasLoss
loss_front H e n (i, at) = (i, get_front H (e ∷ []) i (Lost n) at)

no_number : (n : ℕ) → ¬ Contains [] n
no_number n is = let below : is.0 < 0 = is.1 in absurd (omega arith)

one_number : (m n : ℕ) → Contains (m ∷ []) n → m ≡ n
one_number m n is = by_place (Contains-push_cases [] m n is) where
  by_place : Contains [] n ⊎ (m ≡ n) → m ≡ n
  by_place (inl none) = absurd (no_number n none)
  by_place (inr same) = same

-- the number of which a line says that nothing was performed is that of the loss that it adds
loss_added : (H : List Event) (body : BodyValues) (void : Bool) (l : LineSaid) (e : Event) (n : ℕ) → event_said H body l ≡ Ok e
    → Contains (number_voided void l) n → HasLoss (H ++ e ∷ []) n
unfolding HasLoss
loss_added H body true (said.Lost m) e n is among =
    let event : Lost m ≡ e = same_ok (Lost m) e is in
    (length H, get_middle H [] e ∙ ap (λ x. Some x) (sym event ∙ ap (λ k. Lost k) (one_number m n among)))
loss_added H body true (said.Call m h d op) e n is among = absurd (no_number n among)
loss_added H body true (said.Reply m status) e n is among = absurd (no_number n among)
loss_added H body false l e n is among = absurd (no_number n among)

step : (rules : TextRules) (s t : TextState) (line : LineValues) → IsSound rules s → takes_line_by s line ≡ Ok t
    → IsSound rules t × (takes_line s.read.history line ≡ Ok t.read.history)
step rules s t line sound is =
    let G = s.read.history in
    let void = first_ok (void_heeded s.rules.failed line) _ t is in
    let l = first_ok (line_parsed line) _ t void.2 in
    let e = first_ok (event_said G line.body l.0) _ t l.2 in
    let more = first_ok (adds G e.0) _ t e.2 in
    let room = first_ok (in_room s.rules.writes more.0) _ t more.2 in
    let fits = in_room_ok s.rules.writes more.0 room.0 room.1 in
    let events : room.0 ≡ G ++ e.0 ∷ [] = sym fits.0 ∙ (added G more.0 e.0 more.1).1 in
    let made : with_line s room.0 (number_voided void.0 l.0) ≡ t = same_ok (with_line s room.0 (number_voided void.0 l.0)) t room.2 in
    let read : takes_line G line ≡ Ok room.0 =
    ap (λ r. r >>= event_said G line.body >>= adds G) l.1 ∙ (ap (λ r. r >>= adds G) e.1 ∙ (more.1 ∙ ap (λ K. ok_events K) fits.0)) in
    subst (λ q. IsSound rules q × (takes_line G line ≡ Ok q.read.history)) made (
      record {
        ruled = sound.ruled;
        lost = λ n among.
            subst (λ K. HasLoss K n) (sym events)
            (by_place G e.0 n (loss_added G line.body void.0 l.0 e.0 n e.1) (sound.lost n) (Contains-append_cases s.read.voids (number_voided void.0 l.0) n among));
        room = subst (λ r. room_taken r.writes room.0 ≤ most_events) sound.ruled fits.1;
      },
      read,
    ) where
      ok_events : List Event → Result (List Event) TextCause
      ok_events K = Ok K

      by_place : (G : List Event) (e : Event) (n : ℕ) {A B : Type 0} → (B → HasLoss (G ++ e ∷ []) n) → (A → HasLoss G n) → A ⊎ B → HasLoss (G ++ e ∷ []) n
      by_place G e n new old (inl is) = loss_front G e n (old is)
      by_place G e n new old (inr is) = new is

-- ---- all lines

after_line : (rules : TextRules) (k : ℕ) (s t : TextState) (line : List ℕ) → IsSound rules s → read_line takes_value_by k s line ≡ Ok t
    → IsSound rules t × (read_line takes_value k s.read.history line ≡ Ok t.read.history)
after_line rules k s t line sound is = by_given (line_given k line) is where
  by_given : (r : Result (Option Data) TextCause) → (r >>= taken takes_value_by s) ≡ Ok t
      → IsSound rules t × ((r >>= taken takes_value s.read.history) ≡ Ok t.read.history)
  by_given (Ok (Some v)) is = step rules s t (line_values v) sound is
  by_given (Ok None) is = let same : s ≡ t = same_ok s t is in subst (λ q. IsSound rules q × (ok_events s.read.history ≡ Ok q.read.history)) same (sound, refl) where
    ok_events : List Event → Result (List Event) TextCause
    ok_events K = Ok K
  by_given (Err cause) is = absurd (cc)

after_lines : (rules : TextRules) (lines : List (List ℕ)) (k : ℕ) (s t : TextState) → IsSound rules s → read_lines takes_value_by k s lines ≡ Ok t
    → IsSound rules t × (read_lines takes_value k s.read.history lines ≡ Ok t.read.history)
after_lines rules [] k s t sound is =
    let same : s ≡ t = cc in subst (λ q. IsSound rules q × (read_lines takes_value k s.read.history [] ≡ Ok q.read.history)) same (sound, refl)
after_lines rules (line ∷ lines) k s t sound is =
    by_line (read_line takes_value_by k s line) refl (λ q good. after_lines rules lines (suc k) q t good) is where
      by_line : (r : Result TextState TextCause) → read_line takes_value_by k s line ≡ r
          → ((q : TextState) → IsSound rules q → read_lines takes_value_by (suc k) q lines ≡ Ok t
          → IsSound rules t × (read_lines takes_value (suc k) q.read.history lines ≡ Ok t.read.history))
          → read_on k r (λ q. read_lines takes_value_by (suc k) q lines) ≡ Ok t
          → IsSound rules t × (read_lines takes_value k s.read.history (line ∷ lines) ≡ Ok t.read.history)
      by_line (Ok q) found later is =
          let one = after_line rules k s q line sound found in
          let all = later q one.0 is in
          (all.0, ap (λ r. read_on k r (λ K. read_lines takes_value (suc k) K lines)) one.1 ∙ all.1)
      by_line (Err cause) found later is = absurd (cc)

-- ---- the whole text

-- what was read by these rules, and by none
record IsReadBy (rules : TextRules) (bytes : List ℕ) (read : TextRead) : Type 0 where
  lost : (n : ℕ) → Contains read.voids n → HasLoss read.history n
  room : room_taken rules.writes read.history ≤ most_events
  text : history_text bytes ≡ Ok read.history

is_read_by : (rules : TextRules) (bytes : List ℕ) (read : TextRead) → history_text_by rules bytes ≡ Ok read → IsReadBy rules bytes read
is_read_by rules bytes read is = by_lines (read_lines takes_value_by 1 (start_by rules) (lines_of bytes)) refl is where
  none : IsSound rules (start_by rules)
  none = record { ruled = refl; lost = λ n among. absurd (no_number n among); room = omega arith }

  by_lines : (r : Result TextState TextFault) → read_lines takes_value_by 1 (start_by rules) (lines_of bytes) ≡ r → read_of r ≡ Ok read → IsReadBy rules bytes read
  by_lines (Ok t) found is =
      let all = after_lines rules (lines_of bytes) 1 (start_by rules) t none found in
      let same : t.read ≡ read = cc in
      subst (IsReadBy rules bytes) same (record { lost = all.0.lost; room = all.0.room; text = all.1 })
  by_lines (Err reported) found is = absurd (cc)

-- the call of a loss is lost
lost_call : (H : List Event) (n : ℕ) → IsHistory H → HasLoss H n → IsLostCall H n
unfolding HasLoss
lost_call H n history (i, at) =
    let ends = element_passes (is_ending n) H i (Lost n) at (eq-eqb n n refl) in
    let call = history.ended_after_call n i ends in
    record {
      pending = record {
        called = (call.0, call.2);
        unanswered = λ j r reply.
            let same : i ≡ j = history.ended_once n i j ends (element_passes (is_ending n) H j (Reply n r) reply (eq-eqb n n refl)) in
            let both : slice_get H j ≡ Some (Lost n) = subst (λ k. slice_get H k ≡ Some (Lost n)) same at in cc;
      };
      lost = (i, at);
    }

pub are_lost : (rules : TextRules) (bytes : List ℕ) (read : TextRead) → history_text_by rules bytes ≡ Ok read → AreLost read.history read.voids
are_lost rules bytes read is =
    let all = is_read_by rules bytes read is in
    λ n among. lost_call read.history n (read_is_text bytes read.history all.text).history (all.lost n among)

pub is_text_by : (rules : TextRules) (bytes : List ℕ) (read : TextRead) → history_text_by rules bytes ≡ Ok read → IsHistoryText bytes read.history
is_text_by rules bytes read is = read_is_text bytes read.history (is_read_by rules bytes read is).text

pub has_room_by : (rules : TextRules) (bytes : List ℕ) (read : TextRead) → history_text_by rules bytes ≡ Ok read → room_taken rules.writes read.history ≤ most_events
has_room_by rules bytes read is = (is_read_by rules bytes read is).room

pub texts_are_read_by_rules : TextsAreReadByRules
texts_are_read_by_rules = record { strict = text-strict; read = is_text_by; voids = are_lost; room = has_room_by }
