-- A line that is taken by rules.
use Rattle.std.proofs.Common.{ℕ, ◌≡◌, ◌<◌, ◌≤◌, ◌+◌, List, [], ◌∷◌, ◌++◌, append-nil, refl, sym, ap, subst, ◌∙◌, arith, Bool, true, false, Option, Some, None, Result, Ok, Err}
use Rattle.std.specs.Prelude.{if◌then◌else◌, nat_le}
use Rattle.std.proofs.lemmas.Bool.{le-leb, leb-true, lt-leb}
use Rattle.std.proofs.lemmas.List.Sums.{sum_by-append}
use Rattle.serde_json.specs.Data.{Data}
use Rattle.api_lines.specs.Faults.{IfReported, ◌>>=◌}
use Rattle.api_lines.specs.Fields.{BodyValues, LineValues, line_values}
use Rattle.api_lines.specs.HistoryLines.{line_parsed}
use Rattle.api_lines.specs.Texts.{line_given, read_line, taken}
use Rattle.api_lines.specs.declared.history_line.LineSaid.{LineSaid}
use Rattle.api_lines.specs.declared.history_line.LineSaid.TheVariants as said
use Rattle.api_lines.specs.declared.reply_table.Heard.{Heard}
use Rattle.api_lines.specs.declared.reply_table.Heard.TheVariants as heard
use Rattle.api_lines.specs.declared.text_fault.LineFault.{LineFault}
use Rattle.api_lines.specs.declared.text_fault.TextCause.{TextCause}
use Rattle.api_lines.specs.declared.text_fault.TextCause.TheVariants.{Full}
use Rattle.api_lines.proofs.ReadingLemmas.{first_ok}
use Rattle.events.specs.declared.event.Event.{Event}
use Rattle.events.specs.declared.event.Event.TheVariants.{Call, Reply, Lost}
use Rattle.events.specs.declared.fault.HistFault.{HistFault}
use Rattle.events.specs.declared.fault.HistFault.TheVariants as event
use Rattle.events.specs.Events.{is_call, is_ending, place_of}
use Rattle.events.specs.Refusal.{first_event, most_events, refusal_of}
use Rattle.history.specs.ByRules.{TextState, in_room, number_voided, room_of, room_taken, takes_line_by, takes_value_by, void_heeded, with_line}
use Rattle.history.specs.Faults.{line_fault}
use Rattle.history.specs.Reading.{adds, ending_parsed, event_heard, event_said, heard_of_call, with_more}
use Rattle.history.specs.aids.Rules.{IsRoomTaken, cause_without_room, room_said, takes_in_room, voided, with_number}
use Rattle.history.specs.aids.Taking.{takes_said}
use Rattle.history.specs.declared.text_rules.Writes.{Writes}
use Rattle.history.proofs.SaidLines.{ok_of, same_ok}
use Rattle.history.proofs.TextLaws.{added}
use Rattle.history.proofs.TextReading.{IfReported-map}

-- ---- room

-- the event of what a line says takes the room that is said
event_room : (w : Writes) (H : List Event) (body : BodyValues) (s : LineSaid) (e : Event) → event_said H body s ≡ Ok e → room_of w e ≡ room_said w s
event_room w H body (said.Call n h d op) e is = ap (room_of w) (sym (same_ok (Call h n d op) e is))
event_room w H body (said.Lost n) e is = ap (room_of w) (sym (same_ok (Lost n) e is))
event_room w H body (said.Reply n status) e is = by_call (first_event (is_call n) H) (place_of (is_ending n) H) is where
  by_heard : (h : Heard) → event_heard n h ≡ Ok e → room_of w e ≡ 1
  by_heard (heard.Reply r) is = ap (room_of w) (sym (same_ok (Reply n r) e is))
  by_heard heard.Unknown is = ap (room_of w) (sym (same_ok (Lost n) e is))
  by_heard heard.Stranger is = absurd (cc)

  by_call : (c : Option Event) (p : Option ℕ) → ending_parsed n status body c p ≡ Ok e → room_of w e ≡ 1
  by_call None p is = absurd (cc)
  by_call (Some x) (Some i) is = absurd (cc)
  by_call (Some x) None is = by_heard (heard_of_call x status body) is

room_taken-one : (w : Writes) (e : Event) → room_taken w (e ∷ []) ≡ room_of w e
room_taken-one w e = omega arith

-- the room after one more event
said_room : (w : Writes) (H K : List Event) (body : BodyValues) (s : LineSaid) → takes_said H body s ≡ Ok K → room_taken w K ≡ room_taken w H + room_said w s
said_room w H K body s is =
    let e = first_ok (event_said H body s) (adds H) K is in
    let more : K ≡ H ++ e.0 ∷ [] = (added H K e.0 e.2).1 in
    ap (room_taken w) more
    ∙ (sum_by-append (room_of w) H (e.0 ∷ [])
    ∙ ap (λ k. room_taken w H + k) (room_taken-one w e.0 ∙ event_room w H body s e.0 e.1))

fits : (w : Writes) (K : List Event) → room_taken w K ≤ most_events → in_room w K ≡ Ok K
fits w K within = ap (λ b. if b then ok_of K else Err Full) (le-leb (room_taken w K) most_events within)

pub in_room_ok : (w : Writes) (K J : List Event) → in_room w K ≡ Ok J → (K ≡ J) × (room_taken w J ≤ most_events)
in_room_ok w K J is = by_test (nat_le (room_taken w K) most_events) refl is where
  by_test : (b : Bool) → nat_le (room_taken w K) most_events ≡ b → (if b then ok_of K else Err Full) ≡ Ok J → (K ≡ J) × (room_taken w J ≤ most_events)
  by_test true found is = let same = same_ok K J is in (same, subst (λ k. room_taken w k ≤ most_events) same (leb-true (room_taken w K) most_events found))
  by_test false found is = absurd (cc)

-- there is room for what a line says
pub taken_in_room : (w : Writes) (H K : List Event) (body : BodyValues) (s : LineSaid) (room after : ℕ) → IsRoomTaken w H room → after ≡ room + room_said w s
    → after ≤ most_events → takes_said H body s ≡ Ok K → (takes_in_room w H body s ≡ Ok K) × IsRoomTaken w K after
taken_in_room w H K body s room after is more within read =
    let grown : room_taken w K ≡ room_taken w H + room_said w s = said_room w H K body s read in
    let old : room ≡ room_taken w H = is.taken in
    let taken : after ≡ room_taken w K = omega arith in
    (ap (λ r. r >>= in_room w) read ∙ fits w K (omega arith), record { taken = taken; within = within })

-- there is none
without_room : (w : Writes) (H : List Event) (body : BodyValues) (s : LineSaid) (room : ℕ) → IsRoomTaken w H room → most_events < room + room_said w s
    → takes_in_room w H body s ≡ Err (cause_without_room (takes_said H body s))
without_room w H body s room is above = by_taken (takes_said H body s) refl where
  by_taken : (r : Result (List Event) TextCause) → takes_said H body s ≡ r → (r >>= in_room w) ≡ Err (cause_without_room r)
  by_taken (Err cause) read = refl
  by_taken (Ok K) read =
      let grown : room_taken w K ≡ room_taken w H + room_said w s = said_room w H K body s read in
      let old : room ≡ room_taken w H = is.taken in
      let past : most_events < room_taken w K = omega arith in
      ap (λ b. if b then ok_of K else Err Full) (lt-leb (room_taken w K) most_events past)

pub refused_without_room : (w : Writes) (H : List Event) (body : BodyValues) (s : LineSaid) (room : ℕ) (fault : LineFault) → IsRoomTaken w H room
    → most_events < room + room_said w s → IfReported fault (λ cause. cause ≡ cause_without_room (takes_said H body s))
    → IfReported fault (λ cause. takes_in_room w H body s ≡ Err cause)
refused_without_room w H body s room fault is above reported =
    IfReported-map (λ cause. cause ≡ cause_without_room (takes_said H body s)) (λ cause. takes_in_room w H body s ≡ Err cause) fault
    (λ cause same. without_room w H body s room is above ∙ ap (λ c. refused c) (sym same)) reported where
      refused : TextCause → Result (List Event) TextCause
      refused cause = Err cause

pub refused_with_room : (w : Writes) (H : List Event) (body : BodyValues) (s : LineSaid) (fault : LineFault)
    → IfReported fault (λ cause. takes_said H body s ≡ Err cause) → IfReported fault (λ cause. takes_in_room w H body s ≡ Err cause)
refused_with_room w H body s fault reported =
    IfReported-map (λ cause. takes_said H body s ≡ Err cause) (λ cause. takes_in_room w H body s ≡ Err cause) fault
    (λ cause is. ap (λ r. r >>= in_room w) is) reported

-- ---- the cause of a line without room

cause_of_event : (H : List Event) (body : BodyValues) (s : LineSaid) (e : Event) (o : Option HistFault) → event_said H body s ≡ Ok e → o ≡ refusal_of H e
    → cause_without_room (takes_said H body s) ≡ cause_without_room (with_more H e o)
cause_of_event H body s e o is reason =
    ap (λ r. cause_without_room (r >>= adds H)) is ∙ ap (λ p. cause_without_room (with_more H e p)) (sym reason)

pub event_refused : (H : List Event) (body : BodyValues) (s : LineSaid) (e : Event) (f : HistFault) → event_said H body s ≡ Ok e → Some f ≡ refusal_of H e
    → IfReported (line_fault f) (λ cause. cause ≡ cause_without_room (takes_said H body s))
event_refused H body s e event.SecondCall is reason = sym (cause_of_event H body s e (Some event.SecondCall) is reason)
event_refused H body s e event.NoCall is reason = sym (cause_of_event H body s e (Some event.NoCall) is reason)
event_refused H body s e event.Ended is reason = sym (cause_of_event H body s e (Some event.Ended) is reason)
event_refused H body s e event.Kind is reason = sym (cause_of_event H body s e (Some event.Kind) is reason)
event_refused H body s e event.Full is reason = sym (cause_of_event H body s e (Some event.Full) is reason)
event_refused H body s e event.NoMemory is reason = tt
event_refused H body s e event.ShardMoved is reason = sym (cause_of_event H body s e (Some event.ShardMoved) is reason)

pub event_without_room : (H : List Event) (body : BodyValues) (s : LineSaid) (e : Event) → event_said H body s ≡ Ok e → None ≡ refusal_of H e
    → Full ≡ cause_without_room (takes_said H body s)
event_without_room H body s e is reason = sym (cause_of_event H body s e None is reason)

pub no_event : (H : List Event) (body : BodyValues) (s : LineSaid) (fault : LineFault) → IfReported fault (λ cause. event_said H body s ≡ Err cause)
    → IfReported fault (λ cause. cause ≡ cause_without_room (takes_said H body s))
no_event H body s fault reported =
    IfReported-map (λ cause. event_said H body s ≡ Err cause) (λ cause. cause ≡ cause_without_room (takes_said H body s)) fault
    (λ cause is. sym (ap (λ r. cause_without_room (r >>= adds H)) is)) reported

-- ---- the fields of a line

-- the state after what a line says, with the number of which it says that nothing was performed
abbrev after_said : TextState → Bool → LineSaid → Result (List Event) TextCause → Result TextState TextCause
after_said s void l r = r >>= (λ events. Ok (with_line s events (number_voided void l)))

line_by : (s : TextState) (line : LineValues) (void : Bool) (l : LineSaid) → void_heeded s.rules.failed line ≡ Ok void → line_parsed line ≡ Ok l
    → takes_line_by s line ≡ after_said s void l (takes_in_room s.rules.writes s.read.history line.body l)
line_by s line void l heeds parsed =
    ap (λ r. r >>= (λ b. line_parsed line >>= (λ m. rest b m))) heeds
    ∙ (ap (λ r. r >>= (λ m. rest void m)) parsed ∙ by_event (event_said s.read.history line.body l)) where
      rest : Bool → LineSaid → Result TextState TextCause
      rest b m =
          event_said s.read.history line.body m
          >>= (λ e. adds s.read.history e >>= (λ more. in_room s.rules.writes more >>= (λ events. Ok (with_line s events (number_voided b m)))))

      by_more : (r : Result (List Event) TextCause)
          → (r >>= (λ more. in_room s.rules.writes more >>= (λ events. Ok (with_line s events (number_voided void l)))))
          ≡ after_said s void l (r >>= in_room s.rules.writes)
      by_more (Ok more) = refl
      by_more (Err cause) = refl

      by_event : (r : Result Event TextCause)
          → (r >>= (λ e. adds s.read.history e >>= (λ more. in_room s.rules.writes more >>= (λ events. Ok (with_line s events (number_voided void l))))))
          ≡ after_said s void l (r >>= adds s.read.history >>= in_room s.rules.writes)
      by_event (Ok e) = by_more (adds s.read.history e)
      by_event (Err cause) = refl

-- a line that is taken
line_taken_by : (s : TextState) (line : LineValues) (void : Bool) (l : LineSaid) (K : List Event) → Ok void ≡ void_heeded s.rules.failed line
    → Ok l ≡ line_parsed line → takes_in_room s.rules.writes s.read.history line.body l ≡ Ok K
    → takes_line_by s line ≡ Ok (with_line s K (number_voided void l))
line_taken_by s line void l K heeds parsed taken = line_by s line void l (sym heeds) (sym parsed) ∙ ap (after_said s void l) taken

pub line_refused_by : (s : TextState) (line : LineValues) (void : Bool) (l : LineSaid) (fault : LineFault) → Ok void ≡ void_heeded s.rules.failed line
    → Ok l ≡ line_parsed line → IfReported fault (λ cause. takes_in_room s.rules.writes s.read.history line.body l ≡ Err cause)
    → IfReported fault (λ cause. takes_line_by s line ≡ Err cause)
line_refused_by s line void l fault heeds parsed reported =
    IfReported-map (λ cause. takes_in_room s.rules.writes s.read.history line.body l ≡ Err cause) (λ cause. takes_line_by s line ≡ Err cause) fault
    (λ cause is. line_by s line void l (sym heeds) (sym parsed) ∙ ap (after_said s void l) is) reported

-- the numbers after what a line says
pub numbers_after : (ns : List ℕ) (void : Bool) (l : LineSaid) → with_number (voided void l) ns ≡ ns ++ number_voided void l
numbers_after ns true (said.Lost m) = refl
numbers_after ns true (said.Call m h d op) = sym (append-nil ns)
numbers_after ns true (said.Reply m status) = sym (append-nil ns)
numbers_after ns false l = sym (append-nil ns)

-- the state after a line that is taken
pub state_after : (s : TextState) (line : LineValues) (void : Bool) (l : LineSaid) (o : Option ℕ) (K : List Event) (ns : List ℕ)
    → Ok void ≡ void_heeded s.rules.failed line → Ok l ≡ line_parsed line → o ≡ voided void l
    → takes_in_room s.rules.writes s.read.history line.body l ≡ Ok K → ns ≡ with_number o s.read.voids
    → takes_line_by s line ≡ Ok (record { rules = s.rules; read = record { history = K; voids = ns } })
state_after s line void l o K ns heeds parsed is taken made =
    line_taken_by s line void l K heeds parsed taken
    ∙ ap (λ ms. state ms) (sym (made ∙ (ap (λ p. with_number p s.read.voids) is ∙ numbers_after s.read.voids void l))) where
      state : List ℕ → Result TextState TextCause
      state ms = Ok (record { rules = s.rules; read = record { history = K; voids = ms } })

-- the line of these fields
pub line_taken : (n : ℕ) (s : TextState) (line : List ℕ) (v : Data) (fields : LineValues) → line_given n line ≡ Ok (Some v) → fields ≡ line_values v
    → read_line takes_value_by n s line ≡ takes_line_by s fields
line_taken n s line v fields given seen = ap (λ r. r >>= taken takes_value_by s) given ∙ ap (takes_line_by s) (sym seen)
