-- By the strict rules a text is read as by `history_text`.
use Rattle.std.proofs.Common.{ℕ, suc, ◌≡◌, ◌≤◌, ◌+◌, List, [], ◌∷◌, length, refl, sym, ap, subst, ◌∙◌, arith, false, Option, Some, None, Result, Ok, Err}
use Rattle.std.specs.Prelude.{IfErr, OnErr, OnOk, if◌then◌else◌}
use Rattle.std.proofs.lemmas.Bool.{le-leb}
use Rattle.std.proofs.lemmas.List.Sums.{sum_by-cons}
use Rattle.serde_json.specs.Data.{Data}
use Rattle.api_lines.specs.Faults.{IfTextReported, ◌>>=◌}
use Rattle.api_lines.specs.Fields.{LineValues, line_values}
use Rattle.api_lines.specs.HistoryLines.{line_parsed}
use Rattle.api_lines.specs.Lines.{lines_of}
use Rattle.api_lines.specs.Texts.{SoFar, after_line, line_given, next_line, read_line, read_lines, read_on, so_far, taken}
use Rattle.api_lines.specs.declared.history_line.LineSaid.{LineSaid}
use Rattle.api_lines.specs.declared.text_fault.ReadFault.{ReadFault}
use Rattle.api_lines.specs.declared.text_fault.ReadFault.TheVariants as fault
use Rattle.api_lines.specs.declared.text_fault.TextCause.{TextCause}
use Rattle.api_lines.specs.declared.text_fault.TextCause.TheVariants.{Full}
use Rattle.api_lines.specs.declared.text_fault.TextFault.{TextFault}
use Rattle.events.specs.declared.event.Event.{Event}
use Rattle.events.specs.declared.event.Event.TheVariants.{Call, Reply, Lost}
use Rattle.events.specs.Refusal.{most_events}
use Rattle.events.proofs.AcceptedEvents.{few_after}
use Rattle.history.specs.ByRules.{TextState, history_text_by, in_room, number_voided, read_of, room_of, room_taken, strict_rules, takes_line_by, takes_value_by, with_line}
use Rattle.history.specs.Laws.{without_voids}
use Rattle.history.specs.Reading.{adds, event_said, history_text, takes_line, takes_value}
use Rattle.history.specs.aids.Rules.{IsStrict, strict_state}
use Rattle.history.specs.declared.text_rules.Writes.TheVariants.{Once}
use Rattle.history.proofs.SaidLines.{ok_of}
use Rattle.history.proofs.TextLaws.{added}

-- what is read by the strict rules
abbrev strict_of : {E : Type 0} → Result (List Event) E → Result TextState E
strict_of (Ok events) = Ok (strict_state events)
strict_of (Err e) = Err e

-- each event takes the room of one
room-once : (K : List Event) → room_taken Once K ≡ length K
room-once [] = refl
room-once (Call h n d op ∷ K) = let rest = room-once K in omega (arith, sum_by-cons (room_of Once) (Call h n d op) K)
room-once (Reply n r ∷ K) = let rest = room-once K in omega (arith, sum_by-cons (room_of Once) (Reply n r) K)
room-once (Lost n ∷ K) = let rest = room-once K in omega (arith, sum_by-cons (room_of Once) (Lost n) K)

has_room : (G K : List Event) (e : Event) → adds G e ≡ Ok K → in_room Once K ≡ Ok K
has_room G K e is =
    let more = added G K e is in
    let few : length K ≤ most_events = subst (λ J. length J ≤ most_events) (sym more.1) (few_after G e more.0) in
    let same : room_taken Once K ≡ length K = room-once K in
    ap (λ b. if b then ok_of K else Err Full) (le-leb (room_taken Once K) most_events (omega arith))

line-strict : (G : List Event) (line : LineValues) → takes_line_by (strict_state G) line ≡ strict_of (takes_line G line)
line-strict G line = by_line (line_parsed line) where
  by_more : (l : LineSaid) (e : Event) (r : Result (List Event) TextCause) → adds G e ≡ r
      → (r >>= (λ more. in_room Once more >>= (λ events. Ok (with_line (strict_state G) events (number_voided false l))))) ≡ strict_of r
  by_more l e (Err cause) is = refl
  by_more l e (Ok K) is = ap (λ r. r >>= (λ events. ok_of (with_line (strict_state G) events (number_voided false l)))) (has_room G K e is)

  by_event : (l : LineSaid) (r : Result Event TextCause)
      → (r >>= (λ e. adds G e >>= (λ more. in_room Once more >>= (λ events. Ok (with_line (strict_state G) events (number_voided false l))))))
      ≡ strict_of (r >>= adds G)
  by_event l (Err cause) = refl
  by_event l (Ok e) = by_more l e (adds G e) refl

  by_line : (r : Result LineSaid TextCause)
      → (r >>= (λ l. event_said G line.body l
      >>= (λ e. adds G e >>= (λ more. in_room Once more >>= (λ events. Ok (with_line (strict_state G) events (number_voided false l)))))))
      ≡ strict_of (r >>= event_said G line.body >>= adds G)
  by_line (Err cause) = refl
  by_line (Ok l) = by_event l (event_said G line.body l)

read_line-strict : (n : ℕ) (G : List Event) (line : List ℕ) → read_line takes_value_by n (strict_state G) line ≡ strict_of (read_line takes_value n G line)
read_line-strict n G line = by_given (line_given n line) where
  by_given : (r : Result (Option Data) TextCause) → (r >>= taken takes_value_by (strict_state G)) ≡ strict_of (r >>= taken takes_value G)
  by_given (Err cause) = refl
  by_given (Ok None) = refl
  by_given (Ok (Some v)) = line-strict G (line_values v)

read_lines-strict : (lines : List (List ℕ)) (k : ℕ) (G : List Event) → read_lines takes_value_by k (strict_state G) lines ≡ strict_of (read_lines takes_value k G lines)
read_lines-strict [] k G = refl
read_lines-strict (line ∷ lines) k G =
    ap (λ r. read_on k r (λ t. read_lines takes_value_by (suc k) t lines)) (read_line-strict k G line)
    ∙ by_line (read_line takes_value k G line) (λ K. read_lines-strict lines (suc k) K) where
      by_line : (r : Result (List Event) TextCause)
          → ((K : List Event) → read_lines takes_value_by (suc k) (strict_state K) lines ≡ strict_of (read_lines takes_value (suc k) K lines))
          → read_on k (strict_of r) (λ t. read_lines takes_value_by (suc k) t lines) ≡ strict_of (read_on k r (λ K. read_lines takes_value (suc k) K lines))
      by_line (Ok K) later = later K
      by_line (Err cause) later = refl

pub text-strict : (bytes : List ℕ) → history_text_by strict_rules bytes ≡ without_voids (history_text bytes)
text-strict bytes = ap read_of (read_lines-strict (lines_of bytes) 1 []) ∙ by_read (history_text bytes) where
  by_read : (r : Result (List Event) TextFault) → read_of (strict_of r) ≡ without_voids r
  by_read (Ok events) = refl
  by_read (Err reported) = refl

-- ---- a reader's next line

next-strict : (old : SoFar TextState) (line : List ℕ) → IsStrict old.state
    → next_line takes_value_by old line ≡ after_line (old.lines + 1) (strict_of (read_line takes_value (old.lines + 1) old.state.read.history line))
next-strict old line strict =
    ap (λ s. after_line (old.lines + 1) (read_line takes_value_by (old.lines + 1) s line)) strict
    ∙ ap (after_line (old.lines + 1)) (read_line-strict (old.lines + 1) old.state.read.history line)

abbrev pub events_so_far : SoFar TextState → SoFar (List Event)
events_so_far r = so_far r.state.read.history r.lines

-- a line that is taken, and leaves what was read strict
strict_taken : (old new : SoFar TextState) (line : List ℕ) → IsStrict old.state → next_line takes_value_by old line ≡ Ok new
    → IsStrict new.state × (next_line takes_value (events_so_far old) line ≡ Ok (events_so_far new))
strict_taken old new line strict is =
    by_line (read_line takes_value (old.lines + 1) old.state.read.history line) refl (sym (next-strict old line strict) ∙ is) where
      by_line : (r : Result (List Event) TextCause) → read_line takes_value (old.lines + 1) old.state.read.history line ≡ r
          → after_line (old.lines + 1) (strict_of r) ≡ Ok new
          → IsStrict new.state × (next_line takes_value (events_so_far old) line ≡ Ok (events_so_far new))
      by_line (Ok K) found made =
          let same : so_far (strict_state K) (old.lines + 1) ≡ new = cc in
          subst (λ q. IsStrict q.state × (next_line takes_value (events_so_far old) line ≡ Ok (events_so_far q))) same (refl, ap (after_line (old.lines + 1)) found)
      by_line (Err cause) found made = absurd (cc)

strict_refused : (old : SoFar TextState) (line : List ℕ) (reported : TextFault) → IsStrict old.state → next_line takes_value_by old line ≡ Err reported
    → next_line takes_value (events_so_far old) line ≡ Err reported
strict_refused old line reported strict is =
    by_line (read_line takes_value (old.lines + 1) old.state.read.history line) refl (sym (next-strict old line strict) ∙ is) where
      by_line : (r : Result (List Event) TextCause) → read_line takes_value (old.lines + 1) old.state.read.history line ≡ r
          → after_line (old.lines + 1) (strict_of r) ≡ Err reported → next_line takes_value (events_so_far old) line ≡ Err reported
      by_line (Ok K) found made = absurd (cc)
      by_line (Err cause) found made = ap (after_line (old.lines + 1)) found ∙ cc

-- ---- as a reader's call says it

pub strict_after : (old new : SoFar TextState) (line : List ℕ) (r : Result (Unit {0}) ReadFault) → IsStrict old.state
    → OnOk r (next_line takes_value_by old line ≡ Ok new) → OnErr r (new ≡ old) → IsStrict new.state
strict_after old new line (Ok u) strict took kept = (strict_taken old new line strict took).0
strict_after old new line (Err fault) strict took kept = subst (λ q. IsStrict q.state) (sym kept) strict

pub strict_ok : (old new : SoFar TextState) (line : List ℕ) (r : Result (Unit {0}) ReadFault) → IsStrict old.state
    → OnOk r (next_line takes_value_by old line ≡ Ok new) → OnOk r (next_line takes_value (events_so_far old) line ≡ Ok (events_so_far new))
strict_ok old new line (Ok u) strict took = (strict_taken old new line strict took).1
strict_ok old new line (Err fault) strict took = tt

pub strict_fault : (old : SoFar TextState) (line : List ℕ) (r : Result (Unit {0}) ReadFault) → IsStrict old.state
    → IfErr r (λ fault. IfTextReported fault (λ reported. next_line takes_value_by old line ≡ Err reported))
    → IfErr r (λ fault. IfTextReported fault (λ reported. next_line takes_value (events_so_far old) line ≡ Err reported))
strict_fault old line (Ok u) strict stop = tt
strict_fault old line (Err (fault.Text reported)) strict stop = strict_refused old line reported strict stop
strict_fault old line (Err fault.NoMemory) strict stop = tt
