-- The two readings of a history text agree: what is read is what the text spells, and a refused text spells no history.
use Rattle.std.proofs.Common.{ℕ, zero, suc, ◌≡◌, ◌<◌, ◌≤◌, ◌+◌, List, [], ◌∷◌, ◌++◌, length, append_assoc, append-nil, refl, sym, ap, subst, ◌∙◌, arith, Bool, true, false, Option, Some, None, ◌⊎◌, inl, inr, Result, Ok, Err, take}
use Rattle.std.specs.Prelude.{All, filter, if◌then◌else◌, not}
use Rattle.std.proofs.lemmas.List.Elements.{All-cons, All-nil, All-head, All-tail}
use Rattle.serde_json.specs.Data.{Data}
use Rattle.api_lines.specs.Faults.{◌>>=◌}
use Rattle.api_lines.specs.Fields.{line_values}
use Rattle.api_lines.specs.Json.{json_value}
use Rattle.api_lines.specs.Lines.{is_blank, is_written, lines_of, longest_line, most_lines}
use Rattle.api_lines.specs.Texts.{line_given, read_line, read_lines, read_on, taken}
use Rattle.api_lines.specs.declared.text_fault.TextCause.{TextCause}
use Rattle.api_lines.specs.declared.text_fault.TextFault.{TextFault}
use Rattle.api_lines.proofs.JsonLemmas.{is_json_line, json_value_is}
use Rattle.api_lines.proofs.ReadingLemmas.{first_ok, given_blank, given_of, given_value, given_within, read_front}
use Rattle.events.specs.declared.event.Event.{Event}
use Rattle.events.specs.declared.fault.HistFault.{HistFault}
use Rattle.events.specs.Events.{IsHistory}
use Rattle.history.specs.Laws.{IsFirstRefused, TextOfOneHistory, TextsAreRead}
use Rattle.history.specs.Reading.{adds, event_parsed, history_text, takes_value, with_more}
use Rattle.events.specs.Refusal.{most_events, refusal_of}
use Rattle.history.specs.Text.{AreLinesOf, IsHistoryText, IsLineOf}
use Rattle.events.proofs.AcceptedEvents.{IsNext, accepted, few_after, history_after}
use Rattle.events.proofs.HistoryLemmas.{empty_history}
use Rattle.history.proofs.TextLemmas.{line_front}
use Rattle.history.proofs.TextReading.{event_spelled, spelled_reported, reported_shard}

abbrev events_of : List Event → Result (List Event) TextCause
events_of H = Ok H

same_events : (G H : List Event) → events_of G ≡ events_of H → G ≡ H
same_events G H is = cc

-- ---- what is read is spelled

-- one more event, which isn't refused
pub added : (G H : List Event) (e : Event) → adds G e ≡ Ok H → (refusal_of G e ≡ None) × (H ≡ G ++ e ∷ [])
added G H e is = by_refusal (refusal_of G e) refl is where
  by_refusal : (o : Option HistFault) → refusal_of G e ≡ o → with_more G e o ≡ Ok H → (refusal_of G e ≡ None) × (H ≡ G ++ e ∷ [])
  by_refusal None found is = (found, sym (same_events (G ++ e ∷ []) H is))
  by_refusal (Some fault) found is = absurd (cc)

-- the lines lead from some events to these: they spell the events between
record LeadsTo (lines : List (List ℕ)) (G H : List Event) : Type 0 where
  events : List Event
  split : H ≡ G ++ events
  spelled : AreLinesOf H (filter is_written lines) events
  history : IsHistory H
  few : length H ≤ most_events
  short : All (λ line. length line ≤ longest_line) lines

blank_more : (line : List ℕ) (lines : List (List ℕ)) (G H : List Event) → is_blank line ≡ true → length line ≤ longest_line → LeadsTo lines G H
    → LeadsTo (line ∷ lines) G H
blank_more line lines G H blank short rest = record {
  events = rest.events;
  split = rest.split;
  spelled = subst (λ b. AreLinesOf H (if not b then line ∷ filter is_written lines else filter is_written lines) rest.events) (sym blank) rest.spelled;
  history = rest.history;
  few = rest.few;
  short = All-cons (λ (l : List ℕ). length l ≤ longest_line) line lines short rest.short;
}

line_more : (line : List ℕ) (lines : List (List ℕ)) (v : Data) (e : Event) (G H : List Event) → is_blank line ≡ false → length line ≤ longest_line
    → json_value line ≡ Some v → event_parsed G (line_values v) ≡ Ok e → LeadsTo lines (G ++ e ∷ []) H → LeadsTo (line ∷ lines) G H
line_more line lines v e G H written short json reported rest =
    let split : H ≡ G ++ e ∷ rest.events = rest.split ∙ append_assoc G (e ∷ []) rest.events in
    let value = is_json_line line v json in
    let spells : IsLineOf G line e = (value.0, (v, value.1, event_spelled G v e reported)) in
    let whole : IsLineOf H line e = subst (λ K. IsLineOf K line e) (sym split) (line_front G (e ∷ rest.events) line e spells) in
    record {
      events = e ∷ rest.events;
      split = split;
      spelled = subst (λ b. AreLinesOf H (if not b then line ∷ filter is_written lines else filter is_written lines) (e ∷ rest.events)) (sym written) (whole, rest.spelled);
      history = rest.history;
      few = rest.few;
      short = All-cons (λ (l : List ℕ). length l ≤ longest_line) line lines short rest.short;
    }

leads : (lines : List (List ℕ)) (k : ℕ) (G H : List Event) → IsHistory G → length G ≤ most_events → read_lines takes_value k G lines ≡ Ok H → LeadsTo lines G H
leads [] k G H history few read =
    let same : G ≡ H = cc in
    record {
      events = [];
      split = sym same ∙ sym (append-nil G);
      spelled = tt;
      history = subst IsHistory same history;
      few = subst (λ K. length K ≤ most_events) same few;
      short = All-nil (λ (l : List ℕ). length l ≤ longest_line);
    }
leads (line ∷ lines) k G H history few read = by_line (read_line takes_value k G line) refl (λ K history few rest. leads lines (suc k) K H history few rest) read where
  by_given : (o : Option Data) (K : List Event) → line_given k line ≡ Ok o → taken takes_value G o ≡ Ok K
      → ((K : List Event) → IsHistory K → length K ≤ most_events → read_lines takes_value (suc k) K lines ≡ Ok H → LeadsTo lines K H)
      → read_lines takes_value (suc k) K lines ≡ Ok H
      → ((o ≡ None) × (is_blank line ≡ true)) ⊎ ((v : Data) × (o ≡ Some v) × (is_blank line ≡ false) × (json_value line ≡ Some v)) → LeadsTo (line ∷ lines) G H
  by_given o K given takes later rest (inl is) =
      let same : G ≡ K = same_events G K (subst (λ x. taken takes_value G x ≡ Ok K) is.0 takes) in
      blank_more line lines G H is.1 (given_within k line o given).1
      (later G history few (subst (λ L. read_lines takes_value (suc k) L lines ≡ Ok H) (sym same) rest))
  by_given o K given takes later rest (inr is) =
      let value = first_ok (event_parsed G (line_values is.0)) (adds G) K (subst (λ x. taken takes_value G x ≡ Ok K) is.1 takes) in
      let more = added G K value.0 value.2 in
      line_more line lines is.0 value.0 G H is.2 (given_within k line o given).1 is.3 value.1
      (later (G ++ value.0 ∷ []) (history_after G value.0 history more.0 (reported_shard G is.0 value.0 value.1)) (few_after G value.0 more.0)
      (subst (λ L. read_lines takes_value (suc k) L lines ≡ Ok H) more.1 rest))

  by_line : (r : Result (List Event) TextCause) → read_line takes_value k G line ≡ r
      → ((K : List Event) → IsHistory K → length K ≤ most_events → read_lines takes_value (suc k) K lines ≡ Ok H → LeadsTo lines K H)
      → read_on k r (λ K. read_lines takes_value (suc k) K lines) ≡ Ok H → LeadsTo (line ∷ lines) G H
  by_line (Ok K) is later read =
      let given = first_ok (line_given k line) (taken takes_value G) K is in
      by_given given.0 K given.1 given.2 later read (given_of k line given.0 given.1)
  by_line (Err cause) is later read = absurd (cc)

-- the lines that are read are not too many
few_lines : (lines : List (List ℕ)) (k : ℕ) (G H : List Event) → k ≤ suc most_lines → read_lines takes_value k G lines ≡ Ok H → k + length lines ≤ suc most_lines
few_lines [] k G H within read = omega arith
few_lines (line ∷ lines) k G H within read = by_line (read_line takes_value k G line) refl (λ K few rest. few_lines lines (suc k) K H few rest) read where
  by_line : (r : Result (List Event) TextCause) → read_line takes_value k G line ≡ r
      → ((K : List Event) → suc k ≤ suc most_lines → read_lines takes_value (suc k) K lines ≡ Ok H → suc k + length lines ≤ suc most_lines)
      → read_on k r (λ K. read_lines takes_value (suc k) K lines) ≡ Ok H → k + suc (length lines) ≤ suc most_lines
  by_line (Ok K) is later read =
      let given = first_ok (line_given k line) (taken takes_value G) K is in
      let here : k ≤ most_lines = (given_within k line given.0 given.1).0 in
      let rest : suc k + length lines ≤ suc most_lines = later K (omega arith) read in omega arith
  by_line (Err cause) is later read = absurd (cc)

pub read_is_text : (bytes : List ℕ) (H : List Event) → history_text bytes ≡ Ok H → IsHistoryText bytes H
read_is_text bytes H read =
    let way = leads (lines_of bytes) 1 [] H empty_history (omega arith) read in
    let few : 1 + length (lines_of bytes) ≤ suc most_lines = few_lines (lines_of bytes) 1 [] H (omega arith) read in
    record {
      history = way.history;
      events_fit = way.few;
      lines_fit = omega arith;
      bytes_fit = way.short;
      spelled = subst (λ es. AreLinesOf H (filter is_written (lines_of bytes)) es) (sym way.split) way.spelled;
    }

-- ---- what is spelled is read

read_spelled : (lines : List (List ℕ)) (k : ℕ) (done es H : List Event) → H ≡ done ++ es → IsHistory H → length H ≤ most_events
    → AreLinesOf H (filter is_written lines) es → All (λ line. length line ≤ longest_line) lines → k + length lines ≤ suc most_lines
    → read_lines takes_value k done lines ≡ Ok H
read_spelled [] k done [] H split history few spelled short within =
    subst (λ K. read_lines takes_value k K [] ≡ Ok H) (split ∙ append-nil done) refl
read_spelled [] k done (e ∷ es) H split history few spelled short within = absurd spelled
read_spelled (line ∷ lines) k done es H split history few spelled short within =
    by_blank (is_blank line) refl spelled (λ from fs cut rest. read_spelled lines (suc k) from fs H cut history few rest later (omega arith)) where
      here : length line ≤ longest_line
      here = All-head (λ (l : List ℕ). length l ≤ longest_line) line lines short

      later : All (λ l. length l ≤ longest_line) lines
      later = All-tail (λ (l : List ℕ). length l ≤ longest_line) line lines short

      Rest : Type 0
      Rest = (from fs : List Event) → H ≡ from ++ fs → AreLinesOf H (filter is_written lines) fs → read_lines takes_value (suc k) from lines ≡ Ok H

      by_event : (fs : List Event) → es ≡ fs → is_blank line ≡ false → AreLinesOf H (line ∷ filter is_written lines) fs → Rest
          → read_lines takes_value k done (line ∷ lines) ≡ Ok H
      by_event [] is written spelled on = absurd spelled
      by_event (e ∷ fs) is written (spells, rest) on =
          let next : IsNext H done e = record { history = history; after = fs; split = split ∙ ap (λ gs. done ++ gs) is } in
          let json : json_value line ≡ Some spells.1.0 = json_value_is line spells.1.0 (spells.0, spells.1.1) in
          let given : line_given k line ≡ Ok (Some spells.1.0) = given_value k line spells.1.0 (omega arith) here written json in
          let reported : event_parsed done (line_values spells.1.0) ≡ Ok e = spelled_reported H done spells.1.0 e next spells.1.2 in
          let kept : refusal_of done e ≡ None = accepted H done e next few in
          ap (λ r. read_on k (r >>= taken takes_value done) (λ K. read_lines takes_value (suc k) K lines)) given
          ∙ (ap (λ r. read_on k (r >>= adds done) (λ K. read_lines takes_value (suc k) K lines)) reported
          ∙ (ap (λ o. read_on k (with_more done e o) (λ K. read_lines takes_value (suc k) K lines)) kept
          ∙ on (done ++ e ∷ []) fs (split ∙ (ap (λ gs. done ++ gs) is ∙ sym (append_assoc done (e ∷ []) fs))) rest))

      by_blank : (b : Bool) → is_blank line ≡ b → AreLinesOf H (if not b then line ∷ filter is_written lines else filter is_written lines) es → Rest
          → read_lines takes_value k done (line ∷ lines) ≡ Ok H
      by_blank true is spelled on =
          ap (λ r. read_on k (r >>= taken takes_value done) (λ K. read_lines takes_value (suc k) K lines)) (given_blank k line (omega arith) here is)
          ∙ on done es split spelled
      by_blank false is spelled on = by_event es refl is spelled on

pub text_is_read : (bytes : List ℕ) (H : List Event) → IsHistoryText bytes H → history_text bytes ≡ Ok H
text_is_read bytes H is =
    let few : length (lines_of bytes) ≤ most_lines = is.lines_fit in
    read_spelled (lines_of bytes) 1 [] H H refl is.history is.events_fit is.spelled is.bytes_fit (omega arith)

-- ---- the laws

pub text_of_one_history : TextOfOneHistory
text_of_one_history bytes G H is other = same_read (history_text bytes) (text_is_read bytes G is) (text_is_read bytes H other) where
  same_read : (r : Result (List Event) TextFault) → r ≡ Ok G → r ≡ Ok H → G ≡ H
  same_read r a b = cc

refused_first : (bytes : List ℕ) (reported : TextFault) → history_text bytes ≡ Err reported → IsFirstRefused bytes reported
refused_first bytes reported stop = record {
  line_from_one = (let all = read_front takes_value 1 [] (lines_of bytes) reported stop 0 in from_one all);
  before = λ front n is below.
      let reads = (read_front takes_value 1 [] (lines_of bytes) reported stop n).0 (omega arith) in
      (reads.0, read_is_text front reads.0 (ap (read_lines takes_value 1 []) is ∙ reads.1));
  with_it = λ front n is above events text.
      let stops = (read_front takes_value 1 [] (lines_of bytes) reported stop n).1 (omega arith) in
      let reads : history_text front ≡ Ok events = text_is_read front events text in
      let refused : history_text front ≡ Err reported = ap (read_lines takes_value 1 []) is ∙ stops in absurd (cc);
} where
  from_one : (1 + 0 ≤ reported.line → (t : List Event) × (read_lines takes_value 1 [] (take 0 (lines_of bytes)) ≡ Ok t))
      × (reported.line < 1 + 0 → read_lines takes_value 1 [] (take 0 (lines_of bytes)) ≡ Err reported) → 1 ≤ reported.line
  from_one all = by_order (reported.line) refl where
    by_order : (n : ℕ) → reported.line ≡ n → 1 ≤ reported.line
    by_order zero is = let stops = all.1 (omega arith) in absurd (cc)
    by_order (suc n) is = omega arith

pub texts_are_read : TextsAreRead
texts_are_read = record { read = read_is_text; is_read = text_is_read; refused = refused_first }
