-- The text's own calls are those of what is judged that have such numbers.
use Rattle.std.proofs.Common.{ℕ, zero, suc, ◌≡◌, ◌+◌, ◌*◌, ◌%◌, List, [], ◌∷◌, length, map, refl, ap, ◌∙◌, arith, Bool, true, false, eq-eqb}
use Rattle.std.specs.Prelude.{filter, if◌then◌else◌, nat_eq}
use Rattle.doc_register.specs.declared.op.Op.{Op}
use Rattle.events.specs.declared.event.Event.{Event}
use Rattle.events.specs.declared.event.Event.TheVariants.{Call, Reply, Lost}
use Rattle.history.specs.ByRules.{is_repeatable}
use Rattle.history.specs.declared.text_read.TextRead.{TextRead}
use Rattle.history.specs.declared.text_rules.Writes.{Writes}
use Rattle.history.specs.declared.text_rules.Writes.TheVariants as writes
use Rattle.readings.specs.Reading.{heeded, heeded_events, is_hidden, shown_events, twin_before, twinned, with_twins, without_hidden, without_void}
use Rattle.readings.specs.declared.reading.Reading.{Reading}
use Rattle.compose.specs.Counts.{calls_counted, calls_of, is_counted, is_counted_call}
use Rattle.compose.specs.declared.counts.CallNumbers.{CallNumbers}
use Rattle.compose.specs.declared.counts.CallNumbers.TheVariants.{All, Even}
use Rattle.report.specs.Verdict.{judged, own_numbers}

-- ---- what is shown has the calls of the text

calls_heeded : (voids : List ℕ) (events : List Event) → calls_of (map (without_void voids) events) ≡ calls_of events
calls_heeded voids [] = refl
calls_heeded voids (Call h n d op ∷ es) = ap suc (calls_heeded voids es)
calls_heeded voids (Reply n r ∷ es) = calls_heeded voids es
calls_heeded voids (Lost n ∷ es) = calls_heeded voids es

calls_shown : (reading : Reading) (events : List Event) → calls_of (map (without_hidden reading) events) ≡ calls_of events
calls_shown reading [] = refl
calls_shown reading (Call h n d op ∷ es) = ap suc (calls_shown reading es)
calls_shown reading (Reply n r ∷ es) = by_test (is_hidden reading r) (calls_shown reading es) where
  by_test : (b : Bool) → calls_of (map (without_hidden reading) es) ≡ calls_of es
      → calls_of ((if b then Lost n else Reply n r) ∷ map (without_hidden reading) es) ≡ calls_of es
  by_test true rest = rest
  by_test false rest = rest
calls_shown reading (Lost n ∷ es) = calls_shown reading es

-- ---- counted calls

all_counted : (events : List Event) → calls_counted All events ≡ calls_of events
all_counted [] = refl
all_counted (Call h n d op ∷ es) = ap suc (all_counted es)
all_counted (Reply n r ∷ es) = all_counted es
all_counted (Lost n ∷ es) = all_counted es

-- the number of a call is even, and that of its second attempt is not
even : (i : ℕ) → is_counted Even (2 * i) ≡ true
even i = eq-eqb ((2 * i) % 2) 0 (omega arith)

odd : (i : ℕ) → is_counted Even (2 * i + 1) ≡ false
odd i = let one : (2 * i + 1) % 2 ≡ 1 = omega arith in ap (λ n. nat_eq n 0) one

counted_if : (h n : ℕ) (d : List ℕ) (op : Op) (b : Bool) (es : List Event) → is_counted Even n ≡ b
    → calls_counted Even (Call h n d op ∷ es) ≡ (if b then suc (calls_counted Even es) else calls_counted Even es)
counted_if h n d op true es is = ap (λ c. length (if c then Call h n d op ∷ filter (is_counted_call Even) es else filter (is_counted_call Even) es)) is
counted_if h n d op false es is = ap (λ c. length (if c then Call h n d op ∷ filter (is_counted_call Even) es else filter (is_counted_call Even) es)) is

even_counted : (all : List Event) (i : ℕ) (events : List Event) → calls_counted Even (with_twins all i events) ≡ calls_of events
even_counted all i [] = refl
even_counted all i (Call h n d op ∷ es) = by_test (is_repeatable op) (even_counted all (suc i) es) where
  by_test : (b : Bool) → calls_counted Even (with_twins all (suc i) es) ≡ calls_of es
      → calls_counted Even (Call h (2 * i) d op ∷ twin_before b (Call h (2 * i + 1) d op) (with_twins all (suc i) es)) ≡ suc (calls_of es)
  by_test true rest =
      counted_if h (2 * i) d op true (Call h (2 * i + 1) d op ∷ with_twins all (suc i) es) (even i)
      ∙ ap suc (counted_if h (2 * i + 1) d op false (with_twins all (suc i) es) (odd i) ∙ rest)
  by_test false rest = counted_if h (2 * i) d op true (with_twins all (suc i) es) (even i) ∙ ap suc rest
even_counted all i (Reply n r ∷ es) = even_counted all (suc i) es
even_counted all i (Lost n ∷ es) = even_counted all (suc i) es

own_twinned : (w : Writes) (events : List Event) → calls_counted (own_numbers w) (twinned w events) ≡ calls_of events
own_twinned writes.Once events = all_counted events
own_twinned writes.Repeated events = even_counted events 0 events

-- the text's own calls are as many as the text has
pub own_calls : (reading : Reading) (read : TextRead) → calls_counted (own_numbers reading.writes) (judged reading read) ≡ calls_of read.history
own_calls reading read =
    own_twinned reading.writes (shown_events reading read.voids read.history)
    ∙ (calls_shown reading (heeded_events reading read.voids read.history) ∙ calls_heeded (heeded reading.failed read.voids) read.history)
