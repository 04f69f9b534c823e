-- What the maker's seat and the strands are after one more pen was joined.
use Rattle.std.proofs.Common.{ℕ, ◌≡◌, ◌+◌, List, [], ◌∷◌, ◌++◌, length, refl, sym, ap, ◌∙◌, length-append, Bool, true, false}
use Rattle.std.specs.Prelude.{◌||◌, nat_lt}
use Rattle.std.specs.List.{list_any}
use Rattle.std.proofs.lemmas.List.{append-nil, map-append, map_push}
use Rattle.std.proofs.lemmas.List.Elements.{filter-append}
use Rattle.std.proofs.lemmas.List.Folds.{list_any-append}
use Rattle.atomic_table.specs.Table.{Me}
use Rattle.events.specs.declared.event.Event.{Event}
use Rattle.events.specs.Refusal.{most_events}
use Rattle.recorder.specs.declared.clock_view.ClockView.{ClockView}
use Rattle.recorder.specs.declared.clock_view.ClockView.TheVariants.{Drew, Maker}
use Rattle.recorder.specs.Clock.{ClockPenState, is_past, pen_states, seat_with, with_joined}
use Rattle.recorder.specs.Closing.{has_full}
use Rattle.recorder.specs.Recordings.{entries_of, lists_of}
use Rattle.recorder.specs.aids.Drawing.{numbers_of_events}
use Rattle.recorder.specs.aids.Notes.{numbers_of}
use Rattle.version_pair.proofs.TruthLemmas.{or-true}
use Rattle.std.proofs.lemmas.List.Concat.{flat_map-append}
use Rattle.std.proofs.Math.Bool.{or-false}
use Rattle.recorder.specs.Pens.{PenState}

pub lists_push : (pens : List ClockPenState) (pen : ClockPenState) → lists_of (pen_states (pens ++ pen ∷ [])) ≡ lists_of (pen_states pens) ++ pen.pen.list ∷ []
lists_push [] pen = refl
lists_push (p ∷ ps) pen = ap (λ rest. p.pen.list ∷ rest) (lists_push ps pen)

entries_push : (lists : List (List (ℕ × Event))) (list : List (ℕ × Event)) → entries_of (lists ++ list ∷ []) ≡ entries_of lists ++ list
entries_push lists list = flat_map-append (λ l. l) lists (list ∷ []) ∙ ap (λ rest. entries_of lists ++ rest) (append-nil list)

-- the numbers of events that the maker has gained are those of the entries
pub gained_more : (lists : List (List (ℕ × Event))) (list : List (ℕ × Event)) (gained drawn : List ℕ)
    → numbers_of_events gained ≡ numbers_of (entries_of lists) → numbers_of_events drawn ≡ numbers_of list
    → numbers_of_events (gained ++ drawn) ≡ numbers_of (entries_of (lists ++ list ∷ []))
gained_more lists list gained drawn had has =
    filter-append (λ n. nat_lt n most_events) gained drawn
    ∙ (ap (λ ns. ns ++ numbers_of_events drawn) had
    ∙ (ap (λ ns. numbers_of (entries_of lists) ++ ns) has
    ∙ (sym (map-append (λ (entry : ℕ × Event). entry.0) (entries_of lists) list) ∙ ap numbers_of (sym (entries_push lists list)))))

full_push : (pens : List ClockPenState) (pen : ClockPenState) → has_full (pen_states (pens ++ pen ∷ [])) ≡ (has_full (pen_states pens) || pen.pen.is_full)
full_push pens pen =
    ap has_full (map_push (λ (p : ClockPenState). p.pen) pens pen)
    ∙ (list_any-append (λ (p : PenState). p.is_full) (pen_states pens) (pen.pen ∷ []) ∙ ap (λ b. has_full (pen_states pens) || b) (or-false pen.pen.is_full))

-- where a pen was answered that the recording is full, a number that is no event's was gained
pub past_gained : (pens : List ClockPenState) (pen : ClockPenState) (gained drawn : List ℕ)
    → (has_full (pen_states pens) ≡ true → list_any is_past gained ≡ true) → (pen.pen.is_full ≡ true → list_any is_past drawn ≡ true)
    → has_full (pen_states (pens ++ pen ∷ [])) ≡ true → list_any is_past (gained ++ drawn) ≡ true
past_gained pens pen gained drawn had has full =
    list_any-append is_past gained drawn
    ∙ by_test (has_full (pen_states pens)) pen.pen.is_full (list_any is_past gained) (list_any is_past drawn) had has (sym (full_push pens pen) ∙ full) where
      by_test : (a b c d : Bool) → (a ≡ true → c ≡ true) → (b ≡ true → d ≡ true) → (a || b) ≡ true → (c || d) ≡ true
      by_test true b c d first second some = ap (λ e. e || d) (first refl)
      by_test false b c d first second some = ap (λ e. c || e) (second some) ∙ or-true c

-- the maker's seat after it joined one more
pub joined_one_more : (k : ℕ) (pens : List ClockPenState) (pen : ClockPenState) (gained drawn : List ℕ) (maker seat after : Me (Unit {0}) ClockView)
    → maker ≡ seat_with (Maker k (length pens) gained) → seat ≡ seat_with (Drew drawn) → after ≡ seat_with (with_joined maker.0 seat.0)
    → after ≡ seat_with (Maker k (length (pens ++ pen ∷ [])) (gained ++ drawn))
joined_one_more k pens pen gained drawn maker seat after was has view =
    view
    ∙ (ap (λ (m : Me (Unit {0}) ClockView). seat_with (with_joined m.0 seat.0)) was
    ∙ (ap (λ (s : Me (Unit {0}) ClockView). seat_with (with_joined (Maker k (length pens) gained) s.0)) has
    ∙ ap (λ n. seat_with (Maker k n (gained ++ drawn))) (let count : length pens + 1 ≡ length (pens ++ pen ∷ []) = sym (length-append pens (pen ∷ [])) in count)))
