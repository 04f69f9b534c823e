-- Merging strands: the entries that were met are, in some order, the events with their places.
use Rattle.std.proofs.Common.{ℕ, zero, suc, ◌≡◌, ◌+◌, List, [], ◌∷◌, ◌++◌, length, refl, sym, ap, subst, ◌∙◌, arith, add-zero, Some, slice_get, All, take, length-take, ◌<◌, get_or}
use Rattle.std.specs.Prelude.{slice_set}
use Rattle.std.specs.List.{enumerate_from}
use Rattle.std.specs.List.Sorted.{IsPermutation}
use Rattle.std.proofs.lemmas.List.{append-nil}
use Rattle.std.proofs.lemmas.List.Elements.{All-head, All-set, All-tail}
use Rattle.std.proofs.lemmas.Option.{slice_get_within, get_or_from_slice_get}
use Rattle.std.proofs.lemmas.List.Sorted.{IsPermutation-append_right, IsPermutation-middle, IsPermutation-pop_more, IsPermutation-refl, IsPermutation-trans}
use Rattle.events.specs.declared.event.Event.{Event}
use Rattle.events.specs.Events.{HasShard}
use Rattle.recorder.specs.Pens.{IsRising}
use Rattle.recorder.specs.Recordings.{IsRecordingOf, entries_of}
use Rattle.version_pair.proofs.ListLemmas.{none_is_not_some, same_some}
use borrow.Author.Count.{below_more}
use Rattle.events.proofs.PlaceLemmas.{take_next}
use Rattle.recorder.proofs.ListLemmas.{all_at}

-- one strand's first entry is taken out of all
pub entries_taken : (lists : List (List (ℕ × Event))) (i : ℕ) (x : ℕ × Event) (rest : List (ℕ × Event)) → slice_get lists i ≡ Some (x ∷ rest)
    → IsPermutation (entries_of lists) (x ∷ entries_of (slice_set lists i rest))
entries_taken [] i x rest at = absurd (none_is_not_some (x ∷ rest) at)
entries_taken (l ∷ ls) zero x rest at =
    let first : l ≡ x ∷ rest = same_some l (x ∷ rest) at in
    let P : List (ℕ × Event) → Type 0 = λ m. IsPermutation (m ++ entries_of ls) (x ∷ (rest ++ entries_of ls)) in
    subst P (sym first) (IsPermutation-refl (x ∷ (rest ++ entries_of ls)))
entries_taken (l ∷ ls) (suc i) x rest at =
    IsPermutation-trans (l ++ entries_of ls) (l ++ (x ∷ entries_of (slice_set ls i rest))) (x ∷ (l ++ entries_of (slice_set ls i rest)))
    (IsPermutation-append_right l (entries_of ls) (x ∷ entries_of (slice_set ls i rest)) (entries_taken ls i x rest at))
    (IsPermutation-middle l x (entries_of (slice_set ls i rest)))

rising_tail : (x : ℕ × Event) (xs : List (ℕ × Event)) → IsRising (x ∷ xs) → IsRising xs
rising_tail x xs rising = λ i j d less within. rising (suc i) (suc j) d (omega arith) (omega arith)

-- they rise still where one strand's first entry is taken
pub rising_after_taken : (lists : List (List (ℕ × Event))) (i : ℕ) (x : ℕ × Event) (rest : List (ℕ × Event)) → slice_get lists i ≡ Some (x ∷ rest)
    → All IsRising lists → All IsRising (slice_set lists i rest)
rising_after_taken lists i x rest at rising =
    All-set IsRising lists i rest (rising_tail x rest (all_at IsRising lists i (x ∷ rest) rising at)) rising

-- strands of which each is empty have no entry
pub entries_none : (lists : List (List (ℕ × Event))) → All (λ list. list ≡ []) lists → entries_of lists ≡ []
entries_none [] none = refl
entries_none (l ∷ ls) none =
    ap (λ m. m ++ entries_of ls) (All-head (λ list. list ≡ []) l ls none)
    ∙ entries_none ls (All-tail (λ list. list ≡ []) l ls none)

enumerate_more : (n : ℕ) (events : List Event) (e : Event) → enumerate_from n (events ++ e ∷ []) ≡ enumerate_from n events ++ (n + length events, e) ∷ []
enumerate_more n [] e = ap (λ k. (k, e) ∷ []) (sym (add-zero n))
enumerate_more n (x ∷ xs) e =
    ap (λ rest. (n, x) ∷ rest)
    (enumerate_more (n + 1) xs e ∙ ap (λ k. enumerate_from (n + 1) xs ++ (k, e) ∷ []) (omega arith))

-- what was met grows by one event, and what is left shrinks by its entry
pub met_one_more : (all left rest : List (ℕ × Event)) (events : List Event) (i : ℕ) (e : Event) → slice_get events i ≡ Some e
    → IsPermutation all (enumerate_from 0 (take i events) ++ left) → IsPermutation left ((i, e) ∷ rest)
    → IsPermutation all (enumerate_from 0 (take (i + 1) events) ++ rest)
met_one_more all left rest events i e at met taken =
    let within : i < length events = slice_get_within events i e at in
    let place : 0 + length (take i events) ≡ i = simp length-take (omega arith) in
    let grown : enumerate_from 0 (take (i + 1) events) ≡ enumerate_from 0 (take i events) ++ (i, e) ∷ [] =
    ap (enumerate_from 0) (take_next events i e at) ∙ (enumerate_more 0 (take i events) e ∙ ap (λ k. enumerate_from 0 (take i events) ++ (k, e) ∷ []) place) in
    let P : List (ℕ × Event) → Type 0 = λ m. IsPermutation all (m ++ rest) in
    subst P (sym grown) (IsPermutation-pop_more all (enumerate_from 0 (take i events)) left rest (i, e) met taken)

-- where nothing is left, all was met
pub all_met : (lists : List (List (ℕ × Event))) (left : List (ℕ × Event)) (events : List Event)
    → IsPermutation (entries_of lists) (enumerate_from 0 events ++ left) → left ≡ [] → IsRecordingOf lists events
all_met lists left events met none =
    let end : enumerate_from 0 events ++ left ≡ enumerate_from 0 events = ap (λ m. enumerate_from 0 events ++ m) none ∙ append-nil (enumerate_from 0 events) in
    subst (IsPermutation (entries_of lists)) end met

-- each event up to a place names a shard, and so does the one that stands there
pub shards_more : (events : List Event) (i : ℕ) (e : Event) → slice_get events i ≡ Some e → HasShard e
    → ((k : ℕ) (d : Event) → k < i → HasShard (get_or events k d)) → (k : ℕ) (d : Event) → k < i + 1 → HasShard (get_or events k d)
shards_more events i e at here before k d below =
    below_more (λ j. HasShard (get_or events j d)) i (λ j less. before j d less) (subst HasShard (sym (get_or_from_slice_get events i e d at)) here) k below

-- what was merged grows by one event, and what is left shrinks by its entry
pub merged_one_more : (all left rest : List (ℕ × Event)) (events : List Event) (i : ℕ) (e : Event) → length events ≡ i
    → IsPermutation all (enumerate_from 0 events ++ left) → IsPermutation left ((i, e) ∷ rest)
    → IsPermutation all (enumerate_from 0 (events ++ e ∷ []) ++ rest)
merged_one_more all left rest events i e count met taken =
    let place : 0 + length events ≡ i = omega arith in
    let P : List (ℕ × Event) → Type 0 = λ m. IsPermutation all (m ++ rest) in
    subst P (sym (enumerate_more 0 events e ∙ ap (λ k. enumerate_from 0 events ++ (k, e) ∷ []) place))
    (IsPermutation-pop_more all (enumerate_from 0 events) left rest (i, e) met taken)
