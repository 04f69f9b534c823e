-- Events that are the recording of lists are found to be it.
use Rattle.std.proofs.Common.{ℕ, ◌≡◌, ◌+◌, List, [], ◌∷◌, ◌++◌, length, refl, sym, ap, ◌∙◌, arith, Some, slice_get}
use Rattle.std.specs.Prelude.{Contains}
use Rattle.std.specs.List.{enumerate_from, range_with_len, sum_by}
use Rattle.std.specs.List.Sorted.{IsPermutation}
use Rattle.std.proofs.lemmas.List.{nil_from_length}
use Rattle.std.proofs.lemmas.List.Elements.{Contains-append_right}
use Rattle.std.proofs.lemmas.List.Sorted.{Contains-permutation, IsPermutation-map, IsPermutation-sym, sum_by-IsPermutation}
use Rattle.events.specs.declared.event.Event.{Event}
use Rattle.recorder.specs.Recordings.{IsRecordingOf, entries_of}
use Rattle.recorder.specs.Clock.{numbers_below}
use Rattle.recorder.specs.aids.Notes.{numbers_of}
use Rattle.recorder.proofs.CountLemmas.{sum_ones}
use Rattle.recorder.proofs.DenseLemmas.{AreLeft, sum_of_list}
use Rattle.recorder.proofs.RecordingLaws.{by_number}
use Rattle.version_pair.proofs.ListLemmas.{same_some}

-- the numbers of listed events are those from the first on
pub numbered_from : (n : ℕ) (events : List Event) → numbers_of (enumerate_from n events) ≡ range_with_len n (length events)
numbered_from n [] = refl
numbered_from n (e ∷ es) = ap (λ ns. n ∷ ns) (numbered_from (n + 1) es)

-- of lists with this recording the numbers below that of the events are left at first
pub left_of_recording : (lists : List (List (ℕ × Event))) (events : List Event) → IsRecordingOf lists events → AreLeft lists 0 (length events)
left_of_recording lists events recording f =
    let moved : IsPermutation (numbers_of (entries_of lists)) (numbers_of (enumerate_from 0 events)) =
    IsPermutation-map (λ (entry : ℕ × Event). entry.0) (entries_of lists) (enumerate_from 0 events) recording in
    let same = sum_by-IsPermutation f (numbers_of (entries_of lists)) (numbers_of (enumerate_from 0 events)) moved in
    let all : sum_by f (numbers_of (enumerate_from 0 events)) ≡ sum_by f (numbers_below (length events)) = ap (sum_by f) (numbered_from 0 events) in
    let nothing : sum_by f (numbers_below 0) ≡ 0 = refl in omega arith

-- an entry that is left when those before were met has the event at its number
pub own_event : (lists : List (List (ℕ × Event))) (met left rest : List (ℕ × Event)) (events : List Event) (i : ℕ) (own event : Event) → IsRecordingOf lists events
    → IsPermutation (entries_of lists) (met ++ left) → IsPermutation left ((i, own) ∷ rest) → slice_get events i ≡ Some event → own ≡ event
own_event lists met left rest events i own event recording all taken at =
    let here : Contains ((i, own) ∷ rest) (i, own) = (0, omega arith, refl) in
    let of_left : Contains left (i, own) = Contains-permutation ((i, own) ∷ rest) left (i, own) (IsPermutation-sym left ((i, own) ∷ rest) taken) here in
    let of_all : Contains (entries_of lists) (i, own) = Contains-permutation (met ++ left) (entries_of lists) (i, own) (IsPermutation-sym (entries_of lists) (met ++ left) all)
    (Contains-append_right met left (i, own) of_left) in
    same_some own event (sym ((by_number lists events recording).placed i own of_all) ∙ at)

-- where the lists have no entry, none of them has one
pub none_in_each : (lists : List (List (ℕ × Event))) (p : ℕ) (list : List (ℕ × Event)) → slice_get lists p ≡ Some list → entries_of lists ≡ [] → list ≡ []
none_in_each lists p list at none =
    let less = sum_of_list (λ _. 1) lists p list at in
    let mine = sum_ones list in
    let all = sum_ones (entries_of lists) in
    let count : length (entries_of lists) ≡ 0 = ap length none in
    nil_from_length list (let none_of_it : length list ≡ 0 = omega arith in none_of_it)
