-- A recording of pens is by number, and there is one at most.
use Rattle.std.proofs.Common.{ℕ, ◌≡◌, ◌+◌, ◌<◌, List, length, sym, ap, subst, ◌∙◌, arith, Some, slice_get, get_or}
use Rattle.std.specs.Prelude.{Contains}
use Rattle.std.specs.List.{enumerate_from}
use Rattle.std.proofs.lemmas.List.FromFn.{get_or-enumerate_from, length-enumerate_from}
use Rattle.std.proofs.lemmas.List.Sorted.{Contains-permutation, IsPermutation-sym, length_permutation}
use Rattle.std.proofs.lemmas.Option.{slice_get-get_or, slice_get_within, get_or_from_slice_get}
use Rattle.events.specs.declared.event.Event.{Event}
use Rattle.recorder.specs.Recordings.{IsRecordingOf, entries_of}
use Rattle.recorder.specs.Laws.{IsByNumber, RecordingsAreByNumber}
use Rattle.std.proofs.lemmas.List.{same_lists}

-- what stands at a place is listed with the place
listed : (events : List Event) (n : ℕ) (e : Event) → slice_get events n ≡ Some e → Contains (enumerate_from 0 events) (n, e)
listed events n e at =
    let within : n < length events = slice_get_within events n e at in
    let here : get_or events n e ≡ e = get_or_from_slice_get events n e e at in
    let first : 0 + n ≡ n = omega arith in (
      n,
      (let size : length (enumerate_from 0 events) ≡ length events = length-enumerate_from 0 events in omega arith),
      get_or-enumerate_from 0 events n (n, e) within ∙ (ap (λ (k : ℕ). (k, get_or events n e)) first ∙ ap (λ (x : Event). (n, x)) here),
    )

-- what is listed stands at its place
stands : (events : List Event) (n : ℕ) (e : Event) → Contains (enumerate_from 0 events) (n, e) → slice_get events n ≡ Some e
stands events n e found =
    let size : length (enumerate_from 0 events) ≡ length events = length-enumerate_from 0 events in
    let within : found.0 < length events = (let inside : found.0 < length (enumerate_from 0 events) = found.1 in omega arith) in
    let same : (0 + found.0, get_or events found.0 e) ≡ (n, e) = sym (get_or-enumerate_from 0 events found.0 (n, e) within) ∙ found.2 in
    let place : 0 + found.0 ≡ n = ap (λ (x : ℕ × Event). x.0) same in
    let here : get_or events found.0 e ≡ e = ap (λ (x : ℕ × Event). x.1) same in
    let at : slice_get events found.0 ≡ Some e = slice_get-get_or events found.0 e within ∙ ap (λ x. Some x) here in
    subst (λ (k : ℕ). slice_get events k ≡ Some e) (let k : found.0 ≡ n = omega arith in k) at

pub by_number : (lists : List (List (ℕ × Event))) (events : List Event) → IsRecordingOf lists events → IsByNumber (entries_of lists) events
by_number lists events recording = record {
  placed = λ n e found. stands events n e (Contains-permutation (entries_of lists) (enumerate_from 0 events) (n, e) recording found);
  entered = λ n e at. Contains-permutation (enumerate_from 0 events) (entries_of lists) (n, e) (IsPermutation-sym (entries_of lists) (enumerate_from 0 events) recording) (listed events n e at);
  count = sym (length_permutation (entries_of lists) (enumerate_from 0 events) recording) ∙ length-enumerate_from 0 events;
}

-- lists that have the same at each place are the same
same_by_place : (xs ys : List Event) → ((n : ℕ) (e : Event) → slice_get xs n ≡ Some e → slice_get ys n ≡ Some e) → length xs ≡ length ys → xs ≡ ys
same_by_place xs ys same size =
    same_lists xs ys size (λ k d within. sym (get_or_from_slice_get ys k (get_or xs k d) d (same k (get_or xs k d) (slice_get-get_or xs k d within))))

pub recordings_are_by_number : RecordingsAreByNumber
recordings_are_by_number = record {
  by_number = by_number;
  only_one = λ lists events others recording other.
      let first = by_number lists events recording in
      let second = by_number lists others other in
      same_by_place events others (λ n e at. second.placed n e (first.entered n e at)) (sym first.count ∙ second.count);
}
