-- No event of a recording of pens' lists is refused by the history of those before it.
use Rattle.std.proofs.Common.{ℕ, zero, suc, ◌≡◌, ◌≢◌, ◌+◌, ◌<◌, ◌≤◌, List, [], ◌∷◌, length, refl, sym, ap, subst, ◌∙◌, arith, Option, Some, None, slice_get, All, Bool, true, false, get_or, take, eq-eqb, le_of_lt, inl, inr}
use Rattle.std.specs.Prelude.{◌==◌, Contains, if◌then◌else◌, is_some, not, option_and_then, option_map}
use Rattle.std.specs.List.{enumerate_from, sum_by}
use Rattle.std.specs.Option.{option_map_or}
use Rattle.std.proofs.lemmas.Bool.{eqb-true, false_from_ne_true, cases_order, lt-ltb}
use Rattle.std.proofs.lemmas.List.Elements.{All-take, Contains-append_left, Contains-append_right}
use Rattle.std.proofs.lemmas.List.Sums.{sum_by-append}
use Rattle.std.proofs.lemmas.List.Sorted.{sum_by-IsPermutation}
use Rattle.std.proofs.lemmas.Option.{slice_get-get_or, slice_get_within, get_or_from_slice_get, slice_get-map}
use Rattle.doc_register.specs.declared.op.Op.{Op}
use Rattle.doc_register.specs.declared.reply.Reply.{Reply as Answer}
use Rattle.doc_register.specs.Register.{fits}
use Rattle.events.specs.declared.event.Event.{Event}
use Rattle.events.specs.declared.event.Event.TheVariants.{Call, Reply, Lost}
use Rattle.events.specs.declared.fault.HistFault.TheVariants as refused
use Rattle.events.specs.Events.{is_call, is_call_of, is_ending, place_of}
use Rattle.events.specs.Refusal.{is_moved, most_events, op_named, op_of, refusal_of, shard_named, when_ended, when_full}
use Rattle.recorder.specs.declared.fault.RecFault.{RecFault}
use Rattle.recorder.specs.declared.fault.RecFault.TheVariants as recording
use Rattle.recorder.specs.Pens as pens
use Rattle.recorder.specs.Pens.{IsRising}
use Rattle.recorder.specs.Recordings.{IsRecordingOf, entries_of}
use Rattle.recorder.specs.Laws.{IsByNumber}
use Rattle.recorder.specs.aids.Merging.{AreAccepted}
use Rattle.recorder.specs.aids.Notes.{IsEntryAt, IsPenList}
use Rattle.recorder.proofs.CountLemmas.{once_at_most, one_for, one_for_itself, sum_map, sum_of_one}
use Rattle.recorder.proofs.DenseLemmas.{StandsIn, stands_in, sum_of_list}
use Rattle.recorder.proofs.NoteLemmas.{called_entry}
use Rattle.recorder.proofs.RecordingLaws.{recordings_are_by_number}
use Rattle.recorder.proofs.FoundLemmas.{numbered_from}
use Rattle.std.proofs.lemmas.List.{length-take-le}
use Rattle.std.proofs.lemmas.List.Folds.{list_any_at}
use Rattle.version_pair.proofs.ListLemmas.{get_take, none_is_not_some, same_some, take_get}
use Rattle.recorder.proofs.ListLemmas.{all_at}

-- ---- the first place at which a test passes

first_passing : (test : Event → Bool) (es : List Event) (k : ℕ) (e : Event) → slice_get es k ≡ Some e → test e ≡ true
    → ((q : ℕ) (x : Event) → q < k → slice_get es q ≡ Some x → test x ≡ false) → place_of test es ≡ Some k
first_passing test [] k e at passes before = absurd (none_is_not_some e at)
first_passing test (x ∷ xs) zero e at passes before =
    ap (λ b. if b then Some 0 else option_map suc (place_of test xs)) (ap test (same_some x e at) ∙ passes)
first_passing test (x ∷ xs) (suc k) e at passes before =
    ap (λ b. if b then Some 0 else option_map suc (place_of test xs)) (before 0 x (omega arith) refl)
    ∙ ap (option_map suc) (first_passing test xs k e at passes (λ q y less there. before (suc q) y (omega arith) there))

none_passing : (test : Event → Bool) (es : List Event) → ((q : ℕ) (x : Event) → slice_get es q ≡ Some x → test x ≡ false) → place_of test es ≡ None
none_passing test [] fails = refl
none_passing test (x ∷ xs) fails =
    ap (λ b. if b then Some 0 else option_map suc (place_of test xs)) (fails 0 x refl)
    ∙ ap (option_map suc) (none_passing test xs (λ q y there. fails (suc q) y there))

-- what stands at the place
record PassesThere (test : Event → Bool) (es : List Event) (k : ℕ) : Type 0 where
  pub event : Event
  pub there : slice_get es k ≡ Some event
  pub passes : test event ≡ true

passing : (test : Event → Bool) (es : List Event) (k : ℕ) → place_of test es ≡ Some k → PassesThere test es k
passing test [] k at = absurd (none_is_not_some k at)
passing test (x ∷ xs) k at = by_test (test x) refl k at (passing test xs) where
  by_rest : (o : Option ℕ) → place_of test xs ≡ o → (k : ℕ) → option_map suc o ≡ Some k → ((j : ℕ) → place_of test xs ≡ Some j → PassesThere test xs j) → PassesThere test (x ∷ xs) k
  by_rest None is k at later = absurd (none_is_not_some k at)
  by_rest (Some j) is k at later =
      let found = later j is in
      subst (PassesThere test (x ∷ xs)) (same_some (suc j) k at) (record { event = found.event; there = found.there; passes = found.passes })

  by_test : (b : Bool) → test x ≡ b → (k : ℕ) → (if b then Some 0 else option_map suc (place_of test xs)) ≡ Some k
      → ((j : ℕ) → place_of test xs ≡ Some j → PassesThere test xs j) → PassesThere test (x ∷ xs) k
  by_test true is k at later = subst (PassesThere test (x ∷ xs)) (same_some 0 k at) (record { event = x; there = refl; passes = is })
  by_test false is k at later = by_rest (place_of test xs) refl k at later

-- ---- what a pen's list says of an ending that it does not refuse

-- its call is in the list, has no ending yet, and, for a reply, has an operation that it fits
record Open (list : List (ℕ × Event)) (m : ℕ) : Type 0 where
  pub op : Op
  pub called : op_of (pens.events_in list) m ≡ Some op
  pub unended : pens.is_ended list m ≡ false

abbrev refused_by : Bool → Option RecFault → Option RecFault
refused_by b later = if b then Some recording.Ended else later

open_reply : (list : List (ℕ × Event)) (m : ℕ) (r : Answer) → pens.refusal_of list (Reply m r) ≡ None → (o : Open list m) × (fits o.op r ≡ true)
open_reply list m r accepted = by_call (op_of (pens.events_in list) m) refl accepted where
  by_fit : (op : Op) (b f : Bool) → pens.is_ended list m ≡ b → fits op r ≡ f → op_of (pens.events_in list) m ≡ Some op
      → refused_by b (if f then None else Some recording.Kind) ≡ None → (o : Open list m) × (fits o.op r ≡ true)
  by_fit op true f ended fit called none = let impossible : Some recording.Ended ≡ None = none in absurd (cc)
  by_fit op false true ended fit called none = (record { op = op; called = called; unended = ended }, fit)
  by_fit op false false ended fit called none = let impossible : Some recording.Kind ≡ None = none in absurd (cc)

  by_call : (o : Option Op) → op_of (pens.events_in list) m ≡ o
      → option_map_or (λ op. refused_by (pens.is_ended list m) (if fits op r then None else Some recording.Kind)) o (Some recording.NotMine) ≡ None → (o : Open list m) × (fits o.op r ≡ true)
  by_call None called none = let impossible : Some recording.NotMine ≡ None = none in absurd (cc)
  by_call (Some op) called none = by_fit op (pens.is_ended list m) (fits op r) refl refl called none

open_lost : (list : List (ℕ × Event)) (m : ℕ) → pens.refusal_of list (Lost m) ≡ None → Open list m
open_lost list m accepted = by_call (op_of (pens.events_in list) m) refl accepted where
  by_end : (op : Op) (b : Bool) → pens.is_ended list m ≡ b → op_of (pens.events_in list) m ≡ Some op → refused_by b None ≡ None → Open list m
  by_end op true ended called none = let impossible : Some recording.Ended ≡ None = none in absurd (cc)
  by_end op false ended called none = record { op = op; called = called; unended = ended }

  by_call : (o : Option Op) → op_of (pens.events_in list) m ≡ o → option_map_or (λ op. refused_by (pens.is_ended list m) None) o (Some recording.NotMine) ≡ None → Open list m
  by_call None called none = let impossible : Some recording.NotMine ≡ None = none in absurd (cc)
  by_call (Some op) called none = by_end op (pens.is_ended list m) refl called none

open_ending : (list : List (ℕ × Event)) (m : ℕ) (e : Event) → is_ending m e ≡ true → pens.refusal_of list e ≡ None → Open list m
open_ending list m (Call h n d op) ends accepted = let impossible : false ≡ true = ends in absurd (cc)
open_ending list m (Reply n r) ends accepted = subst (Open list) (eqb-true n m ends) (open_reply list n r accepted).0
open_ending list m (Lost n) ends accepted = subst (Open list) (eqb-true n m ends) (open_lost list n accepted)

-- an ending that is in the list
ended_by : (list : List (ℕ × Event)) (m q : ℕ) (x : ℕ × Event) → slice_get list q ≡ Some x → is_ending m x.1 ≡ true → pens.is_ended list m ≡ true
ended_by list m q x at ends =
    let there : slice_get (pens.events_in list) q ≡ Some x.1 = slice_get-map (λ (entry : ℕ × Event). entry.1) list q ∙ ap (option_map (λ (entry : ℕ × Event). entry.1)) at in
    list_any_at (is_ending m) (pens.events_in list) q x.1 (slice_get_within (pens.events_in list) q x.1 there)
    (ap (is_ending m) (get_or_from_slice_get (pens.events_in list) q x.1 x.1 there) ∙ ends)

-- in a rising list an entry with a lower number stands before one with a higher
stands_before : (list : List (ℕ × Event)) (j k : ℕ) (x y : ℕ × Event) → IsRising list → slice_get list j ≡ Some x → slice_get list k ≡ Some y → x.0 < y.0 → j < k
stands_before list j k x y rising at_j at_k less = elim (cases_order j k) as (λ _. j < k) [
  | inl same ↦ (let number : x.0 ≡ y.0 = ap (λ (z : ℕ × Event). z.0) (same_some x y (sym at_j ∙ (ap (slice_get list) same ∙ at_k))) in absurd (omega arith))
  | inr (inl before) ↦ before
  | inr (inr behind) ↦ (
      let rise : (get_or list k x).0 < (get_or list j x).0 = rising k j x behind (slice_get_within list j x at_j) in
      let low : (get_or list k x).0 ≡ y.0 = ap (λ (z : ℕ × Event). z.0) (get_or_from_slice_get list k y x at_k) in
      let high : (get_or list j x).0 ≡ x.0 = ap (λ (z : ℕ × Event). z.0) (get_or_from_slice_get list j x x at_j) in
      absurd (omega arith)
      )
]

-- ---- two lists

two_lists : (f : ℕ × Event → ℕ) (lists : List (List (ℕ × Event))) (p q : ℕ) (one other : List (ℕ × Event)) → p ≢ q → slice_get lists p ≡ Some one → slice_get lists q ≡ Some other
    → sum_by f one + sum_by f other ≤ sum_by f (entries_of lists)
two_lists f [] p q one other apart at_p at_q = absurd (none_is_not_some one at_p)
two_lists f (l ∷ ls) zero zero one other apart at_p at_q = absurd (apart refl)
two_lists f (l ∷ ls) zero (suc q) one other apart at_p at_q =
    let value : sum_by f l ≡ sum_by f one = ap (sum_by f) (same_some l one at_p) in
    let rest = sum_of_list f ls q other at_q in
    let whole = sum_by-append f l (entries_of ls) in omega arith
two_lists f (l ∷ ls) (suc p) zero one other apart at_p at_q =
    let value : sum_by f l ≡ sum_by f other = ap (sum_by f) (same_some l other at_q) in
    let rest = sum_of_list f ls p one at_p in
    let whole = sum_by-append f l (entries_of ls) in omega arith
two_lists f (l ∷ ls) (suc p) (suc q) one other apart at_p at_q =
    let rest = two_lists f ls p q one other (λ same. apart (ap suc same)) at_p at_q in
    let whole = sum_by-append f l (entries_of ls) in omega arith

contained : (lists : List (List (ℕ × Event))) (p : ℕ) (list : List (ℕ × Event)) (q : ℕ) (x : ℕ × Event) → slice_get lists p ≡ Some list → slice_get list q ≡ Some x → Contains (entries_of lists) x
contained [] p list q x which here = absurd (none_is_not_some list which)
contained (l ∷ ls) zero list q x which here =
    let at : slice_get l q ≡ Some x = ap (λ m. slice_get m q) (same_some l list which) ∙ here in
    Contains-append_left l (entries_of ls) x (q, slice_get_within l q x at, get_or_from_slice_get l q x x at)
contained (l ∷ ls) (suc p) list q x which here = Contains-append_right l (entries_of ls) x (contained ls p list q x which here)

-- ---- the history of those before

not_full : (es : List Event) → length es < most_events → when_full es ≡ None
not_full es less = ap (λ b. if b then None else Some refused.Full) (lt-ltb (length es) most_events less)

unmoved : (es : List Event) (d : List ℕ) (h : ℕ) → h ≡ 0 → ((k : ℕ) (x : Event) → slice_get es k ≡ Some x → is_call_of d x ≡ true → shard_named x ≡ Some 0) → is_moved es d h ≡ false
unmoved es d h zeroth named = by_place (place_of (is_call_of d) es) refl where
  zero_is : not (0 == h) ≡ false
  zero_is = ap (λ k. not (0 == k)) zeroth

  reported : Option ℕ → Bool
  reported o = option_map_or (λ s. not (s == h)) (option_and_then shard_named (option_and_then (slice_get es) o)) false

  by_place : (o : Option ℕ) → place_of (is_call_of d) es ≡ o → is_moved es d h ≡ false
  by_place None at = ap (λ o. option_map_or (λ s. not (s == h)) (option_and_then shard_named (option_and_then (slice_get es) o)) false) at
  by_place (Some k) at =
      let found = passing (is_call_of d) es k at in
      ap (λ o. option_map_or (λ s. not (s == h)) (option_and_then shard_named (option_and_then (slice_get es) o)) false) at
      ∙ (ap (λ o. option_map_or (λ s. not (s == h)) (option_and_then shard_named o) false) found.there
      ∙ (ap (λ o. option_map_or (λ s. not (s == h)) o false) (named k found.event found.there found.passes) ∙ zero_is))

called_there : (es : List Event) (m : ℕ) (d : List ℕ) (op : Op) → slice_get es m ≡ Some (Call 0 m d op) → place_of (is_call m) es ≡ Some m → op_of es m ≡ Some op
called_there es m d op at first =
    ap (λ o. option_and_then op_named (option_and_then (slice_get es) o)) first ∙ ap (option_and_then op_named) at

call_number : (i m : ℕ) (e : Event) → IsEntryAt i e → is_call m e ≡ true → m ≡ i
call_number i m (Call h n d op) formed calls = let number : n ≡ m = eqb-true n m calls in let own : n ≡ i = formed.0 in omega arith
call_number i m (Reply n r) formed calls = let impossible : false ≡ true = calls in absurd (cc)
call_number i m (Lost n) formed calls = let impossible : false ≡ true = calls in absurd (cc)

shard_zero : (i : ℕ) (d : List ℕ) (e : Event) → IsEntryAt i e → is_call_of d e ≡ true → shard_named e ≡ Some 0
shard_zero i d (Call h n c op) formed calls = ap (λ (k : ℕ). Some k) formed.1
shard_zero i d (Reply n r) formed calls = let impossible : false ≡ true = calls in absurd (cc)
shard_zero i d (Lost n) formed calls = let impossible : false ≡ true = calls in absurd (cc)

module _ (lists : List (List (ℕ × Event))) (events : List Event) (recording_is : IsRecordingOf lists events) (kept : All IsPenList lists) where
  numbered_so : IsByNumber (entries_of lists) events
  numbered_so = recordings_are_by_number.by_number lists events recording_is

  own : (i : ℕ) (e : Event) → slice_get events i ≡ Some e → StandsIn lists (i, e)
  own i e at =
      let there = numbered_so.entered i e at in
      stands_in lists there.0 (i, e) (slice_get-get_or (entries_of lists) there.0 (i, e) there.1 ∙ ap (λ (x : ℕ × Event). Some x) there.2)

  kept_at : (p : ℕ) (list : List (ℕ × Event)) → slice_get lists p ≡ Some list → IsPenList list
  kept_at p list which = all_at IsPenList lists p list kept which

  back : (p : ℕ) (list : List (ℕ × Event)) (q n : ℕ) (e : Event) → slice_get lists p ≡ Some list → slice_get list q ≡ Some (n, e) → slice_get events n ≡ Some e
  back p list q n e which here = numbered_so.placed n e (contained lists p list q (n, e) which here)

  formed_at : (i : ℕ) (e : Event) → slice_get events i ≡ Some e → IsEntryAt i e
  formed_at i e at =
      let stands = own i e at in
      all_at (λ (x : ℕ × Event). IsEntryAt x.0 x.1) stands.list stands.place (i, e) (kept_at stands.which stands.list stands.of_which).formed stands.here

  same_list : (p q : ℕ) (one other : List (ℕ × Event)) (j k : ℕ) (x y : ℕ × Event) → slice_get lists p ≡ Some one → slice_get lists q ≡ Some other
      → slice_get one j ≡ Some x → slice_get other k ≡ Some y → x.0 ≡ y.0 → one ≡ other
  same_list p q one other j k x y at_p at_q at_j at_k same = by_test (p == q) refl where
    f : ℕ × Event → ℕ
    f = λ entry. one_for x.0 entry.0

    by_test : (b : Bool) → (p == q) ≡ b → one ≡ other
    by_test true is =
        let both : Some one ≡ Some other = sym at_p ∙ (ap (slice_get lists) (eqb-true p q is) ∙ at_q) in cc
    by_test false is =
        let apart : p ≢ q = (λ e. let impossible : true ≡ false = sym (eq-eqb p q e) ∙ is in cc) in
        let sums = two_lists (λ entry. one_for x.0 entry.0) lists p q one other apart at_p at_q in
        let mine = sum_of_one (λ (entry : ℕ × Event). one_for x.0 entry.0) one j x at_j in
        let theirs = sum_of_one (λ (entry : ℕ × Event). one_for x.0 entry.0) other k y at_k in
        let here = one_for_itself x.0 in
        let there : one_for x.0 y.0 ≡ 1 = ap (one_for x.0) (sym same) ∙ here in
        let moved = sum_by-IsPermutation (λ (entry : ℕ × Event). one_for x.0 entry.0) (entries_of lists) (enumerate_from 0 events) recording_is in
        let mapped = sum_map (one_for x.0) (λ (entry : ℕ × Event). entry.0) (enumerate_from 0 events) in
        let row = ap (sum_by (one_for x.0)) (numbered_from 0 events) in
        let once = once_at_most x.0 0 (length events) in
        absurd (omega arith)

  -- what is known of the ending at a place, by the list of its own pen
  no_ending_before : (i m : ℕ) (e : Event) (stands : StandsIn lists (i, e)) → Open (take stands.place stands.list) m → place_of (is_ending m) (take i events) ≡ None
  no_ending_before i m e stands o = none_passing (is_ending m) (take i events) (λ q x at. false_from_ne_true (is_ending m x) (λ ends.
      let mine = kept_at stands.which stands.list stands.of_which in
      let called = called_entry (take stands.place stands.list) m o.op (All-take (λ entry. IsEntryAt entry.0 entry.1) stands.place stands.list mine.formed) o.called in
      let call_here = (get_take stands.list stands.place called.place (m, Call 0 m called.document o.op) called.here).0 in
      let before = get_take events i q x at in
      let theirs = own q x before.0 in
      let their_list = kept_at theirs.which theirs.list theirs.of_which in
      let their_open = open_ending (take theirs.place theirs.list) m x ends (their_list.accepted theirs.place (q, x) theirs.here) in
      let their_call = called_entry (take theirs.place theirs.list) m their_open.op (All-take (λ entry. IsEntryAt entry.0 entry.1) theirs.place theirs.list their_list.formed) their_open.called in
      let call_there = (get_take theirs.list theirs.place their_call.place (m, Call 0 m their_call.document their_open.op) their_call.here).0 in
      let one = same_list stands.which theirs.which stands.list theirs.list called.place their_call.place _ _ stands.of_which theirs.of_which call_here call_there refl in
      let ending_here : slice_get stands.list theirs.place ≡ Some (q, x) = ap (λ l. slice_get l theirs.place) one ∙ theirs.here in
      let sooner : theirs.place < stands.place = stands_before stands.list theirs.place stands.place (q, x) (i, e) mine.rising ending_here stands.here before.1 in
      let ended = ended_by (take stands.place stands.list) m theirs.place (q, x) (take_get stands.list stands.place theirs.place (q, x) sooner ending_here) ends in
      let impossible : true ≡ false = sym ended ∙ o.unended in cc))

  call_before : (i m : ℕ) (e : Event) → m < i → (stands : StandsIn lists (i, e)) → (o : Open (take stands.place stands.list) m) → op_of (take i events) m ≡ Some o.op
  call_before i m e less stands o =
      let mine = kept_at stands.which stands.list stands.of_which in
      let called = called_entry (take stands.place stands.list) m o.op (All-take (λ entry. IsEntryAt entry.0 entry.1) stands.place stands.list mine.formed) o.called in
      let call_here = (get_take stands.list stands.place called.place (m, Call 0 m called.document o.op) called.here).0 in
      let at = take_get events i m (Call 0 m called.document o.op) less (back stands.which stands.list called.place m (Call 0 m called.document o.op) stands.of_which call_here) in
      called_there (take i events) m called.document o.op at
      (first_passing (is_call m) (take i events) m (Call 0 m called.document o.op) at (eq-eqb m m refl) (λ q x low there. false_from_ne_true (is_call m x) (λ calls.
      let before = get_take events i q x there in
      let number : m ≡ q = call_number q m x (formed_at q x before.0) calls in omega arith)))

  unrefused : length events ≤ most_events → AreAccepted events
  unrefused few i e at = by_event e at where
    few_before : when_full (take i events) ≡ None
    few_before =
        let within : i < length events = slice_get_within events i e at in
        let size = length-take-le i events (le_of_lt within) in
        not_full (take i events) (omega arith)

    by_event : (e : Event) → slice_get events i ≡ Some e → refusal_of (take i events) e ≡ None
    by_event (Call h n d op) at =
        let formed = formed_at i (Call h n d op) at in
        let first : place_of (is_call n) (take i events) ≡ None = none_passing (is_call n) (take i events) (λ q x there. false_from_ne_true (is_call n x) (λ calls.
        let before = get_take events i q x there in
        let number : n ≡ q = call_number q n x (formed_at q x before.0) calls in
        let mine : n ≡ i = formed.0 in
        let less = before.1 in omega arith)) in
        let stays : is_moved (take i events) d h ≡ false = unmoved (take i events) d h formed.1 (λ k x there calls.
        let before = get_take events i k x there in shard_zero k d x (formed_at k x before.0) calls) in
        ap (λ o. if is_some o then Some refused.SecondCall else (if is_moved (take i events) d h then Some refused.ShardMoved else when_full (take i events))) first
        ∙ (ap (λ b. if b then Some refused.ShardMoved else when_full (take i events)) stays ∙ few_before)
    by_event (Reply m r) at =
        let stands = own i (Reply m r) at in
        let open_ = open_reply (take stands.place stands.list) m r ((kept_at stands.which stands.list stands.of_which).accepted stands.place (i, Reply m r) stands.here) in
        ap (λ o. option_map_or (λ op. when_ended (take i events) m (if fits op r then when_full (take i events) else Some refused.Kind)) o (Some refused.NoCall))
        (call_before i m (Reply m r) (formed_at i (Reply m r) at) stands open_.0)
        ∙ (ap (λ o. if is_some o then Some refused.Ended else (if fits open_.0.op r then when_full (take i events) else Some refused.Kind)) (no_ending_before i m (Reply m r) stands open_.0)
        ∙ (ap (λ b. if b then when_full (take i events) else Some refused.Kind) open_.1 ∙ few_before))
    by_event (Lost m) at =
        let stands = own i (Lost m) at in
        let open_ = open_lost (take stands.place stands.list) m ((kept_at stands.which stands.list stands.of_which).accepted stands.place (i, Lost m) stands.here) in
        ap (λ o. option_map_or (λ op. when_ended (take i events) m (when_full (take i events))) o (Some refused.NoCall)) (call_before i m (Lost m) (formed_at i (Lost m) at) stands open_)
        ∙ (ap (λ o. if is_some o then Some refused.Ended else when_full (take i events)) (no_ending_before i m (Lost m) stands open_) ∙ few_before)

  pub merged_accepted : length (entries_of lists) ≤ most_events → AreAccepted events
  merged_accepted few = let count = numbered_so.count in unrefused (let up : length events ≤ most_events = omega arith in up)
