-- What a recording answers, put together.
use Rattle.std.proofs.Common.{ℕ, ◌≡◌, ◌<◌, ◌≤◌, List, [], ◌∷◌, ◌++◌, length, refl, sym, ap, subst, ◌∙◌, arith, Option, Some, None, Result, Ok, Err, Bool, true, false, All, Any, IfOk, OnErr, IfSome}
use Rattle.std.specs.Prelude.{◌||◌, if◌then◌else◌, nat_lt}
use Rattle.std.proofs.lemmas.Bool.{ltb-false, ltb-true, both_ways}
use Rattle.events.specs.declared.event.Event.{Event}
use Rattle.events.specs.Refusal.{most_events}
use Rattle.recorder.specs.declared.fault.RecFault.{RecFault}
use Rattle.recorder.specs.declared.fault.RecFault.TheVariants.{NotMine, Ended, Kind, Full, NoMemory, Rewound}
use Rattle.recorder.specs.Pens.{IsUnused, PenState, Records, reports_full, reported_by_list}
use Rattle.recorder.specs.aids.Appending.{append_refusal, append_reported, when_full}
use Rattle.version_pair.proofs.ListLemmas.{none_is_not_some}

-- a pen's numbers are below the answered one, where the last of them is
answered_above : (list : List (ℕ × Event)) (locked : List Event) (last : Option ℕ) (answer : Result ℕ RecFault)
    → append_reported answer ≡ append_refusal locked last → IfOk answer (λ n. (n ≡ length locked) × (n < most_events))
    → ((n : ℕ) → IfSome last (λ l. l < n) → All (λ entry. entry.0 < n) list)
    → IfOk answer (λ n. All (λ entry. entry.0 < n) list)
answered_above list locked last (Err e) reported number above = tt
answered_above list locked last (Ok n) reported number above = above n (by_last last reported) where
  by_test : (l : ℕ) (b : Bool) → nat_lt l (length locked) ≡ b → None ≡ (if b then when_full locked else Some (Rewound (length locked))) → l < n
  by_test l true is same = let less : l < length locked = ltb-true l (length locked) is in let is_n : n ≡ length locked = number.0 in omega arith
  by_test l false is same = absurd (none_is_not_some (Rewound (length locked)) same)

  by_last : (o : Option ℕ) → None ≡ append_refusal locked o → IfSome o (λ l. l < n)
  by_last None same = tt
  by_last (Some l) same = by_test l (nat_lt l (length locked)) refl same

-- an answer of the locked recording says nothing of the pen's list
reported_nothing : (locked : List Event) (last : Option ℕ) (answer : Result ℕ RecFault) → append_reported answer ≡ append_refusal locked last → reported_by_list answer ≡ None
reported_nothing locked last answer reported = by_answer answer (subst OfLock (sym reported) (by_last last)) where
  OfLock : Option RecFault → Type 0
  OfLock None = Unit {0}
  OfLock (Some NotMine) = ⊥
  OfLock (Some Ended) = ⊥
  OfLock (Some Kind) = ⊥
  OfLock (Some Full) = Unit {0}
  OfLock (Some NoMemory) = Unit {0}
  OfLock (Some (Rewound n)) = Unit {0}

  by_answer : (a : Result ℕ RecFault) → OfLock (append_reported a) → reported_by_list a ≡ None
  by_answer (Ok n) of_lock = refl
  by_answer (Err NotMine) of_lock = absurd of_lock
  by_answer (Err Ended) of_lock = absurd of_lock
  by_answer (Err Kind) of_lock = absurd of_lock
  by_answer (Err Full) of_lock = refl
  by_answer (Err NoMemory) of_lock = refl
  by_answer (Err (Rewound n)) of_lock = refl

  by_room : (b : Bool) → OfLock (if b then None else Some Full)
  by_room true = tt
  by_room false = tt

  by_test : (l : ℕ) (b : Bool) → OfLock (if b then when_full locked else Some (Rewound (length locked)))
  by_test l true = by_room (nat_lt (length locked) most_events)
  by_test l false = tt

  by_last : (o : Option ℕ) → OfLock (append_refusal locked o)
  by_last None = by_room (nat_lt (length locked) most_events)
  by_last (Some l) = by_test l (nat_lt l (length locked))

-- a recording that was rewound has no more events than the last number
rewound_below : (locked : List Event) (last : Option ℕ) (n : ℕ) → Some (Rewound n) ≡ append_refusal locked last → (l : ℕ) × (last ≡ Some l) × (n ≤ l)
rewound_below locked last n reported = by_last last reported where
  Rewinds : Option ℕ → Type 0
  Rewinds o = (l : ℕ) × (o ≡ Some l) × (n ≤ l)

  by_room : (o : Option ℕ) (b : Bool) → Some (Rewound n) ≡ (if b then None else Some Full) → Rewinds o
  by_room o true same = absurd (none_is_not_some (Rewound n) (sym same))
  by_room o false same = let impossible : Some (Rewound n) ≡ Some Full = same in absurd (cc)

  by_test : (l : ℕ) (b : Bool) → nat_lt l (length locked) ≡ b → Some (Rewound n) ≡ (if b then when_full locked else Some (Rewound (length locked))) → Rewinds (Some l)
  by_test l true is same = by_room (Some l) (nat_lt (length locked) most_events) same
  by_test l false is same =
      let all : Some (Rewound n) ≡ Some (Rewound (length locked)) = same in
      let count : n ≡ length locked = cc in
      let up : length locked ≤ l = ltb-false l (length locked) is in (l, refl, omega arith)

  by_last : (o : Option ℕ) → Some (Rewound n) ≡ append_refusal locked o → Rewinds o
  by_last None same = by_room None (nat_lt (length locked) most_events) same
  by_last (Some l) same = by_test l (nat_lt l (length locked)) refl same

-- what was answered under the lock, and what became of the pen
pub recorded_after : (old new : PenState) (event : ℕ → Event) (answer : Result ℕ RecFault) (locked : List Event) (last : Option ℕ)
    → old.is_full ≡ false
    → append_reported answer ≡ append_refusal locked last → IfOk answer (λ n. (n ≡ length locked) × (n < most_events))
    → ((n : ℕ) → IfSome last (λ l. l < n) → All (λ entry. entry.0 < n) old.list)
    → IfSome last (λ l. (n : ℕ) → n ≤ l → Any (λ entry. n ≤ entry.0) old.list)
    → IfOk answer (λ n. new.list ≡ old.list ++ (n, event n) ∷ []) → OnErr answer (new.list ≡ old.list)
    → new.is_full ≡ (old.is_full || reports_full answer) → IfOk answer (λ n. IsUnused n old.list)
    → Records old None event answer new
recorded_after old new event answer locked last open_ reported number above reached grows stays full unused = record {
  grows = grows;
  stays = stays;
  above = answered_above old.list locked last answer reported number above;
  below = below answer number;
  unused = unused;
  by_list = reported_nothing locked last answer reported;
  full = λ _ was. absurd (both_ways old.is_full open_ was);
  full_from_then = full;
  rewound = λ n is. rewound n (sym (ap append_reported is) ∙ reported);
} where
  below : (a : Result ℕ RecFault) → IfOk a (λ n. (n ≡ length locked) × (n < most_events)) → IfOk a (λ n. n < most_events)
  below (Ok n) number = number.1
  below (Err e) number = tt

  rewound : (n : ℕ) → Some (Rewound n) ≡ append_refusal locked last → Any (λ entry. n ≤ entry.0) old.list
  rewound n is =
      let l = rewound_below locked last n is in
      let at : IfSome (Some l.0) (λ (k : ℕ). (n : ℕ) → n ≤ k → Any (λ entry. n ≤ entry.0) old.list) =
      subst (λ o. IfSome o (λ (k : ℕ). (n : ℕ) → n ≤ k → Any (λ (entry : ℕ × Event). n ≤ entry.0) old.list)) l.1 reached in
      at n l.2
