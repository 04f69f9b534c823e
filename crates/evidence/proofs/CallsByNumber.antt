-- The call with a number: where it is found, and that none is found.
use Rattle.std.proofs.Common.{ℕ, zero, suc, ◌≡◌, List, [], ◌∷◌, refl, sym, subst, ◌∙◌, Bool, true, false, Option, Some, None, cond, option_map, slice_get, true≢false}
use Rattle.doc_register.specs.declared.op.Op.{Op}
use Rattle.events.specs.declared.event.Event.{Event}
use Rattle.events.specs.declared.event.Event.TheVariants.{Call}
use Rattle.events.specs.Events.{IsCallAt, PassesAt, is_call, place_of}
use Rattle.events.proofs.HistoryLemmas.{call_at, call_passes}
use Rattle.version_pair.proofs.ListLemmas.{none_is_not_some, same_some}
use Rattle.events.proofs.EventLemmas.{place_of-passes, same_call}

-- ---- the first place at which a test passes

place_none : (test : Event → Bool) (es : List Event) (i : ℕ) → place_of test es ≡ None → ¬ PassesAt test es i
place_none test [] i is passes = none_is_not_some true passes
place_none test (e ∷ es) i is passes = by_test (test e) refl is i passes (place_none test es) where
  later : (o : Option ℕ) → place_of test es ≡ o → option_map suc o ≡ None → place_of test es ≡ None
  later None none found = none
  later (Some k) at found = absurd (none_is_not_some (suc k) (sym found))

  by_test : (b : Bool) → test e ≡ b → cond b (Some 0) (option_map suc (place_of test es)) ≡ None → (i : ℕ) → PassesAt test (e ∷ es) i
      → ((k : ℕ) → place_of test es ≡ None → ¬ PassesAt test es k) → ⊥
  by_test true passes found i at rest = none_is_not_some 0 (sym found)
  by_test false fails found zero at rest = true≢false (sym (same_some (test e) true at) ∙ fails)
  by_test false fails found (suc i) at rest = rest i (later (place_of test es) refl found) at

-- ---- calls by number

-- the call that is found
pub call_found : (events : List Event) (n i : ℕ) → place_of (is_call n) events ≡ Some i → (h : ℕ) × (d : List ℕ) × (op : Op) × IsCallAt events i n h d op
call_found events n i is = call_at events i n (place_of-passes (is_call n) events i is)

-- where none is found, none has the number
pub call_none : (events : List Event) (n i h : ℕ) (d : List ℕ) (op : Op) → place_of (is_call n) events ≡ None → ¬ IsCallAt events i n h d op
call_none events n i h d op is at = place_none (is_call n) events i is (call_passes events i n h d op at)

-- the event at the place is no call, so no call has been found there
pub found_elsewhere : (events : List Event) (n i : ℕ) (e : Event) → place_of (is_call n) events ≡ Some i → slice_get events i ≡ Some e
    → ((m h : ℕ) (d : List ℕ) (op : Op) → e ≡ Call h m d op → ⊥) → ⊥
found_elsewhere events n i e is at other =
    let call = call_found events n i is in
    other n call.0 call.1 call.2 (same_some e (Call call.0 n call.1 call.2) (sym at ∙ call.3))

-- the number, the shard and the operation of the call that stands at the place
pub call_there : (events : List Event) (n i m h : ℕ) (d : List ℕ) (op : Op) → place_of (is_call n) events ≡ Some i → IsCallAt events i m h d op → IsCallAt events i n h d op
call_there events n i m h d op is at =
    let call = call_found events n i is in
    let same = same_call events i n m call.0 h call.1 d call.2 op call.3 at in
    subst (λ k. IsCallAt events i k h d op) (sym same.0) at

-- two calls at one place are of one shard
pub same_shard : (events : List Event) (i n m h g : ℕ) (d e : List ℕ) (op o : Op) → IsCallAt events i n h d op → IsCallAt events i m g e o → h ≡ g
same_shard events i n m h g d e op o at bt =
    let same : Call h n d op ≡ Call g m e o = same_some (Call h n d op) (Call g m e o) (sym at ∙ bt) in
    cc
