-- The places by number that a history keeps, and the first event that passes a test, after one more event.
use Rattle.std.proofs.Common.{ℕ, ◌≡◌, List, [], ◌∷◌, ◌++◌, length, refl, sym, ap, ◌∙◌, Option, Some, None, slice_get, Bool, true, false, cond}
use Rattle.std.specs.Prelude.{◌==◌, option_and_then, if◌then◌else◌}
use Rattle.std.specs.Map.{lookup}
use Rattle.std.proofs.lemmas.Bool.{eqb-true}
use Rattle.events.specs.declared.event.Event.{Event}
use Rattle.events.specs.Events.{place_of}
use Rattle.events.specs.Refusal.{first_event}
use Rattle.version_pair.proofs.ListLemmas.{get_front, get_last, none_is_not_some}
use Rattle.events.proofs.EventLemmas.{passes_element, place_of-front, place_of-last, place_of-passes}

-- ---- places by number

pub found_after : (t : ℕ → Event → Bool) (H : List Event) (x : Event) (k : ℕ) (es fs : List (ℕ × ℕ))
    → ((q : ℕ) → lookup (◌==◌ q) es ≡ place_of (t q) H) → place_of (t k) H ≡ None
    → ((q : ℕ) → t q x ≡ (k == q))
    → ((q : ℕ) → lookup (◌==◌ q) fs ≡ cond (k == q) (Some (length H)) (lookup (◌==◌ q) es))
    → (q : ℕ) → lookup (◌==◌ q) fs ≡ place_of (t q) (H ++ x ∷ [])
found_after t H x k es fs found fresh passes updated q = by_place (place_of (t q) H) refl (k == q) refl where
  by_place : (o : Option ℕ) → place_of (t q) H ≡ o → (b : Bool) → (k == q) ≡ b → lookup (◌==◌ q) fs ≡ place_of (t q) (H ++ x ∷ [])
  by_place (Some i) is true e =
      let number : k ≡ q = eqb-true k q e in
      absurd (none_is_not_some i (sym fresh ∙ (ap (λ n. place_of (t n) H) number ∙ is)))
  by_place (Some i) is false e =
      updated q ∙ (ap (λ b. cond b (Some (length H)) (lookup (◌==◌ q) es)) e ∙ (found q ∙ (is ∙ sym (place_of-front (t q) H (x ∷ []) i is))))
  by_place None is true e =
      updated q ∙ (ap (λ b. cond b (Some (length H)) (lookup (◌==◌ q) es)) e ∙ sym (place_of-last (t q) H x is ∙ ap (λ b. if b then Some (length H) else None) (passes q ∙ e)))
  by_place None is false e =
      updated q ∙ (ap (λ b. cond b (Some (length H)) (lookup (◌==◌ q) es)) e
      ∙ (found q ∙ (is ∙ sym (place_of-last (t q) H x is ∙ ap (λ b. if b then Some (length H) else None) (passes q ∙ e)))))

pub found_still : (t : ℕ → Event → Bool) (H : List Event) (x : Event) (es : List (ℕ × ℕ))
    → ((q : ℕ) → lookup (◌==◌ q) es ≡ place_of (t q) H) → ((q : ℕ) → t q x ≡ false)
    → (q : ℕ) → lookup (◌==◌ q) es ≡ place_of (t q) (H ++ x ∷ [])
found_still t H x es found fails q = by_place (place_of (t q) H) refl where
  by_place : (o : Option ℕ) → place_of (t q) H ≡ o → lookup (◌==◌ q) es ≡ place_of (t q) (H ++ x ∷ [])
  by_place (Some i) is = found q ∙ (is ∙ sym (place_of-front (t q) H (x ∷ []) i is))
  by_place None is = found q ∙ (is ∙ sym (place_of-last (t q) H x is ∙ ap (λ b. if b then Some (length H) else None) (fails q)))

-- ---- shards by document

-- the first event that passes, in a longer list
pub first_front : (t : Event → Bool) (H : List Event) (x : Event) (i : ℕ) → place_of t H ≡ Some i → first_event t (H ++ x ∷ []) ≡ first_event t H
first_front t H x i is =
    let e = passes_element t H i (place_of-passes t H i is) in
    ap (option_and_then (slice_get (H ++ x ∷ []))) (place_of-front t H (x ∷ []) i is)
    ∙ (get_front H (x ∷ []) i e.0 e.1 ∙ sym (ap (option_and_then (slice_get H)) is ∙ e.1))

pub first_last : (t : Event → Bool) (H : List Event) (x : Event) → place_of t H ≡ None → first_event t (H ++ x ∷ []) ≡ (if t x then Some x else None)
first_last t H x is = ap (option_and_then (slice_get (H ++ x ∷ []))) (place_of-last t H x is) ∙ by_test (t x) where
  by_test : (b : Bool) → option_and_then (slice_get (H ++ x ∷ [])) (if b then Some (length H) else None) ≡ (if b then Some x else None)
  by_test true = get_last H x
  by_test false = refl

pub first_none : (t : Event → Bool) (H : List Event) → place_of t H ≡ None → first_event t H ≡ None
first_none t H is = ap (option_and_then (slice_get H)) is
