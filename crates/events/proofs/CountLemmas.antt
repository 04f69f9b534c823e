-- Counting: distinct numbers below a bound are not more than it, the records of a document are not more than the calls,
-- and events that pass a test, place by place.
use Rattle.std.proofs.Common.{ℕ, zero, suc, ◌≡◌, ◌<◌, ◌≤◌, ◌+◌, List, [], ◌∷◌, length, take, length-append, add-one, refl, sym, ap, subst, ◌∙◌, arith, Option, Some, None, Bool, true, false, ◌⊎◌, inl, inr, cond, slice_get}
use Rattle.std.specs.Prelude.{filter, filter_map, if◌then◌else◌}
use Rattle.std.specs.List.{cons_option}
use Rattle.std.proofs.Math.Seq.{take-length}
use Rattle.std.proofs.lemmas.List.Elements.{filter-append}
use Rattle.events.specs.declared.event.Event.{Event}
use Rattle.events.specs.declared.event.Event.TheVariants.{Call, Reply, Lost}
use Rattle.events.specs.declared.record.Rec.{Rec}
use Rattle.events.specs.Events.{is_any_call, is_call_of, is_same, places_from, record_at, records_of}
use Rattle.version_pair.proofs.ListLemmas.{take_one_more}

-- ---- distinct numbers

In : ℕ → List ℕ → Type 0
In n [] = ⊥
In n (m ∷ ms) = (n ≡ m) ⊎ In n ms

AreDistinct : List ℕ → Type 0
AreDistinct [] = Unit {0}
AreDistinct (n ∷ ns) = (In n ns → ⊥) × AreDistinct ns

-- the numbers without one of them
without : (n : ℕ) (ms : List ℕ) → In n ms → (ks : List ℕ) × (length ms ≡ suc (length ks)) × ((m : ℕ) → (m ≡ n → ⊥) → In m ms → In m ks)
unfolding In
without n [] h = absurd h
without n (m ∷ ms) (inl e) = (ms, refl, λ k other h. elim h as (λ _. In k ms) [ inl f ↦ absurd (other (f ∙ sym e)) | inr g ↦ g ])
without n (m ∷ ms) (inr h) =
    let r = without n ms h in
    (m ∷ r.0, ap suc r.1, λ k other g. elim g as (λ _. (k ≡ m) ⊎ In k r.0) [ inl f ↦ inl f | inr f ↦ inr (r.2 k other f) ])

pigeonhole : (ns ms : List ℕ) → AreDistinct ns → ((n : ℕ) → In n ns → In n ms) → length ns ≤ length ms
unfolding In AreDistinct
pigeonhole [] ms distinct among = omega arith
pigeonhole (n ∷ ns) ms distinct among =
    let r = without n ms (among n (inl refl)) in
    let later : length ns ≤ length r.0 = pigeonhole ns r.0 distinct.1 (λ k h. r.2 k (λ same. distinct.0 (subst (λ x. In x ns) same h)) (among k (inr h))) in
    let size : length ms ≡ suc (length r.0) = r.1 in omega arith

up_to : ℕ → List ℕ
up_to zero = []
up_to (suc n) = n ∷ up_to n

up_to_count : (n : ℕ) → length (up_to n) ≡ n
unfolding up_to
up_to_count zero = refl
up_to_count (suc n) = ap suc (up_to_count n)

in_up_to : (n k : ℕ) → k < n → In k (up_to n)
unfolding In up_to
in_up_to zero k below = absurd (omega arith)
in_up_to (suc n) k below = elim (same_or_below n k below) as (λ _. (k ≡ n) ⊎ In k (up_to n)) [ inl same ↦ inl same | inr less ↦ inr (in_up_to n k less) ] where
  same_or_below : (n k : ℕ) → k < suc n → (k ≡ n) ⊎ (k < n)
  same_or_below zero zero below = inl refl
  same_or_below zero (suc k) below = absurd (omega arith)
  same_or_below (suc n) zero below = inr (omega arith)
  same_or_below (suc n) (suc k) below = elim (same_or_below n k (omega arith)) as (λ _. (suc k ≡ suc n) ⊎ (suc k < suc n)) [ inl same ↦ inl (ap suc same) | inr less ↦ inr (omega arith) ]

number_at : (ns : List ℕ) (k : ℕ) → In k ns → (i : ℕ) × (slice_get ns i ≡ Some k)
unfolding In
number_at [] k among = absurd among
number_at (n ∷ ns) k (inl same) = (0, ap (λ m. Some m) (sym same))
number_at (n ∷ ns) k (inr among) = let rest = number_at ns k among in (suc rest.0, rest.1)

-- no number stands at two places
abbrev pub AreOnce : List ℕ → Type 0
AreOnce ns = (i j k : ℕ) → slice_get ns i ≡ Some k → slice_get ns j ≡ Some k → i ≡ j

distinct_once : (ns : List ℕ) → AreOnce ns → AreDistinct ns
unfolding AreDistinct
distinct_once [] once = tt
distinct_once (n ∷ ns) once = (
  λ among. let q = number_at ns n among in let same : 0 ≡ suc q.0 = once 0 (suc q.0) n refl q.1 in omega arith,
  distinct_once ns (λ i j k at bt. let eq : suc i ≡ suc j = once (suc i) (suc j) k at bt in omega arith),
)

-- numbers below a bound, each once, are not more than it
pub distinct_within : (ns : List ℕ) (bound : ℕ) → AreOnce ns → ((i k : ℕ) → slice_get ns i ≡ Some k → k < bound) → length ns ≤ bound
distinct_within ns bound once below =
    let few = pigeonhole ns (up_to bound) (distinct_once ns once)
    (λ k among. let at = number_at ns k among in in_up_to bound k (below at.0 k at.1)) in
    let size = up_to_count bound in
    omega arith

-- ---- the records of a document

-- the records are not more than the places that they are made of
fewer_made : (f : ℕ → Option Rec) (is : List ℕ) → length (filter_map f is) ≤ length is
fewer_made f [] = omega arith
fewer_made f (i ∷ is) = by_made (f i) (fewer_made f is) where
  by_made : (o : Option Rec) → length (filter_map f is) ≤ length is → length (cons_option o (filter_map f is)) ≤ suc (length is)
  by_made None few = omega arith
  by_made (Some r) few = omega arith

-- the calls of a document are not more than all calls
fewer_calls : (d : List ℕ) (k : ℕ) (xs : List Event) → length (places_from k (is_call_of d) xs) ≤ length (filter is_any_call xs)
fewer_calls d k [] = omega arith
fewer_calls d k (Call h n e op ∷ xs) = by_test (is_same e d) (fewer_calls d (suc k) xs) where
  by_test : (b : Bool) → length (places_from (suc k) (is_call_of d) xs) ≤ length (filter is_any_call xs)
      → length (if b then k ∷ places_from (suc k) (is_call_of d) xs else places_from (suc k) (is_call_of d) xs) ≤ suc (length (filter is_any_call xs))
  by_test true few = omega arith
  by_test false few = omega arith
fewer_calls d k (Reply n r ∷ xs) = fewer_calls d (suc k) xs
fewer_calls d k (Lost n ∷ xs) = fewer_calls d (suc k) xs

-- the records of a document are not more than the calls
pub fewer_records : (events : List Event) (d : List ℕ) → length (records_of events d) ≤ length (filter is_any_call events)
fewer_records events d =
    let made = fewer_made (record_at events) (places_from 0 (is_call_of d) events) in
    let calls = fewer_calls d 0 events in
    omega arith

-- the calls are not more than the events
pub calls_within : (xs : List Event) → length (filter is_any_call xs) ≤ length xs
calls_within [] = omega arith
calls_within (Call h n d op ∷ xs) = let rest = calls_within xs in omega arith
calls_within (Reply n r ∷ xs) = let rest = calls_within xs in omega arith
calls_within (Lost n ∷ xs) = let rest = calls_within xs in omega arith

-- ---- counting place by place

-- one more place
pub counted_next : (t : Event → Bool) (H : List Event) (i : ℕ) (x : Event) → slice_get H i ≡ Some x
    → length (filter t (take (i + 1) H)) ≡ length (filter t (take i H)) + cond (t x) 1 0
counted_next t H i x at =
    ap (λ k. length (filter t (take k H))) (add-one i)
    ∙ (ap (λ xs. length (filter t xs)) (take_one_more H i x at)
    ∙ (ap length (filter-append t (take i H) (x ∷ []))
    ∙ (length-append (filter t (take i H)) (filter t (x ∷ []))
    ∙ ap (λ n. length (filter t (take i H)) + n) (by_test (t x))))) where
      by_test : (b : Bool) → length (cond b (x ∷ []) []) ≡ cond b 1 0
      by_test true = refl
      by_test false = refl

-- all places
pub counted_all : (t : Event → Bool) (H : List Event) (n : ℕ) → n ≡ length H → length (filter t (take n H)) ≡ length (filter t H)
counted_all t H n h = ap (λ xs. length (filter t xs)) (ap (λ k. take k H) h ∙ take-length H)
