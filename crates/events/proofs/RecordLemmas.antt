-- The places of the calls of a document, and the records at them.
use Rattle.std.proofs.Common.{ℕ, zero, suc, ◌≡◌, ◌<◌, ◌+◌, List, [], ◌∷◌, ◌++◌, length, take, add-one, add-zero, refl, sym, ap, ◌∙◌, arith, Bool, true, false, cond, Option, Some, None, slice_get}
use Rattle.std.specs.Prelude.{option_map, filter_map, if◌then◌else◌}
use Rattle.std.specs.Option.{option_to_list}
use Rattle.std.proofs.Math.Seq.{take-length}
use Rattle.std.proofs.lemmas.List.Elements.{filter_map-append}
use Rattle.std.specs.List.{cons_option}
use Rattle.events.specs.declared.event.Event.{Event}
use Rattle.events.specs.declared.record.Rec.{Rec}
use Rattle.events.specs.Events.{is_call_of, places_from, record_at, records_of}
use Rattle.events.specs.aids.Indexes.{calls_at}
use Rattle.version_pair.proofs.ListLemmas.{same_some, take_one_more}

-- the places of a test in a list with one more event
pub places_snoc : (k : ℕ) (t : Event → Bool) (xs : List Event) (x : Event) → places_from k t (xs ++ x ∷ []) ≡ places_from k t xs ++ cond (t x) ((k + length xs) ∷ []) []
places_snoc k t [] x = by_test (t x) where
  by_test : (b : Bool) → (if b then k ∷ [] else []) ≡ cond b ((k + 0) ∷ []) []
  by_test true = ap (λ i. i ∷ []) (sym (add-zero k))
  by_test false = refl
places_snoc k t (y ∷ xs) x = by_test (t y) (places_snoc (suc k) t xs x) where
  moved : cond (t x) ((suc k + length xs) ∷ []) [] ≡ cond (t x) ((k + suc (length xs)) ∷ []) []
  moved = ap (λ i. cond (t x) (i ∷ []) []) (omega arith)

  by_test : (b : Bool) → places_from (suc k) t (xs ++ x ∷ []) ≡ places_from (suc k) t xs ++ cond (t x) ((suc k + length xs) ∷ []) []
      → (if b then k ∷ places_from (suc k) t (xs ++ x ∷ []) else places_from (suc k) t (xs ++ x ∷ []))
      ≡ (if b then k ∷ places_from (suc k) t xs else places_from (suc k) t xs) ++ cond (t x) ((k + suc (length xs)) ∷ []) []
  by_test true later = ap (λ is. k ∷ is) (later ∙ ap (λ is. places_from (suc k) t xs ++ is) moved)
  by_test false later = later ∙ ap (λ is. places_from (suc k) t xs ++ is) moved

-- ---- the places of a document's calls

pub place_within : (k : ℕ) (t : Event → Bool) (xs : List Event) (j i : ℕ) → slice_get (places_from k t xs) j ≡ Some i → i < k + length xs
place_within k t [] j i at = let impossible : None ≡ Some i = at in absurd (cc)
place_within k t (x ∷ xs) j i at =
    by_test (t x) j (λ l found. (let below : i < suc k + length xs = place_within (suc k) t xs l i found in omega (arith, below))) at where
      by_test : (b : Bool) (l : ℕ) → ((m : ℕ) → slice_get (places_from (suc k) t xs) m ≡ Some i → i < k + suc (length xs))
          → slice_get (if b then k ∷ places_from (suc k) t xs else places_from (suc k) t xs) l ≡ Some i → i < k + suc (length xs)
      by_test true zero later found = let same : k ≡ i = same_some k i found in omega (arith, same)
      by_test true (suc l) later found = later l found
      by_test false l later found = later l found

-- a place among those of a document
pub listed_within : (H : List Event) (o : Option (List ℕ × ℕ)) (ps : List ℕ) (j i : ℕ) → option_map (λ d. calls_at H d.0) o ≡ Some ps → slice_get ps j ≡ Some i
    → i < length H
listed_within H None ps j i listed at = let impossible : None ≡ Some ps = listed in absurd (cc)
listed_within H (Some d) ps j i listed at =
    let same : calls_at H d.0 ≡ ps = same_some (calls_at H d.0) ps listed in
    let below : i < 0 + length H = place_within 0 (is_call_of d.0) H j i (ap (λ qs. slice_get qs j) same ∙ at) in
    omega (arith, below)

-- ---- the records at places

pub records_at_places : List Event → List ℕ → List Rec
records_at_places H ps = filter_map (record_at H) ps

pub records_none : (H : List Event) (ps : List ℕ) → [] ≡ records_at_places H (take 0 ps)
unfolding records_at_places
records_none H ps = refl

one_record : (H : List Event) (i : ℕ) → filter_map (record_at H) (i ∷ []) ≡ option_to_list (record_at H i)
one_record H i = one (record_at H i) where
  one : (o : Option Rec) → cons_option o [] ≡ option_to_list o
  one None = refl
  one (Some r) = refl

pub records_one_more : (H : List Event) (ps : List ℕ) (j i : ℕ) → slice_get ps j ≡ Some i
    → records_at_places H (take (j + 1) ps) ≡ records_at_places H (take j ps) ++ option_to_list (record_at H i)
unfolding records_at_places
records_one_more H ps j i at =
    ap (λ k. filter_map (record_at H) (take k ps)) (add-one j)
    ∙ (ap (filter_map (record_at H)) (take_one_more ps j i at)
    ∙ (filter_map-append (record_at H) (take j ps) (i ∷ []) ∙ ap (λ rs. filter_map (record_at H) (take j ps) ++ rs) (one_record H i)))

pub records_done : (H : List Event) (ps : List ℕ) (k : ℕ) → k ≡ length ps → records_at_places H (take k ps) ≡ filter_map (record_at H) ps
unfolding records_at_places
records_done H ps k end = ap (filter_map (record_at H)) (ap (λ n. take n ps) end ∙ take-length ps)

-- the records of the document that stands in the list
pub records_listed : (H : List Event) (o : Option (List ℕ × ℕ)) (ps : List ℕ) (rs : List Rec) → option_map (λ d. calls_at H d.0) o ≡ Some ps
    → rs ≡ filter_map (record_at H) ps → option_map (λ d. records_of H d.0) o ≡ Some rs
records_listed H None ps rs listed is = let impossible : None ≡ Some ps = listed in absurd (cc)
records_listed H (Some d) ps rs listed is =
    let same : calls_at H d.0 ≡ ps = same_some (calls_at H d.0) ps listed in
    ap (λ r. Some r) (ap (filter_map (record_at H)) same ∙ sym is)
