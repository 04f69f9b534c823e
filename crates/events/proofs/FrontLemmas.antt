-- The first events of a history: the places and the documents in them, and the calls of each document.
use Rattle.std.proofs.Common.{ℕ, zero, suc, ◌≡◌, ◌<◌, ◌≤◌, ◌+◌, List, [], ◌∷◌, ◌++◌, length, take, drop, append-nil, append_assoc, add-zero, length-append, refl, sym, ap, subst, ◌∙◌, inl, inr, arith, Option, Some, None, slice_get, ◌⊎◌, Bool, true, false, nat_lt, option_map}
use Rattle.std.specs.Prelude.{fold, if◌then◌else◌, position}
use Rattle.std.specs.Cmp.Lexicographic.{bytes_decides}
use Rattle.std.proofs.Math.Seq.{take-append_seam}
use Rattle.std.proofs.lemmas.Bool.{cases_lt, le-ltb, lt-ltb, ltb-false, ltb-true}
use Rattle.std.proofs.lemmas.List.{take-append-drop}
use Rattle.std.proofs.lemmas.List.Sums.{fold-append}
use Rattle.std.proofs.lemmas.Option.{slice_get_within}
use Rattle.events.specs.declared.event.Event.{Event}
use Rattle.events.specs.declared.event.Event.TheVariants.{Call, Reply, Lost}
use Rattle.events.specs.Events.{PassesAt, documents_of, is_call_of, is_same, place_of, places_from, with_document, with_event}
use Rattle.events.specs.aids.Fronts.{starts_below, when_below}
use Rattle.events.specs.aids.Indexes.{calls_at}
use Rattle.events.specs.aids.Documents.{IsCutAt}
use Rattle.version_pair.proofs.ListLemmas.{get_front, get_of_front, get_within, none_is_not_some, same_some}
use Rattle.events.proofs.ListedLemmas.{distinct_place, documents_distinct, first_position, later_position}
use Rattle.events.proofs.PrefixLaws.{in_front_or_back}
use Rattle.events.proofs.RecordLaws.{place_listed, place_passes}
use Rattle.events.proofs.RecordLemmas.{place_within}

-- ---- first places

below_zero : (o : Option ℕ) → when_below 0 o ≡ None
below_zero None = refl
below_zero (Some i) = ap (λ b. if b then Some i else None) (le-ltb i 0 (omega arith))

below_next : (n : ℕ) (o : Option ℕ) → option_map suc (when_below n o) ≡ when_below (suc n) (option_map suc o)
below_next n None = refl
below_next n (Some i) = by_order (nat_lt i n) refl where
  by_order : (b : Bool) → nat_lt i n ≡ b → option_map suc (if b then Some i else None) ≡ (if nat_lt (suc i) (suc n) then Some (suc i) else None)
  by_order true is =
      let less : i < n = ltb-true i n is in
      sym (ap (λ b. if b then Some (suc i) else None) (lt-ltb (suc i) (suc n) (omega arith)))
  by_order false is =
      let more : n ≤ i = ltb-false i n is in
      sym (ap (λ b. if b then Some (suc i) else None) (le-ltb (suc i) (suc n) (omega arith)))

below_first : (n : ℕ) → Some 0 ≡ when_below (suc n) (Some 0)
below_first n = sym (ap (λ b. if b then Some 0 else None) (lt-ltb 0 (suc n) (omega arith)))

pub place_of_front : (t : Event → Bool) (n : ℕ) (xs : List Event) → place_of t (take n xs) ≡ when_below n (place_of t xs)
place_of_front t zero xs = sym (below_zero (place_of t xs))
place_of_front t (suc n) [] = refl
place_of_front t (suc n) (x ∷ xs) = by_test (t x) (place_of_front t n xs) where
  by_test : (b : Bool) → place_of t (take n xs) ≡ when_below n (place_of t xs)
      → (if b then Some 0 else option_map suc (place_of t (take n xs))) ≡ when_below (suc n) (if b then Some 0 else option_map suc (place_of t xs))
  by_test true later = below_first n
  by_test false later = ap (option_map suc) later ∙ below_next n (place_of t xs)

position_in_front : {X : Type 0} (p : X → Bool) (xs ys : List X) → position p xs ≡ when_below (length xs) (position p (xs ++ ys))
position_in_front p [] ys = sym (below_zero (position p ys))
position_in_front p (x ∷ xs) ys = by_test (p x) refl (position_in_front p xs ys) where
  by_test : (b : Bool) → p x ≡ b → position p xs ≡ when_below (length xs) (position p (xs ++ ys))
      → position p (x ∷ xs) ≡ when_below (suc (length xs)) (position p (x ∷ (xs ++ ys)))
  by_test true is later =
      first_position p x xs is ∙ (below_first (length xs) ∙ ap (when_below (suc (length xs))) (sym (first_position p x (xs ++ ys) is)))
  by_test false is later =
      later_position p x xs is
      ∙ (ap (option_map suc) later
      ∙ (below_next (length xs) (position p (xs ++ ys)) ∙ ap (when_below (suc (length xs))) (sym (later_position p x (xs ++ ys) is))))

-- ---- the documents go on

with_goes_on : (ds : List (List ℕ × ℕ)) (d : List ℕ) (h : ℕ) → (rest : List (List ℕ × ℕ)) × (with_document ds d h ≡ ds ++ rest)
with_goes_on [] d h = ((d, h) ∷ [], refl)
with_goes_on (e ∷ es) d h = by_test (is_same d e.0) (with_goes_on es d h) where
  by_test : (b : Bool) → (rest : List (List ℕ × ℕ)) × (with_document es d h ≡ es ++ rest)
      → (rest : List (List ℕ × ℕ)) × ((if b then e ∷ es else e ∷ with_document es d h) ≡ e ∷ (es ++ rest))
  by_test true later = ([], ap (λ fs. e ∷ fs) (sym (append-nil es)))
  by_test false later = (later.0, ap (λ fs. e ∷ fs) later.1)

event_goes_on : (ds : List (List ℕ × ℕ)) (x : Event) → (rest : List (List ℕ × ℕ)) × (with_event ds x ≡ ds ++ rest)
event_goes_on ds (Call h n d op) = with_goes_on ds d h
event_goes_on ds (Reply n r) = ([], sym (append-nil ds))
event_goes_on ds (Lost n) = ([], sym (append-nil ds))

documents_go_on : (xs : List Event) (ds : List (List ℕ × ℕ)) → (rest : List (List ℕ × ℕ)) × (fold with_event ds xs ≡ ds ++ rest)
documents_go_on [] ds = ([], sym (append-nil ds))
documents_go_on (x ∷ xs) ds =
    let one = event_goes_on ds x in
    let later = documents_go_on xs (with_event ds x) in
    (one.0 ++ later.0, later.1 ∙ (ap (λ es. es ++ later.0) one.1 ∙ append_assoc ds one.0 later.0))

-- the documents of the first events are the first documents
first_documents : (H : List Event) (n : ℕ) → (rest : List (List ℕ × ℕ)) × (documents_of H ≡ documents_of (take n H) ++ rest)
first_documents H n =
    let more = documents_go_on (drop n H) (documents_of (take n H)) in
    (more.0, ap documents_of (sym (take-append-drop n H)) ∙ (fold-append with_event [] (take n H) (drop n H) ∙ more.1))

document_there : (H : List Event) (n k : ℕ) (e : List ℕ × ℕ) → slice_get (documents_of (take n H)) k ≡ Some e → slice_get (documents_of H) k ≡ Some e
document_there H n k e at =
    let more = first_documents H n in
    ap (λ es. slice_get es k) more.1 ∙ get_front (documents_of (take n H)) more.0 k e at

document_here : (H : List Event) (n k : ℕ) (e : List ℕ × ℕ) → k < length (documents_of (take n H)) → slice_get (documents_of H) k ≡ Some e
    → slice_get (documents_of (take n H)) k ≡ Some e
document_here H n k e below at =
    let more = first_documents H n in
    get_of_front (documents_of (take n H)) more.0 k e below (sym (ap (λ es. slice_get es k) more.1) ∙ at)

documents_within : (H : List Event) (n : ℕ) → length (documents_of (take n H)) ≤ length (documents_of H)
documents_within H n =
    let more = first_documents H n in
    let size : length (documents_of H) ≡ length (documents_of (take n H)) + length more.0 = ap length more.1 ∙ length-append (documents_of (take n H)) more.0 in
    omega arith

-- a document of the first events is one of all events
pub document_of_whole : (H G : List Event) (n k : ℕ) → take n H ≡ G → k < length (documents_of G) → k < length (documents_of H)
document_of_whole H G n k front below =
    let size : length (documents_of (take n H)) ≡ length (documents_of G) = ap (λ K. length (documents_of K)) front in
    let most = documents_within H n in
    omega arith

-- and what is read off it is the same
pub same_document : {X : Type 0} (f : List ℕ × ℕ → X) (H G : List Event) (n k : ℕ) (x : X) → take n H ≡ G → k < length (documents_of G)
    → option_map f (slice_get (documents_of H) k) ≡ Some x → option_map f (slice_get (documents_of G) k) ≡ Some x
same_document {X} f H G n k x front below at = by_found (slice_get (documents_of H) k) refl at where
  here : k < length (documents_of (take n H))
  here = subst (λ K. k < length (documents_of K)) (sym front) below

  by_found : (o : Option (List ℕ × ℕ)) → slice_get (documents_of H) k ≡ o → option_map f o ≡ Some x → option_map f (slice_get (documents_of G) k) ≡ Some x
  by_found None is at = absurd (none_is_not_some x at)
  by_found (Some e) is at = ap (λ K. option_map f (slice_get (documents_of K) k)) (sym front) ∙ (ap (option_map f) (document_here H n k e here is) ∙ at)

pub document_number : (p : List ℕ × ℕ → Bool) (H : List Event) (n docs : ℕ) → docs ≡ length (documents_of (take n H))
    → when_below docs (position p (documents_of H)) ≡ position p (documents_of (take n H))
document_number p H n docs size =
    let more = first_documents H n in
    ap (λ k. when_below k (position p (documents_of H))) size
    ∙ (ap (λ es. when_below (length (documents_of (take n H))) (position p es)) more.1 ∙ sym (position_in_front p (documents_of (take n H)) more.0))

-- ---- documents are those that are called

with_new_or_old : (ds : List (List ℕ × ℕ)) (d : List ℕ) (h k : ℕ) (e : List ℕ × ℕ) → slice_get (with_document ds d h) k ≡ Some e → (slice_get ds k ≡ Some e) ⊎ (d ≡ e.0)
with_new_or_old [] d h zero e at = inr (ap (λ (y : List ℕ × ℕ). y.0) (same_some (d, h) e at))
with_new_or_old [] d h (suc k) e at = absurd (none_is_not_some e at)
with_new_or_old (f ∷ fs) d h k e at = by_test (is_same d f.0) k at (λ j there. with_new_or_old fs d h j e there) where
  by_test : (b : Bool) (k : ℕ) → slice_get (if b then f ∷ fs else f ∷ with_document fs d h) k ≡ Some e
      → ((j : ℕ) → slice_get (with_document fs d h) j ≡ Some e → (slice_get fs j ≡ Some e) ⊎ (d ≡ e.0)) → (slice_get (f ∷ fs) k ≡ Some e) ⊎ (d ≡ e.0)
  by_test true k at later = inl at
  by_test false zero at later = inl at
  by_test false (suc k) at later = later k at

event_new_or_old : (ds : List (List ℕ × ℕ)) (x : Event) (k : ℕ) (e : List ℕ × ℕ) → slice_get (with_event ds x) k ≡ Some e → (slice_get ds k ≡ Some e) ⊎ (is_call_of e.0 x ≡ true)
event_new_or_old ds (Call h n d op) k e at =
    elim (with_new_or_old ds d h k e at) as (λ _. (slice_get ds k ≡ Some e) ⊎ (is_same d e.0 ≡ true)) [ inl old ↦ inl old | inr new ↦ inr ((bytes_decides d e.0).1 new) ]
event_new_or_old ds (Reply n r) k e at = inl at
event_new_or_old ds (Lost n) k e at = inl at

-- a document that the events add is called in them
listed_called : (xs : List Event) (ds : List (List ℕ × ℕ)) (k : ℕ) (e : List ℕ × ℕ) → slice_get (fold with_event ds xs) k ≡ Some e
    → (slice_get ds k ≡ Some e) ⊎ ((m : ℕ) × PassesAt (is_call_of e.0) xs m)
listed_called [] ds k e at = inl at
listed_called (x ∷ xs) ds k e at = further (listed_called xs (with_event ds x) k e at) where
  here : (slice_get ds k ≡ Some e) ⊎ (is_call_of e.0 x ≡ true) → (slice_get ds k ≡ Some e) ⊎ ((m : ℕ) × PassesAt (is_call_of e.0) (x ∷ xs) m)
  here (inl old) = inl old
  here (inr new) = inr (0, ap (λ b. Some b) new)

  further : (slice_get (with_event ds x) k ≡ Some e) ⊎ ((m : ℕ) × PassesAt (is_call_of e.0) xs m) → (slice_get ds k ≡ Some e) ⊎ ((m : ℕ) × PassesAt (is_call_of e.0) (x ∷ xs) m)
  further (inl now) = here (event_new_or_old ds x k e now)
  further (inr (m, later)) = inr (suc m, later)

-- the document d stands in the list
abbrev IsListed : List (List ℕ × ℕ) → List ℕ → Type 0
IsListed ds d = (k : ℕ) × (e : List ℕ × ℕ) × (slice_get ds k ≡ Some e) × (e.0 ≡ d)

with_has : (ds : List (List ℕ × ℕ)) (d : List ℕ) (h : ℕ) → IsListed (with_document ds d h) d
with_has [] d h = (0, (d, h), refl, refl)
with_has (f ∷ fs) d h = by_test (is_same d f.0) refl (with_has fs d h) where
  by_test : (b : Bool) → is_same d f.0 ≡ b → IsListed (with_document fs d h) d → IsListed (if b then f ∷ fs else f ∷ with_document fs d h) d
  by_test true is later = (0, f, refl, sym ((bytes_decides d f.0).0 is))
  by_test false is later = (suc later.0, later.1, later.2, later.3)

event_has : (ds : List (List ℕ × ℕ)) (x : Event) (d : List ℕ) → is_call_of d x ≡ true → IsListed (with_event ds x) d
event_has ds (Call h n c op) d is = subst (IsListed (with_document ds c h)) ((bytes_decides c d).0 is) (with_has ds c h)
event_has ds (Reply n r) d is = let impossible : false ≡ true = is in absurd (cc)
event_has ds (Lost n) d is = let impossible : false ≡ true = is in absurd (cc)

-- a document that is called in the events is listed after them
called_listed : (xs : List Event) (ds : List (List ℕ × ℕ)) (m : ℕ) (d : List ℕ) → PassesAt (is_call_of d) xs m → IsListed (fold with_event ds xs) d
called_listed [] ds m d passes = absurd (none_is_not_some true passes)
called_listed (x ∷ xs) ds zero d passes =
    let here = event_has ds x d (same_some (is_call_of d x) true passes) in
    let more = documents_go_on xs (with_event ds x) in
    (here.0, here.1, ap (λ es. slice_get es here.0) more.1 ∙ get_front (with_event ds x) more.0 here.0 here.1 here.2, here.3)
called_listed (x ∷ xs) ds (suc m) d passes = called_listed xs (with_event ds x) m d passes

-- ---- the calls of a document

places_split : (k n : ℕ) (t : Event → Bool) (xs : List Event) → places_from k t xs ≡ places_from k t (take n xs) ++ places_from (k + n) t (drop n xs)
places_split k zero t xs = ap (λ i. places_from i t xs) (sym (add-zero k))
places_split k (suc n) t [] = refl
places_split k (suc n) t (x ∷ xs) = by_test (t x) (places_split (suc k) n t xs) where
  moved : places_from (suc k + n) t (drop n xs) ≡ places_from (k + suc n) t (drop n xs)
  moved = ap (λ i. places_from i t (drop n xs)) (omega arith)

  by_test : (b : Bool) → places_from (suc k) t xs ≡ places_from (suc k) t (take n xs) ++ places_from (suc k + n) t (drop n xs)
      → (if b then k ∷ places_from (suc k) t xs else places_from (suc k) t xs)
      ≡ (if b then k ∷ places_from (suc k) t (take n xs) else places_from (suc k) t (take n xs)) ++ places_from (k + suc n) t (drop n xs)
  by_test true later = ap (λ is. k ∷ is) (later ∙ ap (λ is. places_from (suc k) t (take n xs) ++ is) moved)
  by_test false later = later ∙ ap (λ is. places_from (suc k) t (take n xs) ++ is) moved

take_short : {X : Type 0} (n : ℕ) (xs : List X) → length (take n xs) ≤ n
take_short zero xs = omega arith
take_short (suc n) [] = omega arith
take_short (suc n) (x ∷ xs) = let rest = take_short n xs in omega arith

-- just the first calls of a document are before the place: as many as are called among the events before it
calls_cut : (H : List Event) (n : ℕ) (d : List ℕ) → IsCutAt (λ i. nat_lt i n) (calls_at H d) (length (calls_at (take n H) d))
calls_cut H n d = record { within = within; passes = passes } where
  front : List ℕ
  front = calls_at (take n H) d

  back : List ℕ
  back = places_from (0 + n) (is_call_of d) (drop n H)

  split : calls_at H d ≡ front ++ back
  split = places_split 0 n (is_call_of d) H

  within : length front ≤ length (calls_at H d)
  within = let size : length (calls_at H d) ≡ length front + length back = ap length split ∙ length-append front back in omega arith

  early : (j i : ℕ) → slice_get front j ≡ Some i → nat_lt i n ≡ nat_lt j (length front)
  early j i at =
      let place : i < 0 + length (take n H) = place_within 0 (is_call_of d) (take n H) j i at in
      let short : length (take n H) ≤ n = take_short n H in
      lt-ltb i n (omega arith) ∙ sym (lt-ltb j (length front) (slice_get_within front j i at))

  late : (j i : ℕ) → length front ≤ j → (k : ℕ) × (slice_get back k ≡ Some i) → nat_lt i n ≡ nat_lt j (length front)
  late j i past (k, at) =
      let m = place_passes (0 + n) (is_call_of d) (drop n H) k i at in
      let place : i ≡ (0 + n) + m.0 = m.1 in
      le-ltb i n (omega arith) ∙ sym (le-ltb j (length front) past)

  passes : (j i : ℕ) → slice_get (calls_at H d) j ≡ Some i → nat_lt i n ≡ nat_lt j (length front)
  passes j i at =
      let there : slice_get (front ++ back) j ≡ Some i = subst (λ is. slice_get is j ≡ Some i) split at in
      elim (cases_lt j (length front)) as (λ _. nat_lt i n ≡ nat_lt j (length front)) [
        | inl below ↦ early j i (get_of_front front back j i below there)
        | inr past ↦ elim (in_front_or_back front back j i there) as (λ _. nat_lt i n ≡ nat_lt j (length front)) [ inl here ↦ early j i here | inr behind ↦ late j i past behind ]
      ]

calls_taken : (H : List Event) (n : ℕ) (d : List ℕ) → take (length (calls_at (take n H) d)) (calls_at H d) ≡ calls_at (take n H) d
calls_taken H n d =
    ap (take (length (calls_at (take n H) d))) (places_split 0 n (is_call_of d) H)
    ∙ take-append_seam (calls_at (take n H) d) (places_from (0 + n) (is_call_of d) (drop n H))

-- the calls of a document in the first events are the first of its calls
pub front_calls : (H G : List Event) (n k : ℕ) (is : List ℕ) → take n H ≡ G → k < length (documents_of G)
    → option_map (λ d. calls_at H d.0) (slice_get (documents_of H) k) ≡ Some is
    → (m : ℕ) × IsCutAt (λ i. nat_lt i n) is m × (option_map (λ d. calls_at G d.0) (slice_get (documents_of G) k) ≡ Some (take m is))
front_calls H G n k is front below at = by_found (slice_get (documents_of G) k) refl (slice_get (documents_of H) k) refl at where
  by_found : (p : Option (List ℕ × ℕ)) → slice_get (documents_of G) k ≡ p → (o : Option (List ℕ × ℕ)) → slice_get (documents_of H) k ≡ o
      → option_map (λ d. calls_at H d.0) o ≡ Some is
      → (m : ℕ) × IsCutAt (λ i. nat_lt i n) is m × (option_map (λ d. calls_at G d.0) p ≡ Some (take m is))
  by_found p there None found at = absurd (none_is_not_some is at)
  by_found None there (Some e) found at =
      let here = get_within (documents_of G) k below in
      absurd (none_is_not_some here.0 (sym there ∙ here.1))
  by_found (Some f) there (Some e) found at =
      let same : f ≡ e = same_some f e (ap (option_map (λ (d : List ℕ × ℕ). d)) (sym there) ∙ same_document (λ d. d) H G n k e front below (ap (option_map (λ d. d)) found)) in
      let all : calls_at H e.0 ≡ is = same_some (calls_at H e.0) is at in
      let m = length (calls_at (take n H) e.0) in (
        m,
        subst (λ js. IsCutAt (λ i. nat_lt i n) js m) all (calls_cut H n e.0),
        ap (λ (g : List ℕ × ℕ). Some (calls_at G g.0)) same
            ∙ ap (λ js. Some js) (ap (λ K. calls_at K e.0) (sym front) ∙ (sym (calls_taken H n e.0) ∙ ap (take m) all)),
      )

-- ---- the documents that are called before a place

starts : (n m : ℕ) (is : List ℕ) → IsCutAt (λ i. nat_lt i n) is m → starts_below n is ≡ nat_lt 0 m
starts n m [] cut = let none : m ≤ 0 = cut.within in sym (le-ltb 0 m none)
starts n m (i ∷ is) cut = cut.passes 0 i refl

called_count : (H : List Event) (n k : ℕ) (e : List ℕ × ℕ) → slice_get (documents_of (take n H)) k ≡ Some e → 0 < length (calls_at (take n H) e.0)
called_count H n k e at = of (listed_called (take n H) [] k e at) where
  of : (slice_get {X = List ℕ × ℕ} [] k ≡ Some e) ⊎ ((m : ℕ) × PassesAt (is_call_of e.0) (take n H) m) → 0 < length (calls_at (take n H) e.0)
  of (inl nothing) = absurd (none_is_not_some e nothing)
  of (inr (m, passes)) =
      let p = place_listed 0 (is_call_of e.0) (take n H) m passes in
      let below = slice_get_within (calls_at (take n H) e.0) p.0 (0 + m) p.1 in
      omega arith

uncalled_count : (H : List Event) (n k : ℕ) (e : List ℕ × ℕ) → slice_get (documents_of H) k ≡ Some e → length (documents_of (take n H)) ≤ k
    → (is : List ℕ) → calls_at (take n H) e.0 ≡ is → length is ≤ 0
uncalled_count H n k e at past [] none = omega arith
uncalled_count H n k e at past (i ∷ is) some =
    let p = place_passes 0 (is_call_of e.0) (take n H) 0 i (ap (λ js. slice_get js 0) some) in
    let l = called_listed (take n H) [] p.0 e.0 p.2 in
    let same : l.0 ≡ k = distinct_place (documents_of H) l.0 k l.1 e (documents_distinct H) (document_there H n l.0 l.1 l.2) at l.3 in
    let below = slice_get_within (documents_of (take n H)) l.0 l.1 l.2 in
    absurd (omega arith)

-- a document's calls begin before the place just where it is one of the documents before it
begins : (H : List Event) (n k : ℕ) (e : List ℕ × ℕ) → slice_get (documents_of H) k ≡ Some e → starts_below n (calls_at H e.0) ≡ nat_lt k (length (documents_of (take n H)))
begins H n k e at =
    starts n (length (calls_at (take n H) e.0)) (calls_at H e.0) (calls_cut H n e.0)
    ∙ elim (cases_lt k (length (documents_of (take n H)))) as (λ _. nat_lt 0 (length (calls_at (take n H) e.0)) ≡ nat_lt k (length (documents_of (take n H)))) [
      | inl below ↦ lt-ltb 0 (length (calls_at (take n H) e.0)) (called_count H n k e (document_here H n k e below at)) ∙ sym (lt-ltb k (length (documents_of (take n H))) below)
      | inr past ↦ le-ltb 0 (length (calls_at (take n H) e.0)) (uncalled_count H n k e at past (calls_at (take n H) e.0) refl) ∙ sym (le-ltb k (length (documents_of (take n H))) past)
    ]

pub documents_cut : (H : List Event) (n : ℕ) (ds : List (List ℕ × ℕ)) (ls : List (List ℕ)) → ds ≡ documents_of H → length ls ≡ length ds
    → ((k : ℕ) (e : List ℕ × ℕ) → slice_get ds k ≡ Some e → slice_get ls k ≡ Some (calls_at H e.0))
    → IsCutAt (starts_below n) ls (length (documents_of (take n H)))
documents_cut H n ds ls are size lists = record { within = within; passes = passes } where
  within : length (documents_of (take n H)) ≤ length ls
  within =
      let most = documents_within H n in
      let all : length ds ≡ length (documents_of H) = ap length are in
      omega arith

  of_document : (k : ℕ) (l : List ℕ) (o : Option (List ℕ × ℕ)) → slice_get ls k ≡ Some l → slice_get ds k ≡ o → starts_below n l ≡ nat_lt k (length (documents_of (take n H)))
  of_document k l None at is =
      let below = slice_get_within ls k l at in
      let there = get_within ds k (omega arith) in
      absurd (none_is_not_some there.0 (sym is ∙ there.1))
  of_document k l (Some e) at is =
      ap (starts_below n) (same_some l (calls_at H e.0) (sym at ∙ lists k e is)) ∙ begins H n k e (ap (λ es. slice_get es k) (sym are) ∙ is)

  passes : (k : ℕ) (l : List ℕ) → slice_get ls k ≡ Some l → starts_below n l ≡ nat_lt k (length (documents_of (take n H)))
  passes k l at = of_document k l (slice_get ds k) at refl
