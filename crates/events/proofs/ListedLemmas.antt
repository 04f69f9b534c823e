-- The lists of the places of each document's calls, and the endings of calls, after one more event.
use Rattle.std.proofs.Common.{ℕ, zero, suc, ◌≡◌, ◌<◌, ◌≤◌, ◌+◌, List, [], ◌∷◌, ◌++◌, length, append-nil, refl, sym, ap, subst, ◌∙◌, inl, inr, arith, Option, Some, None, slice_get, Bool, true, false, cond, eq-eqb, zero-add, map, option_map}
use Rattle.std.specs.Prelude.{◌==◌, fold, if◌then◌else◌, is_some, nat_lt, not, position, slice_set}
use Rattle.std.specs.List.{position_or_len}
use Rattle.std.specs.Map.{lookup}
use Rattle.std.specs.Cmp.Lexicographic.{bytes_decides}
use Rattle.std.proofs.lemmas.Bool.{both_ways, eqb-true, le-ltb, lt-ltb, ltb-false, ltb-true}
use Rattle.doc_register.specs.declared.op.Op.{Op}
use Rattle.events.specs.declared.event.Event.{Event}
use Rattle.events.specs.declared.event.Event.TheVariants.{Call, Reply, Lost}
use Rattle.events.specs.Events.{IsHistory, PassesAt, documents_of, is_call, is_call_of, is_ending, is_same, place_of, with_document, with_event}
use Rattle.events.specs.aids.Indexes.{calls_at, with_listed}
use Rattle.events.proofs.DocumentLemmas.{lookup_with}
use Rattle.events.proofs.EventLemmas.{passes_element, passes_snoc, passes_within, place_of-front, place_of-last, place_of-none, place_of-passes}
use Rattle.version_pair.proofs.ListLemmas.{get_front, get_last, none_is_not_some, same_some, slice_get-set_other, slice_get-set_same}
use Rattle.events.proofs.RecordLemmas.{places_snoc}

-- ---- no document twice

pub AreDistinct : List (List ℕ × ℕ) → Type 0
AreDistinct [] = Unit {0}
AreDistinct (e ∷ es) = (lookup (is_same e.0) es ≡ None) × AreDistinct es

distinct_with : (ds : List (List ℕ × ℕ)) (d : List ℕ) (h : ℕ) → AreDistinct ds → AreDistinct (with_document ds d h)
unfolding AreDistinct
distinct_with [] d h distinct = (refl, tt)
distinct_with (e ∷ es) d h distinct = by_test (is_same d e.0) refl (distinct_with es d h distinct.1) where
  by_test : (b : Bool) → is_same d e.0 ≡ b → AreDistinct (with_document es d h) → AreDistinct (if b then e ∷ es else e ∷ with_document es d h)
  by_test true is later = distinct
  by_test false is later = (
    lookup_with es d h e.0
        ∙ (ap (λ o. if is_some o then o else (if is_same d e.0 then Some h else None)) distinct.0 ∙ ap (λ b. if b then Some h else None) is),
    later,
  )

distinct_event : (ds : List (List ℕ × ℕ)) (x : Event) → AreDistinct ds → AreDistinct (with_event ds x)
distinct_event ds (Call h n d op) distinct = distinct_with ds d h distinct
distinct_event ds (Reply n r) distinct = distinct
distinct_event ds (Lost n) distinct = distinct

distinct_all : (xs : List Event) (ds : List (List ℕ × ℕ)) → AreDistinct ds → AreDistinct (fold with_event ds xs)
distinct_all [] ds distinct = distinct
distinct_all (x ∷ xs) ds distinct = distinct_all xs (with_event ds x) (distinct_event ds x distinct)

pub documents_distinct : (H : List Event) → AreDistinct (documents_of H)
unfolding AreDistinct
documents_distinct H = distinct_all H [] tt

-- a document that a look-up doesn't find is none of these
other_of : (es : List (List ℕ × ℕ)) (q : List ℕ) (k : ℕ) (e : List ℕ × ℕ) → lookup (is_same q) es ≡ None → slice_get es k ≡ Some e → is_same q e.0 ≡ false
other_of [] q k e none at = absurd (none_is_not_some e at)
other_of (f ∷ fs) q zero e none at = by_test (is_same q f.0) refl none where
  by_test : (b : Bool) → is_same q f.0 ≡ b → cond b (Some f.1) (lookup (is_same q) fs) ≡ None → is_same q e.0 ≡ false
  by_test true is none = absurd (none_is_not_some f.1 (sym none))
  by_test false is none = subst (λ g. is_same q g.0 ≡ false) (same_some f e at) is
other_of (f ∷ fs) q (suc k) e none at = by_test (is_same q f.0) (λ missing. other_of fs q k e missing at) none where
  by_test : (b : Bool) → (lookup (is_same q) fs ≡ None → is_same q e.0 ≡ false) → cond b (Some f.1) (lookup (is_same q) fs) ≡ None → is_same q e.0 ≡ false
  by_test true later none = absurd (none_is_not_some f.1 (sym none))
  by_test false later none = later none

-- no document stands at two places
pub distinct_place : (ds : List (List ℕ × ℕ)) (i j : ℕ) (e f : List ℕ × ℕ) → AreDistinct ds → slice_get ds i ≡ Some e → slice_get ds j ≡ Some f → e.0 ≡ f.0 → i ≡ j
unfolding AreDistinct
distinct_place [] i j e f distinct at bt same = absurd (none_is_not_some e at)
distinct_place (g ∷ gs) zero zero e f distinct at bt same = refl
distinct_place (g ∷ gs) zero (suc j) e f distinct at bt same =
    let first : g.0 ≡ f.0 = ap (λ (y : List ℕ × ℕ). y.0) (same_some g e at) ∙ same in
    absurd (both_ways (is_same g.0 f.0) (other_of gs g.0 j f distinct.0 bt) ((bytes_decides g.0 f.0).1 first))
distinct_place (g ∷ gs) (suc i) zero e f distinct at bt same =
    let first : g.0 ≡ e.0 = ap (λ (y : List ℕ × ℕ). y.0) (same_some g f bt) ∙ sym same in
    absurd (both_ways (is_same g.0 e.0) (other_of gs g.0 i e distinct.0 at) ((bytes_decides g.0 e.0).1 first))
distinct_place (g ∷ gs) (suc i) (suc j) e f distinct at bt same = ap suc (distinct_place gs i j e f distinct.1 at bt same)

-- ---- the calls of a document after one more event

calls_same : (H : List Event) (x : Event) (d : List ℕ) → is_call_of d x ≡ false → calls_at (H ++ x ∷ []) d ≡ calls_at H d
calls_same H x d no_call =
    places_snoc 0 (is_call_of d) H x ∙ (ap (λ b. calls_at H d ++ cond b ((0 + length H) ∷ []) []) no_call ∙ append-nil (calls_at H d))

calls_more : (H : List Event) (x : Event) (d : List ℕ) → is_call_of d x ≡ true → calls_at (H ++ x ∷ []) d ≡ calls_at H d ++ length H ∷ []
calls_more H x d is_one =
    places_snoc 0 (is_call_of d) H x ∙ (ap (λ b. calls_at H d ++ cond b ((0 + length H) ∷ []) []) is_one ∙ ap (λ k. calls_at H d ++ k ∷ []) (zero-add (length H)))

-- the lists that are kept name the calls of each document
abbrev pub Lists : List Event → List (List ℕ × ℕ) → List (List ℕ) → Type 0
Lists H ds ls = (k : ℕ) (e : List ℕ × ℕ) → slice_get ds k ≡ Some e → slice_get ls k ≡ Some (calls_at H e.0)

pub lists_still : (H : List Event) (x : Event) (ds : List (List ℕ × ℕ)) (ls : List (List ℕ)) → ((d : List ℕ) → is_call_of d x ≡ false) → Lists H ds ls
    → Lists (H ++ x ∷ []) ds ls
lists_still H x ds ls no_call lists k e at = lists k e at ∙ ap (λ is. Some is) (sym (calls_same H x e.0 (no_call e.0)))

pub lists_after : (H : List Event) (n h : ℕ) (d : List ℕ) (op : Op) (ds : List (List ℕ × ℕ)) (ls : List (List ℕ)) → length ls ≡ length ds → AreDistinct ds
    → (lookup (is_same d) ds ≡ None → calls_at H d ≡ []) → Lists H ds ls
    → (length (with_listed ds ls d (length H)) ≡ length (with_document ds d h)) × Lists (H ++ Call h n d op ∷ []) (with_document ds d h) (with_listed ds ls d (length H))
unfolding AreDistinct
lists_after H n h d op [] ls size distinct none lists = (refl, new) where
  new : (k : ℕ) (e : List ℕ × ℕ) → slice_get ((d, h) ∷ []) k ≡ Some e → slice_get ((length H ∷ []) ∷ []) k ≡ Some (calls_at (H ++ Call h n d op ∷ []) e.0)
  new zero e at =
      let same : (d, h) ≡ e = same_some (d, h) e at in
      let doc : d ≡ e.0 = ap (λ y. y.0) same in
      ap (λ is. Some is) (sym (subst (λ q. calls_at (H ++ Call h n d op ∷ []) q ≡ length H ∷ []) doc
      (calls_more H (Call h n d op) d ((bytes_decides d d).1 refl) ∙ ap (λ is. is ++ length H ∷ []) (none refl))))
  new (suc k) e at = absurd (none_is_not_some e at)
lists_after H n h d op (f ∷ fs) [] size distinct none lists = absurd (omega arith)
lists_after H n h d op (f ∷ fs) (l ∷ ls) size distinct none lists =
    by_test (is_same d f.0) refl (λ none. lists_after H n h d op fs ls (omega arith) distinct.1 none (λ k e at. lists (suc k) e at)) where
      first : l ≡ calls_at H f.0
      first = same_some l (calls_at H f.0) (lists 0 f refl)

      here_more : is_same d f.0 ≡ true → (k : ℕ) (e : List ℕ × ℕ) → slice_get (f ∷ fs) k ≡ Some e
          → slice_get ((l ++ length H ∷ []) ∷ ls) k ≡ Some (calls_at (H ++ Call h n d op ∷ []) e.0)
      here_more is zero e at =
          let same : f ≡ e = same_some f e at in
          ap (λ is. Some is) (ap (λ is. is ++ length H ∷ []) first
          ∙ (sym (calls_more H (Call h n d op) f.0 is) ∙ ap (λ g. calls_at (H ++ Call h n d op ∷ []) g.0) same))
      here_more is (suc k) e at =
          let doc : d ≡ f.0 = (bytes_decides d f.0).0 is in
          let other : is_same d e.0 ≡ false = subst (λ q. is_same q e.0 ≡ false) (sym doc) (other_of fs f.0 k e distinct.0 at) in
          lists (suc k) e at ∙ ap (λ is. Some is) (sym (calls_same H (Call h n d op) e.0 other))

      here_same : is_same d f.0 ≡ false
          → Lists (H ++ Call h n d op ∷ []) (with_document fs d h) (with_listed fs ls d (length H))
          → (k : ℕ) (e : List ℕ × ℕ) → slice_get (f ∷ with_document fs d h) k ≡ Some e
          → slice_get (l ∷ with_listed fs ls d (length H)) k ≡ Some (calls_at (H ++ Call h n d op ∷ []) e.0)
      here_same is later zero e at =
          let same : f ≡ e = same_some f e at in
          ap (λ is. Some is) (first ∙ (sym (calls_same H (Call h n d op) f.0 is) ∙ ap (λ g. calls_at (H ++ Call h n d op ∷ []) g.0) same))
      here_same is later (suc k) e at = later k e at

      by_test : (b : Bool) → is_same d f.0 ≡ b
          → ((lookup (is_same d) fs ≡ None → calls_at H d ≡ [])
          → (length (with_listed fs ls d (length H)) ≡ length (with_document fs d h)) × Lists (H ++ Call h n d op ∷ []) (with_document fs d h) (with_listed fs ls d (length H)))
          → (length (if b then (l ++ length H ∷ []) ∷ ls else l ∷ with_listed fs ls d (length H)) ≡ length (if b then f ∷ fs else f ∷ with_document fs d h))
          × ((k : ℕ) (e : List ℕ × ℕ) → slice_get (if b then f ∷ fs else f ∷ with_document fs d h) k ≡ Some e
          → slice_get (if b then (l ++ length H ∷ []) ∷ ls else l ∷ with_listed fs ls d (length H)) k ≡ Some (calls_at (H ++ Call h n d op ∷ []) e.0))
      by_test true is later = (size, here_more is)
      by_test false is later =
          let rest = later (λ missing. none (ap (λ b. cond b (Some f.1) (lookup (is_same d) fs)) is ∙ missing)) in
          (ap suc rest.0, here_same is rest.1)

-- ---- the endings of calls

pub endings_after_call : (H : List Event) (n h : ℕ) (d : List ℕ) (op : Op) (es : List (Option ℕ)) → IsHistory H → place_of (is_call n) H ≡ None → length es ≡ length H
    → ((i m : ℕ) → PassesAt (is_call m) H i → slice_get es i ≡ Some (place_of (is_ending m) H))
    → (i m : ℕ) → PassesAt (is_call m) (H ++ Call h n d op ∷ []) i → slice_get (es ++ None ∷ []) i ≡ Some (place_of (is_ending m) (H ++ Call h n d op ∷ []))
endings_after_call H n h d op es history fresh size found i m passes =
    elim (passes_snoc (is_call m) H (Call h n d op) i passes) as (λ _. slice_get (es ++ None ∷ []) i ≡ Some (place_of (is_ending m) (H ++ Call h n d op ∷ []))) [
      | inl old ↦ get_front es (None ∷ []) i (place_of (is_ending m) H) (found i m old) ∙ ap (λ o. Some o) (sym (stays (place_of (is_ending m) H) refl))
      | inr new ↦ (let number : n ≡ m = eqb-true n m new.1 in
          let here : i ≡ length es = new.0 ∙ sym size in
          ap (slice_get (es ++ None ∷ [])) here ∙ (get_last es None ∙ ap (λ o. Some o) (sym (nothing (place_of (is_ending m) H) refl number))))
    ] where
      stays : (o : Option ℕ) → place_of (is_ending m) H ≡ o → place_of (is_ending m) (H ++ Call h n d op ∷ []) ≡ place_of (is_ending m) H
      stays (Some j) is = place_of-front (is_ending m) H (Call h n d op ∷ []) j is ∙ sym is
      stays None is = place_of-last (is_ending m) H (Call h n d op) is ∙ sym is

      nothing : (o : Option ℕ) → place_of (is_ending m) H ≡ o → n ≡ m → place_of (is_ending m) (H ++ Call h n d op ∷ []) ≡ None
      nothing (Some j) is number =
          let call = history.ended_after_call m j (place_of-passes (is_ending m) H j is) in
          absurd (place_of-none (is_call n) H fresh call.0 (subst (λ k. PassesAt (is_call k) H call.0) (sym number) call.2))
      nothing None is number = place_of-last (is_ending m) H (Call h n d op) is

same_call : (H : List Event) (n m c : ℕ) → PassesAt (is_call n) H c → PassesAt (is_call m) H c → n ≡ m
same_call H n m c p q =
    let a = passes_element (is_call n) H c p in
    let b = passes_element (is_call m) H c q in
    by_event a.0 a.2 (subst (λ y. is_call m y ≡ true) (sym (same_some a.0 b.0 (sym a.1 ∙ b.1))) b.2) where
      by_event : (y : Event) → is_call n y ≡ true → is_call m y ≡ true → n ≡ m
      by_event (Call h k d op) x z = sym (eqb-true k n x) ∙ eqb-true k m z
      by_event (Reply k r) x z = absurd (cc)
      by_event (Lost k) x z = absurd (cc)

pub endings_after_ending : (H : List Event) (x : Event) (n c : ℕ) (es : List (Option ℕ)) → IsHistory H → PassesAt (is_call n) H c → place_of (is_ending n) H ≡ None
    → ((m : ℕ) → is_call m x ≡ false) → ((m : ℕ) → is_ending m x ≡ (n == m)) → length es ≡ length H
    → ((i m : ℕ) → PassesAt (is_call m) H i → slice_get es i ≡ Some (place_of (is_ending m) H))
    → (i m : ℕ) → PassesAt (is_call m) (H ++ x ∷ []) i → slice_get (slice_set es c (Some (length H)) ++ None ∷ []) i ≡ Some (place_of (is_ending m) (H ++ x ∷ []))
endings_after_ending H x n c es history call fresh no_call ends size found i m passes =
    elim (passes_snoc (is_call m) H x i passes) as (λ _. slice_get (slice_set es c (Some (length H)) ++ None ∷ []) i ≡ Some (place_of (is_ending m) (H ++ x ∷ []))) [
      | inl old ↦ by_number (n == m) refl old
      | inr new ↦ (let impossible : false ≡ true = sym (no_call m) ∙ new.1 in absurd (cc))
    ] where
      after : (o : Option ℕ) → place_of (is_ending m) H ≡ o → (n == m) ≡ false → place_of (is_ending m) (H ++ x ∷ []) ≡ place_of (is_ending m) H
      after (Some j) is other = place_of-front (is_ending m) H (x ∷ []) j is ∙ sym is
      after None is other = place_of-last (is_ending m) H x is ∙ (ap (λ b. if b then Some (length H) else None) (ends m ∙ other) ∙ sym is)

      by_number : (b : Bool) → (n == m) ≡ b → PassesAt (is_call m) H i → slice_get (slice_set es c (Some (length H)) ++ None ∷ []) i ≡ Some (place_of (is_ending m) (H ++ x ∷ []))
      by_number true same old =
          let number : n ≡ m = eqb-true n m same in
          let place : i ≡ c = history.called_once m i c old (subst (λ k. PassesAt (is_call k) H c) number call) in
          let within : c < length es = subst (λ k. c < k) (sym size) (passes_within (is_call n) H c call) in
          get_front (slice_set es c (Some (length H))) (None ∷ []) i (Some (length H)) (ap (slice_get (slice_set es c (Some (length H)))) place ∙ slice_get-set_same es c (Some (length H)) within)
          ∙ ap (λ o. Some o) (sym (place_of-last (is_ending m) H x (subst (λ k. place_of (is_ending k) H ≡ None) number fresh) ∙ ap (λ b. if b then Some (length H) else None) (ends m ∙ same)))
      by_number false other old =
          let apart : i ≡ c → ⊥ = λ place. (let number : n ≡ m = same_call H n m c call (subst (λ k. PassesAt (is_call m) H k) place old) in
          let equal : (n == m) ≡ true = eq-eqb n m number in let impossible : true ≡ false = sym equal ∙ other in cc) in
          get_front (slice_set es c (Some (length H))) (None ∷ []) i (place_of (is_ending m) H)
          (slice_get-set_other es c i (Some (length H)) apart ∙ found i m old)
          ∙ ap (λ o. Some o) (sym (after (place_of (is_ending m) H) refl other))

-- ---- the lists as the code changes them

pub first_position : {X : Type 0} (p : X → Bool) (x : X) (xs : List X) → p x ≡ true → position p (x ∷ xs) ≡ Some 0
first_position p x xs is =
    ap (λ b. cond (nat_lt (cond (not b) (1 + position_or_len p xs) 0) (suc (length xs))) (Some (cond (not b) (1 + position_or_len p xs) 0)) None) is
    ∙ ap (λ b. cond b (Some 0) None) (lt-ltb 0 (suc (length xs)) (omega arith))

pub later_position : {X : Type 0} (p : X → Bool) (x : X) (xs : List X) → p x ≡ false → position p (x ∷ xs) ≡ option_map suc (position p xs)
later_position p x xs is =
    ap (λ b. cond (nat_lt (cond (not b) (1 + position_or_len p xs) 0) (suc (length xs))) (Some (cond (not b) (1 + position_or_len p xs) 0)) None) is
    ∙ (ap (λ k. cond (nat_lt k (suc (length xs))) (Some k) None) (let same : 1 + position_or_len p xs ≡ suc (position_or_len p xs) = omega arith in same)
    ∙ by_order (position_or_len p xs) (length xs) (nat_lt (position_or_len p xs) (length xs)) refl) where
      by_order : (k n : ℕ) (b : Bool) → nat_lt k n ≡ b → cond (nat_lt (suc k) (suc n)) (Some (suc k)) None ≡ option_map suc (cond b (Some k) None)
      by_order k n true below =
          let less : k < n = ltb-true k n below in
          ap (λ b. cond b (Some (suc k)) None) (lt-ltb (suc k) (suc n) (omega arith))
      by_order k n false above =
          let more : n ≤ k = ltb-false k n above in
          ap (λ b. cond b (Some (suc k)) None) (le-ltb (suc k) (suc n) (omega arith))

-- the list of a document that is there grows
pub listed_at : (ds : List (List ℕ × ℕ)) (ls : List (List ℕ)) (d : List ℕ) (p k : ℕ) (l : List ℕ) → position (is_same d) (map (λ e. e.0) ds) ≡ Some k
    → slice_get ls k ≡ Some l → slice_set ls k (l ++ p ∷ []) ≡ with_listed ds ls d p
listed_at [] ls d p k l at here = absurd (none_is_not_some k at)
listed_at (e ∷ es) [] d p k l at here = absurd (none_is_not_some l here)
listed_at (e ∷ es) (m ∷ ms) d p k l at here = by_test (is_same d e.0) refl (λ j found got. listed_at es ms d p j l found got) where
  by_next : (o : Option ℕ) → position (is_same d) (map (λ f. f.0) es) ≡ o
      → ((j : ℕ) → position (is_same d) (map (λ f. f.0) es) ≡ Some j → slice_get ms j ≡ Some l → slice_set ms j (l ++ p ∷ []) ≡ with_listed es ms d p)
      → option_map suc o ≡ Some k → slice_set (m ∷ ms) k (l ++ p ∷ []) ≡ m ∷ with_listed es ms d p
  by_next None is later found = absurd (none_is_not_some k found)
  by_next (Some j) is later found =
      let same : suc j ≡ k = same_some (suc j) k found in
      subst (λ i. slice_set (m ∷ ms) i (l ++ p ∷ []) ≡ m ∷ with_listed es ms d p) same
      (ap (λ ks. m ∷ ks) (later j is (subst (λ i. slice_get (m ∷ ms) i ≡ Some l) (sym same) here)))

  by_test : (b : Bool) → is_same d e.0 ≡ b
      → ((j : ℕ) → position (is_same d) (map (λ f. f.0) es) ≡ Some j → slice_get ms j ≡ Some l → slice_set ms j (l ++ p ∷ []) ≡ with_listed es ms d p)
      → slice_set (m ∷ ms) k (l ++ p ∷ []) ≡ (if b then (m ++ p ∷ []) ∷ ms else m ∷ with_listed es ms d p)
  by_test true is later =
      let same : 0 ≡ k = same_some 0 k (sym (first_position (is_same d) e.0 (map (λ f. f.0) es) is) ∙ at) in
      let old : m ≡ l = same_some m l (subst (λ i. slice_get (m ∷ ms) i ≡ Some l) (sym same) here) in
      subst (λ i. slice_set (m ∷ ms) i (l ++ p ∷ []) ≡ (m ++ p ∷ []) ∷ ms) same (ap (λ is. (is ++ p ∷ []) ∷ ms) (sym old))
  by_test false is later =
      by_next (position (is_same d) (map (λ f. f.0) es)) refl later (sym (later_position (is_same d) e.0 (map (λ f. f.0) es) is) ∙ at)

-- a document that isn't there gets a list of its own
pub listed_new : (ds : List (List ℕ × ℕ)) (ls : List (List ℕ)) (d : List ℕ) (p : ℕ) → length ls ≡ length ds → is_some (lookup (is_same d) ds) ≡ false
    → ls ++ (p ∷ []) ∷ [] ≡ with_listed ds ls d p
listed_new [] [] d p size none = refl
listed_new [] (l ∷ ls) d p size none = absurd (omega arith)
listed_new (e ∷ es) [] d p size none = absurd (omega arith)
listed_new (e ∷ es) (l ∷ ls) d p size none = by_test (is_same d e.0) (λ missing. listed_new es ls d p (omega arith) missing) none where
  by_test : (b : Bool) → (is_some (lookup (is_same d) es) ≡ false → ls ++ (p ∷ []) ∷ [] ≡ with_listed es ls d p)
      → is_some (cond b (Some e.1) (lookup (is_same d) es)) ≡ false
      → l ∷ (ls ++ (p ∷ []) ∷ []) ≡ (if b then (l ++ p ∷ []) ∷ ls else l ∷ with_listed es ls d p)
  by_test true later none = absurd (cc)
  by_test false later none = ap (λ ks. l ∷ ks) (later none)
