-- The documents of a history, and the calls of each.
use Rattle.std.proofs.Common.{ℕ, suc, ◌≡◌, ◌<◌, List, [], ◌∷◌, length, refl, sym, ap, ◌∙◌, Option, Some, None, Bool, true, false, cond, ◌+◌, nat_lt}
use Rattle.std.specs.Prelude.{map, not, option_map, position, slice_get, if◌then◌else◌, is_some}
use Rattle.std.specs.Cmp.Lexicographic.{bytes_decides}
use Rattle.std.specs.List.{position_or_len}
use Rattle.std.specs.Map.{lookup}
use Rattle.std.proofs.lemmas.Option.{slice_get-map}
use Rattle.indexmap.proofs.MapLemmas.{Found-position, some_index}
use Rattle.indexmap.specs.IndexMap.{insert_entry}
use Rattle.events.specs.declared.event.Event.{Event}
use Rattle.events.specs.Events.{documents_of, is_same, with_document}

-- ---- ids

same_sym : (a b : List ℕ) → is_same a b ≡ is_same b a
same_sym a b = by_tests (is_same a b) refl (is_same b a) refl where
  by_tests : (p : Bool) → is_same a b ≡ p → (q : Bool) → is_same b a ≡ q → p ≡ q
  by_tests true e true f = refl
  by_tests false e false f = refl
  by_tests true e false f = sym ((bytes_decides b a).1 (sym ((bytes_decides a b).0 e))) ∙ f
  by_tests false e true f = sym e ∙ (bytes_decides a b).1 (sym ((bytes_decides b a).0 f))

-- ---- one more document

-- what a look-up finds among the documents with one more
pub lookup_with : (ds : List (List ℕ × ℕ)) (d : List ℕ) (h : ℕ) (q : List ℕ)
    → lookup (is_same q) (with_document ds d h) ≡ (if is_some (lookup (is_same q) ds) then lookup (is_same q) ds else (if is_same d q then Some h else None))
lookup_with [] d h q = ap (λ b. cond b (Some h) None) (same_sym q d)
lookup_with (e ∷ es) d h q = by_tests (is_same d e.0) refl (is_same q e.0) refl (lookup_with es d h q) where
  found : (o : Option ℕ) → (if is_some o then o else None) ≡ o
  found (Some s) = refl
  found None = refl

  by_tests : (a : Bool) → is_same d e.0 ≡ a → (b : Bool) → is_same q e.0 ≡ b
      → lookup (is_same q) (with_document es d h) ≡ (if is_some (lookup (is_same q) es) then lookup (is_same q) es else (if is_same d q then Some h else None))
      → lookup (is_same q) (if a then e ∷ es else e ∷ with_document es d h)
      ≡ (if is_some (cond b (Some e.1) (lookup (is_same q) es)) then cond b (Some e.1) (lookup (is_same q) es) else (if is_same d q then Some h else None))
  by_tests true p true r later = ap (λ b. cond b (Some e.1) (lookup (is_same q) es)) r
  by_tests true p false r later =
      let other : is_same d q ≡ false = same_sym d q ∙ (ap (is_same q) ((bytes_decides d e.0).0 p) ∙ r) in
      ap (λ b. cond b (Some e.1) (lookup (is_same q) es)) r
      ∙ sym (ap (λ b. if is_some (lookup (is_same q) es) then lookup (is_same q) es else (if b then Some h else None)) other ∙ found (lookup (is_same q) es))
  by_tests false p true r later = ap (λ b. cond b (Some e.1) (lookup (is_same q) (with_document es d h))) r
  by_tests false p false r later = ap (λ b. cond b (Some e.1) (lookup (is_same q) (with_document es d h))) r ∙ later

-- a document that is there stays where it is
pub with_known : (ds : List (List ℕ × ℕ)) (d : List ℕ) (h : ℕ) → is_some (lookup (is_same d) ds) ≡ true → with_document ds d h ≡ ds
with_known [] d h known = let impossible : false ≡ true = known in absurd (cc)
with_known (e ∷ es) d h known = by_test (is_same d e.0) known (with_known es d h) where
  by_test : (b : Bool) → is_some (cond b (Some e.1) (lookup (is_same d) es)) ≡ true
      → (is_some (lookup (is_same d) es) ≡ true → with_document es d h ≡ es) → (if b then e ∷ es else e ∷ with_document es d h) ≡ e ∷ es
  by_test true known later = refl
  by_test false known later = ap (λ fs. e ∷ fs) (later known)

-- a new document goes last, as the map puts it
pub with_new : (ds : List (List ℕ × ℕ)) (d : List ℕ) (h : ℕ) → is_some (lookup (is_same d) ds) ≡ false → insert_entry is_same ds d h ≡ with_document ds d h
with_new [] d h new = refl
with_new (e ∷ es) d h new = by_test (is_same d e.0) new (with_new es d h) where
  by_test : (b : Bool) → is_some (cond b (Some e.1) (lookup (is_same d) es)) ≡ false
      → (is_some (lookup (is_same d) es) ≡ false → insert_entry is_same es d h ≡ with_document es d h)
      → (if b then (e.0, h) ∷ es else e ∷ insert_entry is_same es d h) ≡ (if b then e ∷ es else e ∷ with_document es d h)
  by_test true new later = let impossible : true ≡ false = new in absurd (cc)
  by_test false new later = ap (λ fs. e ∷ fs) (later new)

-- ---- the documents of calls

-- a document's place among the ids is its place among the documents
ids_before : (test : List ℕ → Bool) (ds : List (List ℕ × ℕ)) → position_or_len test (map (λ d. d.0) ds) ≡ position_or_len (λ d. test d.0) ds
ids_before test [] = refl
ids_before test (d ∷ ds) = ap (λ k. cond (not (test d.0)) (1 + k) 0) (ids_before test ds)

count_of_ids : (ds : List (List ℕ × ℕ)) → length (map (λ d. d.0) ds) ≡ length ds
count_of_ids [] = refl
count_of_ids (d ∷ ds) = ap suc (count_of_ids ds)

pub position_of_id : (test : List ℕ → Bool) (ds : List (List ℕ × ℕ)) → position test (map (λ d. d.0) ds) ≡ position (λ d. test d.0) ds
position_of_id test ds =
    ap (λ k. cond (nat_lt k (length (map (λ d. d.0) ds))) (Some k) None) (ids_before test ds)
    ∙ ap (λ n. cond (nat_lt (position_or_len (λ d. test d.0) ds) n) (Some (position_or_len (λ d. test d.0) ds)) None) (count_of_ids ds)

-- a document that stands there, or nowhere
module _ (d : List ℕ) (ds : List (List ℕ × ℕ)) where
  pub is_known : (o : Option ℕ) → o ≡ position (λ e. is_same d e.0) ds → is_some o ≡ is_some (lookup (is_same d) ds)
  is_known o here = ap is_some (here ∙ sym (position_of_id (is_same d) ds)) ∙ some_index (is_same d) ds

  pub known_place : (i : ℕ) → Some i ≡ position (λ e. is_same d e.0) ds → (i < length ds) × (lookup (is_same d) ds ≡ option_map (λ e. e.1) (slice_get ds i))
  known_place i here =
      let found = Found-position (is_same d) ds i (position_of_id (is_same d) ds ∙ sym here) in
      (found.within, found.value ∙ slice_get-map (λ (e : List ℕ × ℕ). e.1) ds i)

-- a document that isn't there has no shard
pub not_there : (o : Option ℕ) → is_some o ≡ false → None ≡ o
not_there None h = refl
not_there (Some n) h = absurd (cc)

-- where the document stands among those of the events, it stands among those that are kept
pub stands_among : (doc : Option ℕ) (d : List ℕ) (H E : List Event) (ds : List (List ℕ × ℕ)) → doc ≡ position (λ e. is_same d e.0) (documents_of H) → E ≡ H → ds ≡ documents_of E
    → doc ≡ position (λ e. is_same d e.0) ds
stands_among doc d H E ds stands view order =
    stands ∙ (ap (λ F. position (λ e. is_same d e.0) (documents_of F)) (sym view) ∙ ap (position (λ e. is_same d e.0)) (sym order))
