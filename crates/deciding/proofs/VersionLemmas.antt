-- What replies say of the pairs, as the code keeps it.
use Rattle.std.proofs.Common.{ℕ, zero, suc, ◌≡◌, ◌<◌, ◌≤◌, ◌⊎◌, ◌==◌, inl, inr, List, [], ◌∷◌, length, drop, refl, sym, ap, subst, ◌∙◌, arith, Bool, true, false, cond, true≢false, Option, Some, None, slice_get}
use Rattle.std.specs.Prelude.{◌↔◌, set, replicate}
use Rattle.std.proofs.lemmas.Bool.{and_from, and_parts, eq-eqb, eqb-true, false_from_ne_true}
use Rattle.std.proofs.lemmas.Option.{slice_get_within}
use Rattle.version_pair.specs.declared.pair.Pair.{Pair}
use Rattle.version_pair.specs.PairOrder.{IsBelow}
use Rattle.version_pair.proofs.PairLemmas.{same_pair}
use Rattle.doc_register.specs.Register.{pair_of_reply}
use Rattle.doc_register.specs.Run.{pair_taken}
use Rattle.doc_register.specs.declared.reply.Reply.{Reply}
use Rattle.doc_register.specs.declared.reply.Reply.TheVariants.{Indexed, Deleted, Found, Missing, Conflict}
use Rattle.doc_register.proofs.RunLemmas.{not_below_itself}
use Rattle.events.specs.declared.record.Rec.{Rec}
use Rattle.events.specs.Heard.{pair_of}
use Rattle.version_pair.proofs.ListLemmas.{none_is_not_some, same_some, slice_get-set_other, slice_get-set_same}
use Rattle.deciding.specs.declared.version.FoundNumbers.{FoundNumbers}
use Rattle.deciding.specs.declared.version.FoundNumbers.TheVariants.{Unseen, One, Several}
use Rattle.deciding.specs.declared.version.Version.{Version}
use Rattle.deciding.specs.Reported.{IsFoundWith, IsKnown, IsListed, IsReportedOf, known_pairs, pair_shown}
use Rattle.deciding.specs.Positions.{count_below, is_below}
use Rattle.deciding.specs.aids.Versions.{AreNumbers, AreNumbersFound, AreVersions, IsNoted, numbers_with, shows, unreported, version_heard, version_reported, version_with}
use Rattle.deciding.proofs.Counts.{count_at_most, count_passes, counted_here, counted_less, pair_order, shown_known, tested_below}

-- ---- the pair that is shown

pub shows_it : (q p : Pair) → q ≡ p → shows (Some q) p ≡ true
shows_it q p same = and_from (q.term == p.term) (q.seq == p.seq) (eq-eqb q.term p.term (ap (λ (x : Pair). x.term) same)) (eq-eqb q.seq p.seq (ap (λ (x : Pair). x.seq) same))

pub shown_is : (q p : Pair) → shows (Some q) p ≡ true → q ≡ p
shown_is q p is =
    let parts = and_parts (q.term == p.term) (q.seq == p.seq) is in
    same_pair q p (eqb-true q.term p.term parts.0) (eqb-true q.seq p.seq parts.1)

shown_pair : (o : Option Pair) (p : Pair) → shows o p ≡ true → o ≡ Some p
shown_pair None p is = absurd (true≢false (sym is))
shown_pair (Some q) p is = ap (λ v. Some v) (shown_is q p is)

-- the pair that a reply takes is the one that it shows
taken_shown : (reply : Reply) (p : Pair) → pair_taken reply None ≡ Some p → pair_of_reply reply ≡ Some p
taken_shown (Indexed q created) p is = is
taken_shown (Deleted q found) p is = is
taken_shown (Found q k) p is = absurd (none_is_not_some p is)
taken_shown Missing p is = absurd (none_is_not_some p is)
taken_shown Conflict p is = absurd (none_is_not_some p is)

shows_other : (q p : Pair) → ((q ≡ p) → ⊥) → shows (Some q) p ≡ false
shows_other q p other = false_from_ne_true (shows (Some q) p) (λ is. other (shown_is q p is))

-- ---- a reply is noted

-- known pairs with as many known pairs below are one
pub same_count : (records : List Rec) (p q : Pair) → IsKnown records p → IsKnown records q → count_below (known_pairs records) p ≡ count_below (known_pairs records) q → p ≡ q
same_count records p q known too same = by_order (pair_order p q) where
  by_order : IsBelow p q ⊎ ((p ≡ q) ⊎ IsBelow q p) → p ≡ q
  by_order (inl below) = let less : count_below (known_pairs records) p < count_below (known_pairs records) q = count_passes (known_pairs records) known.0 p q known.1 below in absurd (omega arith)
  by_order (inr (inl is)) = is
  by_order (inr (inr below)) = let less : count_below (known_pairs records) q < count_below (known_pairs records) p = count_passes (known_pairs records) too.0 q p too.1 below in absurd (omega arith)

-- what is said of a pair that is not shown stays
stays : (x : Version) (p q : Pair) (h : ℕ × Reply) → pair_of_reply h.1 ≡ Some q → ((q ≡ p) → ⊥) → version_heard x p (Some h) ≡ x
stays x p q h is other = ap (λ o. cond (shows o p) (version_with x h.1) x) is ∙ ap (λ b. cond b (version_with x h.1) x) (shows_other q p other)

gains : (x : Version) (p q : Pair) (h : ℕ × Reply) → pair_of_reply h.1 ≡ Some q → q ≡ p → version_heard x p (Some h) ≡ version_with x h.1
gains x p q h is same = ap (λ o. cond (shows o p) (version_with x h.1) x) is ∙ ap (λ b. cond b (version_with x h.1) x) (shows_it q p same)

pub noted_past : (records : List Rec) (h : ℕ × Reply) (q : Pair) (versions : List Version) → pair_of_reply h.1 ≡ Some q → length versions ≤ count_below (known_pairs records) q → IsNoted records (Some h) versions versions
noted_past records h q versions is past shown = λ p x known at. at ∙ ap (λ y. Some y) (sym (stays x p q h is (apart p x at))) where
  apart : (p : Pair) (x : Version) → slice_get versions (count_below (known_pairs records) p) ≡ Some x → (q ≡ p) → ⊥
  apart p x at same =
      let inside : count_below (known_pairs records) p < length versions = slice_get_within versions (count_below (known_pairs records) p) x at in
      let count : count_below (known_pairs records) q ≡ count_below (known_pairs records) p = ap (count_below (known_pairs records)) same in
      omega arith

pub noted_there : (records : List Rec) (h : ℕ × Reply) (q : Pair) (old : List Version) (place : ℕ) (y : Version) → pair_of_reply h.1 ≡ Some q → place ≡ count_below (known_pairs records) q
    → slice_get old place ≡ Some y → IsNoted records (Some h) old (set old place (version_with y h.1))
noted_there records h q old place y is count at shown = λ p x known there. by_pair p x known there (pair_order q p) where
  here : (p : Pair) (x : Version) → slice_get old (count_below (known_pairs records) p) ≡ Some x → q ≡ p → slice_get (set old place (version_with y h.1)) (count_below (known_pairs records) p) ≡ Some (version_heard x p (Some h))
  here p x there same =
      let place_is : count_below (known_pairs records) p ≡ place = ap (count_below (known_pairs records)) (sym same) ∙ sym count in
      let one : y ≡ x = same_some y x (sym at ∙ (ap (slice_get old) (sym place_is) ∙ there)) in
      ap (slice_get (set old place (version_with y h.1))) place_is ∙ (slice_get-set_same old place (version_with y h.1) (slice_get_within old place y at)
      ∙ ap (λ v. Some v) (ap (λ v. version_with v h.1) one ∙ sym (gains x p q h is same)))

  away : (p : Pair) (x : Version) → IsKnown records p → slice_get old (count_below (known_pairs records) p) ≡ Some x → ((q ≡ p) → ⊥) → slice_get (set old place (version_with y h.1)) (count_below (known_pairs records) p) ≡ Some (version_heard x p (Some h))
  away p x known there other =
      slice_get-set_other old place (count_below (known_pairs records) p) (version_with y h.1) (λ same. other (sym (same_count records p q known (shown q is) (same ∙ count))))
      ∙ (there ∙ ap (λ v. Some v) (sym (stays x p q h is other)))

  by_pair : (p : Pair) (x : Version) → IsKnown records p → slice_get old (count_below (known_pairs records) p) ≡ Some x → IsBelow q p ⊎ ((q ≡ p) ⊎ IsBelow p q)
      → slice_get (set old place (version_with y h.1)) (count_below (known_pairs records) p) ≡ Some (version_heard x p (Some h))
  by_pair p x known there (inr (inl same)) = here p x there same
  by_pair p x known there (inl below) = away p x known there (λ same. not_below_itself p (subst (λ v. IsBelow v p) same below))
  by_pair p x known there (inr (inr above)) = away p x known there (λ same. not_below_itself p (subst (IsBelow p) same above))

-- ---- the versions of all calls

-- the number of known pairs below a known pair is the number of one of them
pub count_inside : (records : List Rec) (p : Pair) → IsKnown records p → count_below (known_pairs records) p < length (known_pairs records)
count_inside records p known = inside (known_pairs records) known.0 known.1 where
  inside : (vs : List Pair) (i : ℕ) → slice_get vs i ≡ Some p → count_below vs p < length vs
  inside [] i at = absurd (none_is_not_some p at)
  inside (v ∷ vs) zero at =
      counted_here (is_below v p) true (count_below vs p) (length vs) (false_from_ne_true (is_below v p) (λ is. not_below_itself p (subst (λ x. IsBelow x p) (same_some v p at) (tested_below v p is)))) refl (count_at_most vs p)
  inside (v ∷ vs) (suc i) at = counted_less (is_below v p) true (count_below vs p) (length vs) (λ _. refl) (inside vs i at)

-- what a call of the records shows is known
pub shown_by : (records : List Rec) (i : ℕ) (call : Rec) → slice_get records i ≡ Some call → (q : Pair) → pair_shown call.heard ≡ Some q → IsKnown records q
shown_by records i call at q is = shown_known records q (record { call = call; listed = (i, at); shows = inl is })

-- so many calls of the records were noted
abbrev pub AreNoted : List Rec → ℕ → List Version → Type 0
AreNoted records i versions = (p : Pair) → IsKnown records p
    → (x : Version) × (slice_get versions (count_below (known_pairs records) p) ≡ Some x) × (version_reported x p (drop i records) ≡ version_reported unreported p records)

pub get_replicate : {X : Type 0} (n i : ℕ) (x : X) → i < n → slice_get (replicate n x) i ≡ Some x
get_replicate zero i x within = absurd (omega arith)
get_replicate (suc n) zero x within = refl
get_replicate (suc n) (suc i) x within = get_replicate n i x (omega arith)

pub noted_first : (records : List Rec) (n : ℕ) → n ≡ length (known_pairs records) → AreNoted records 0 (replicate n unreported)
noted_first records n is p known =
    let inside : count_below (known_pairs records) p < length (known_pairs records) = count_inside records p known in
    (unreported, get_replicate n (count_below (known_pairs records) p) unreported (omega arith), refl)

pub noted_more : (records : List Rec) (i : ℕ) (call : Rec) (old new : List Version) → slice_get records i ≡ Some call → ((q : Pair) → pair_shown call.heard ≡ Some q → IsKnown records q)
    → IsNoted records call.heard old new → AreNoted records i old → AreNoted records (suc i) new
noted_more records i call old new at shown noted are p known =
    let x = (are p known).0 in
    (version_heard x p call.heard, noted shown p x known (are p known).1, sym (ap (version_reported x p) (drop_at records i call at)) ∙ (are p known).2) where
      drop_at : (xs : List Rec) (j : ℕ) (x : Rec) → slice_get xs j ≡ Some x → drop j xs ≡ x ∷ drop (suc j) xs
      drop_at [] j x is = absurd (none_is_not_some x is)
      drop_at (y ∷ xs) zero x is = ap (λ v. v ∷ xs) (same_some y x is)
      drop_at (y ∷ xs) (suc j) x is = drop_at xs j x is

pub noted_all : (records : List Rec) (versions : List Version) → AreNoted records (length records) versions → AreVersions records versions
noted_all records versions are p known =
    (are p known).1 ∙ ap (λ v. Some v) (sym (ap (version_reported (are p known).0 p) (drop_all records)) ∙ (are p known).2) where
      drop_all : (xs : List Rec) → drop (length xs) xs ≡ []
      drop_all [] = refl
      drop_all (x ∷ xs) = drop_all xs

-- ---- whether a reply says which call took the pair

-- one more reply
reported_with : (x : Version) (reply : Reply) (p : Pair) → pair_of_reply reply ≡ Some p → ((version_with x reply).reported ≡ true) ↔ ((x.reported ≡ true) ⊎ (pair_taken reply None ≡ Some p))
reported_with x (Indexed q created) p shows = (λ is. inr shows, λ is. refl)
reported_with x (Deleted q found) p shows = (λ is. inr shows, λ is. refl)
reported_with x (Found q k) p shows = (λ is. inl is, by_case) where
  by_case : (x.reported ≡ true) ⊎ (None ≡ Some p) → x.reported ≡ true
  by_case (inl is) = is
  by_case (inr is) = absurd (none_is_not_some p is)
reported_with x Missing p shows = absurd (none_is_not_some p shows)
reported_with x Conflict p shows = absurd (none_is_not_some p shows)

-- what was heard of one more call
reported_heard : (x : Version) (p : Pair) (heard : Option (ℕ × Reply)) → ((version_heard x p heard).reported ≡ true) ↔ ((x.reported ≡ true) ⊎ (pair_of heard ≡ Some p))
reported_heard x p None = (λ is. inl is, by_case) where
  by_case : (x.reported ≡ true) ⊎ (None ≡ Some p) → x.reported ≡ true
  by_case (inl is) = is
  by_case (inr is) = absurd (none_is_not_some p is)
reported_heard x p (Some h) = by_test (shows (pair_of_reply h.1) p) refl where
  by_test : (b : Bool) → shows (pair_of_reply h.1) p ≡ b → ((cond b (version_with x h.1) x).reported ≡ true) ↔ ((x.reported ≡ true) ⊎ (pair_of (Some h) ≡ Some p))
  by_test true is = reported_with x h.1 p (shown_pair (pair_of_reply h.1) p is)
  by_test false is = (λ t. inl t, by_case) where
    by_case : (x.reported ≡ true) ⊎ (pair_of (Some h) ≡ Some p) → x.reported ≡ true
    by_case (inl t) = t
    by_case (inr taken) = absurd (true≢false (sym (ap (λ o. shows o p) (taken_shown h.1 p taken) ∙ shows_it p p refl) ∙ is))

listed_more : (r : Rec) (rs : List Rec) (c : Rec) → IsListed (r ∷ rs) c → (r ≡ c) ⊎ IsListed rs c
listed_more r rs c (zero, at) = inl (same_some r c at)
listed_more r rs c (suc i, at) = inr (i, at)

-- what was heard of all calls
reported_is : (records : List Rec) (p : Pair) (x : Version) → ((version_reported x p records).reported ≡ true) ↔ ((x.reported ≡ true) ⊎ IsReportedOf records p)
reported_is [] p x = (λ is. inl is, by_case) where
  by_case : (x.reported ≡ true) ⊎ IsReportedOf [] p → x.reported ≡ true
  by_case (inl is) = is
  by_case (inr (r, listed, is)) = absurd (none_is_not_some r listed.1)
reported_is (r ∷ rs) p x = (λ is. forth ((reported_is rs p (version_heard x p r.heard)).0 is), λ o. (reported_is rs p (version_heard x p r.heard)).1 (back o)) where
  here : (x.reported ≡ true) ⊎ (pair_of r.heard ≡ Some p) → (x.reported ≡ true) ⊎ IsReportedOf (r ∷ rs) p
  here (inl is) = inl is
  here (inr is) = inr (r, (0, refl), is)

  forth : ((version_heard x p r.heard).reported ≡ true) ⊎ IsReportedOf rs p → (x.reported ≡ true) ⊎ IsReportedOf (r ∷ rs) p
  forth (inl is) = here ((reported_heard x p r.heard).0 is)
  forth (inr (c, listed, is)) = inr (c, (suc listed.0, listed.1), is)

  by_place : (c : Rec) → pair_of c.heard ≡ Some p → (r ≡ c) ⊎ IsListed rs c → ((version_heard x p r.heard).reported ≡ true) ⊎ IsReportedOf rs p
  by_place c is (inl same) = inl ((reported_heard x p r.heard).1 (inr (ap (λ (v : Rec). pair_of v.heard) same ∙ is)))
  by_place c is (inr listed) = inr (c, listed, is)

  back : (x.reported ≡ true) ⊎ IsReportedOf (r ∷ rs) p → ((version_heard x p r.heard).reported ≡ true) ⊎ IsReportedOf rs p
  back (inl is) = inl ((reported_heard x p r.heard).1 (inl is))
  back (inr (c, listed, is)) = by_place c is (listed_more r rs c listed)

pub reported_version : (records : List Rec) (p : Pair) → ((version_reported unreported p records).reported ≡ true) ↔ IsReportedOf records p
reported_version records p = (λ is. by_case ((reported_is records p unreported).0 is), λ t. (reported_is records p unreported).1 (inr t)) where
  by_case : (false ≡ true) ⊎ IsReportedOf records p → IsReportedOf records p
  by_case (inl never) = absurd (true≢false (sym never))
  by_case (inr t) = t

-- ---- the numbers that gets found with the pair

-- F and G hold for the same numbers
numbers_same : (F G : ℕ → Type 0) (x : FoundNumbers) → ((n : ℕ) → F n ↔ G n) → AreNumbers F x → AreNumbers G x
numbers_same F G Unseen same are = λ n g. are n ((same n).1 g)
numbers_same F G (One k) same are = ((same k).0 are.0, λ n g. are.1 n ((same n).1 g))
numbers_same F G Several same are = λ k all. are k (λ n f. all n ((same n).0 f))

-- G holds for none
numbers_stay : (F G : ℕ → Type 0) (x : FoundNumbers) → ((n : ℕ) → ¬ G n) → AreNumbers F x → AreNumbers (λ n. F n ⊎ G n) x
numbers_stay F G x none are = numbers_same F (λ n. F n ⊎ G n) x (λ n. (λ f. inl f, by_case n)) are where
  by_case : (n : ℕ) → F n ⊎ G n → F n
  by_case n (inl f) = f
  by_case n (inr g) = absurd (none n g)

-- one more number
numbers_more : (F : ℕ → Type 0) (x : FoundNumbers) (m : ℕ) → AreNumbers F x → AreNumbers (λ n. F n ⊎ (n ≡ m)) (numbers_with x m)
numbers_more F Unseen m are = (inr refl, by_case) where
  by_case : (n : ℕ) → F n ⊎ (n ≡ m) → n ≡ m
  by_case n (inl f) = absurd (are n f)
  by_case n (inr is) = is
numbers_more F (One k) m are = by_test (k == m) refl where
  by_test : (b : Bool) → (k == m) ≡ b → AreNumbers (λ n. F n ⊎ (n ≡ m)) (cond b (One k) Several)
  by_test true is = (inl are.0, by_case) where
    by_case : (n : ℕ) → F n ⊎ (n ≡ m) → n ≡ k
    by_case n (inl f) = are.1 n f
    by_case n (inr more) = more ∙ sym (eqb-true k m is)
  by_test false is = λ j all. true≢false (sym (eq-eqb k m (all k (inl are.0) ∙ sym (all m (inr refl)))) ∙ is)
numbers_more F Several m are = λ k all. are k (λ n f. all n (inl f))

-- one more reply
numbers_after : (F : ℕ → Type 0) (x : Version) (reply : Reply) (p : Pair) → pair_of_reply reply ≡ Some p → AreNumbers F x.numbers → AreNumbers (λ n. F n ⊎ (reply ≡ Found p n)) (version_with x reply).numbers
numbers_after F x (Indexed q created) p shows are = numbers_stay F (λ n. Indexed q created ≡ Found p n) x.numbers (λ n other. absurd (cc)) are
numbers_after F x (Deleted q found) p shows are = numbers_stay F (λ n. Deleted q found ≡ Found p n) x.numbers (λ n other. absurd (cc)) are
numbers_after F x (Found q m) p shows are = numbers_same (λ n. F n ⊎ (n ≡ m)) (λ n. F n ⊎ (Found q m ≡ Found p n)) (numbers_with x.numbers m) (λ n. (to n, back n)) (numbers_more F x.numbers m are) where
  to : (n : ℕ) → F n ⊎ (n ≡ m) → F n ⊎ (Found q m ≡ Found p n)
  to n (inl f) = inl f
  to n (inr is) = inr (ap (λ v. Found v m) (same_some q p shows) ∙ ap (λ k. Found p k) (sym is))

  number_of : (n : ℕ) → Found q m ≡ Found p n → n ≡ m
  number_of n is = cc

  back : (n : ℕ) → F n ⊎ (Found q m ≡ Found p n) → F n ⊎ (n ≡ m)
  back n (inl f) = inl f
  back n (inr is) = inr (number_of n is)
numbers_after F x Missing p shows are = absurd (none_is_not_some p shows)
numbers_after F x Conflict p shows are = absurd (none_is_not_some p shows)

-- a get that found the number with the pair was heard
abbrev FoundHeard : Option (ℕ × Reply) → Pair → ℕ → Type 0
FoundHeard heard p n = (y : ℕ) × (heard ≡ Some (y, Found p n))

-- what was heard of one more call
numbers_heard : (F : ℕ → Type 0) (x : Version) (p : Pair) (heard : Option (ℕ × Reply)) → AreNumbers F x.numbers → AreNumbers (λ n. F n ⊎ FoundHeard heard p n) (version_heard x p heard).numbers
numbers_heard F x p None are = numbers_stay F (λ n. FoundHeard None p n) x.numbers (λ n is. none_is_not_some (is.0, Found p n) is.1) are
numbers_heard F x p (Some h) are = by_test (shows (pair_of_reply h.1) p) refl where
  reply_is : (n : ℕ) → FoundHeard (Some h) p n → h.1 ≡ Found p n
  reply_is n is = ap (λ (v : ℕ × Reply). v.1) (same_some h (is.0, Found p n) is.1)

  to : (n : ℕ) → F n ⊎ (h.1 ≡ Found p n) → F n ⊎ FoundHeard (Some h) p n
  to n (inl f) = inl f
  to n (inr is) = inr (h.0, ap (λ r. Some (h.0, r)) is)

  back : (n : ℕ) → F n ⊎ FoundHeard (Some h) p n → F n ⊎ (h.1 ≡ Found p n)
  back n (inl f) = inl f
  back n (inr is) = inr (reply_is n is)

  by_test : (b : Bool) → shows (pair_of_reply h.1) p ≡ b → AreNumbers (λ n. F n ⊎ FoundHeard (Some h) p n) (cond b (version_with x h.1) x).numbers
  by_test true is = numbers_same (λ n. F n ⊎ (h.1 ≡ Found p n)) (λ n. F n ⊎ FoundHeard (Some h) p n) (version_with x h.1).numbers (λ n. (to n, back n)) (numbers_after F x h.1 p (shown_pair (pair_of_reply h.1) p is) are)
  by_test false is = numbers_stay F (λ n. FoundHeard (Some h) p n) x.numbers (λ n f. true≢false (sym (ap (λ r. shows (pair_of_reply r) p) (reply_is n f) ∙ shows_it p p refl) ∙ is)) are

-- what was heard of all calls
numbers_are : (records : List Rec) (p : Pair) (F : ℕ → Type 0) (x : Version) → AreNumbers F x.numbers → AreNumbers (λ n. F n ⊎ IsFoundWith records p n) (version_reported x p records).numbers
numbers_are [] p F x are = numbers_stay F (λ n. IsFoundWith [] p n) x.numbers (λ n f. none_is_not_some f.call f.listed.1) are
numbers_are (r ∷ rs) p F x are =
    numbers_same (λ n. (F n ⊎ FoundHeard r.heard p n) ⊎ IsFoundWith rs p n) (λ n. F n ⊎ IsFoundWith (r ∷ rs) p n) (version_reported (version_heard x p r.heard) p rs).numbers (λ n. (to n, back n))
    (numbers_are rs p (λ n. F n ⊎ FoundHeard r.heard p n) (version_heard x p r.heard) (numbers_heard F x p r.heard are)) where
      to : (n : ℕ) → (F n ⊎ FoundHeard r.heard p n) ⊎ IsFoundWith rs p n → F n ⊎ IsFoundWith (r ∷ rs) p n
      to n (inl (inl f)) = inl f
      to n (inl (inr is)) = inr (record { call = r; listed = (0, refl); replied = is.0; heard = is.1 })
      to n (inr f) = inr (record { call = f.call; listed = (suc f.listed.0, f.listed.1); replied = f.replied; heard = f.heard })

      by_place : (n : ℕ) (f : IsFoundWith (r ∷ rs) p n) → (r ≡ f.call) ⊎ IsListed rs f.call → (F n ⊎ FoundHeard r.heard p n) ⊎ IsFoundWith rs p n
      by_place n f (inl same) = inl (inr (f.replied, ap (λ (v : Rec). v.heard) same ∙ f.heard))
      by_place n f (inr listed) = inr (record { call = f.call; listed = listed; replied = f.replied; heard = f.heard })

      back : (n : ℕ) → F n ⊎ IsFoundWith (r ∷ rs) p n → (F n ⊎ FoundHeard r.heard p n) ⊎ IsFoundWith rs p n
      back n (inl f) = inl (inl f)
      back n (inr f) = by_place n f (listed_more r rs f.call f.listed)

pub numbers_version : (records : List Rec) (p : Pair) → AreNumbersFound records p (version_reported unreported p records).numbers
numbers_version records p = numbers_same (λ n. ⊥ ⊎ IsFoundWith records p n) (IsFoundWith records p) (version_reported unreported p records).numbers (λ n. (by_case n, λ f. inr f)) (numbers_are records p (λ n. ⊥) unreported (λ n never. never)) where
  by_case : (n : ℕ) → ⊥ ⊎ IsFoundWith records p n → IsFoundWith records p n
  by_case n (inl never) = absurd never
  by_case n (inr f) = f

-- ---- pairs that no reply shows

unheard : (x : Version) (p : Pair) (heard : Option (ℕ × Reply)) → (pair_shown heard ≡ Some p → ⊥) → version_heard x p heard ≡ x
unheard x p None not = refl
unheard x p (Some h) not = ap (λ b. cond b (version_with x h.1) x) (false_from_ne_true (shows (pair_of_reply h.1) p) (λ is. not (shown_pair (pair_of_reply h.1) p is)))

unheard_all : (records : List Rec) (p : Pair) (x : Version) → ((r : Rec) → IsListed records r → pair_shown r.heard ≡ Some p → ⊥) → version_reported x p records ≡ x
unheard_all [] p x none = refl
unheard_all (r ∷ rs) p x none = ap (λ y. version_reported y p rs) (unheard x p r.heard (none r (0, refl))) ∙ unheard_all rs p x (λ c listed. none c (suc listed.0, listed.1))

-- no reply says anything of an unknown pair
pub version_unknown : (records : List Rec) (p : Pair) → ¬ IsKnown records p → version_reported unreported p records ≡ unreported
version_unknown records p unknown = unheard_all records p unreported (λ r listed is. unknown (shown_by records listed.0 r listed.1 p is))
