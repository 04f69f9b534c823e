-- The chain: its pairs, its records, and that a valid order performs just its writes, one after another.
use Rattle.std.proofs.Common.{ℕ, zero, suc, ◌≡◌, ◌<◌, ◌+◌, ◌-◌, ◌⊎◌, inl, inr, List, [], ◌∷◌, length, refl, sym, ap, subst, ◌∙◌, arith, false, Option, Some, None, slice_get, Ordering}
use Rattle.std.specs.Cmp.{IsTotalOrder}
use Rattle.std.specs.Ordering.{nat_cmp, ordering_then, is_lt}
use Rattle.std.proofs.lemmas.Cmp.{nat_cmp_total, on_total, ranked, then_total}
use Rattle.version_pair.specs.declared.pair.Pair.{Pair}
use Rattle.version_pair.specs.PairOrder.{IsBelow}
use Rattle.events.specs.declared.record.Rec.{Rec}
use Rattle.std.specs.declared.cmp.Ordering.TheVariants.{Less, Equal, Greater}
use Rattle.std.proofs.lemmas.Bool.{true≢false}
use Rattle.std.proofs.lemmas.Option.{slice_get_within}
use Rattle.version_pair.proofs.ListLemmas.{compare, get_within, none_is_not_some, same_some}
use Rattle.write_chain.specs.Chain.{IsChain, Rises, by_pair, link_at, pair_cmp, performed_records}
use Rattle.events.specs.Heard.{pair_of}
use Rattle.version_pair.proofs.SortedLists.{Has, KeyOnce, KeyRises, not_below_then, once_moved, same_rising, sorted_at}
use Rattle.doc_register.proofs.RunLemmas.{below_trans, not_both_below}

abbrev Link : Type 0
Link = Pair × ℕ

-- ---- the performed records

-- a performed record's link stands among them
pub performed_has : (rs : List Rec) (k i : ℕ) (r : Rec) (q : Pair) → slice_get rs i ≡ Some r → pair_of r.heard ≡ Some q → Has (performed_records k rs) (q, k + i)
performed_has [] k i r q at is = absurd (none_is_not_some r at)
performed_has (s ∷ rs) k zero r q at is =
    subst (λ o. Has (link_at k o (performed_records (suc k) rs)) (q, k + 0)) (sym (ap (λ t. pair_of t.heard) (same_some s r at) ∙ is))
    (0, ap (λ n. Some (q, n)) (let e : k ≡ k + 0 = omega arith in e))
performed_has (s ∷ rs) k (suc i) r q at is = by_pair_of (pair_of s.heard) (performed_has rs (suc k) i r q at is) where
  by_pair_of : (o : Option Pair) → Has (performed_records (suc k) rs) (q, suc k + i) → Has (link_at k o (performed_records (suc k) rs)) (q, k + suc i)
  by_pair_of None has = (has.0, has.1 ∙ ap (λ n. Some (q, n)) (let e : suc k + i ≡ k + suc i = omega arith in e))
  by_pair_of (Some p) has = (suc has.0, has.1 ∙ ap (λ n. Some (q, n)) (let e : suc k + i ≡ k + suc i = omega arith in e))

-- the record of a link
pub record IsLinkOf (rs : List Rec) (k : ℕ) (c : Pair × ℕ) : Type 0 where
  pub from : ℕ
  pub record_of : Rec
  pub number : c.1 ≡ k + from
  pub at : slice_get rs from ≡ Some record_of
  pub pair : pair_of record_of.heard ≡ Some c.0

link_later : (s : Rec) (rs : List Rec) (k : ℕ) (c : Pair × ℕ) → IsLinkOf rs (suc k) c → IsLinkOf (s ∷ rs) k c
link_later s rs k c l = record {
  from = suc l.from;
  record_of = l.record_of;
  number = (let e : c.1 ≡ suc k + l.from = l.number in omega arith);
  at = l.at;
  pair = l.pair;
}

pub link_record : (rs : List Rec) (k i : ℕ) (c : Pair × ℕ) → slice_get (performed_records k rs) i ≡ Some c → IsLinkOf rs k c
link_record [] k i c at = absurd (none_is_not_some c at)
link_record (s ∷ rs) k i c at = by_pair_of (pair_of s.heard) refl i at (λ j e. link_later s rs k c (link_record rs (suc k) j c e)) where
  by_pair_of : (o : Option Pair) → pair_of s.heard ≡ o → (i : ℕ) → slice_get (link_at k o (performed_records (suc k) rs)) i ≡ Some c
      → ((j : ℕ) → slice_get (performed_records (suc k) rs) j ≡ Some c → IsLinkOf (s ∷ rs) k c) → IsLinkOf (s ∷ rs) k c
  by_pair_of None is i at later = later i at
  by_pair_of (Some q) is zero at later = record {
    from = 0;
    record_of = s;
    number = (let e : k ≡ c.1 = ap (λ d. d.1) (same_some (q, k) c at) in omega arith);
    at = refl;
    pair = is ∙ ap (λ d. Some d.0) (same_some (q, k) c at);
  }
  by_pair_of (Some q) is (suc i) at later = later i at

-- their numbers rise
pub numbers_rise : (rs : List Rec) (k : ℕ) → KeyRises (λ (c : Pair × ℕ). c.1) (performed_records k rs)
numbers_rise [] k i j a b less at bt = absurd (none_is_not_some a at)
numbers_rise (s ∷ rs) k i j a b less at bt = by_pair_of (pair_of s.heard) i j less at bt (numbers_rise rs (suc k)) where
  by_pair_of : (o : Option Pair) (i j : ℕ) → i < j → slice_get (link_at k o (performed_records (suc k) rs)) i ≡ Some a
      → slice_get (link_at k o (performed_records (suc k) rs)) j ≡ Some b → KeyRises (λ (c : Pair × ℕ). c.1) (performed_records (suc k) rs) → a.1 < b.1
  by_pair_of None i j less at bt later = later i j a b less at bt
  by_pair_of (Some q) zero zero less at bt later = absurd (omega arith)
  by_pair_of (Some q) zero (suc j) less at bt later =
      let l = link_record rs (suc k) j b bt in let number : b.1 ≡ suc k + l.from = l.number in
      let here : k ≡ a.1 = ap (λ d. d.1) (same_some (q, k) a at) in omega arith
  by_pair_of (Some q) (suc i) zero less at bt later = absurd (omega arith)
  by_pair_of (Some q) (suc i) (suc j) less at bt later = later i j a b (omega arith) at bt

-- ---- the chain

-- each pair is below all later ones
abbrev pub Climbs : List (Pair × ℕ) → Type 0
Climbs chain = (i j : ℕ) (a b : Pair × ℕ) → i < j → slice_get chain i ≡ Some a → slice_get chain j ≡ Some b → IsBelow a.0 b.0

pub chain_once : (records : List Rec) (chain : List (Pair × ℕ)) → IsChain records chain → KeyOnce (λ (c : Pair × ℕ). c.1) chain
chain_once records chain is = once_moved (λ (c : Pair × ℕ). c.1) (performed_records 0 records) chain is.all (numbers_rise records 0)

by_pair_total : IsTotalOrder by_pair
by_pair_total =
    then_total (then_total (on_total (λ (c : Pair × ℕ). c.0.term) nat_cmp_total) (on_total (λ (c : Pair × ℕ). c.0.seq) nat_cmp_total))
    (on_total (λ (c : Pair × ℕ). c.1) nat_cmp_total)

split_pairs : (p q : Pair) (o : Ordering) → is_lt (ordering_then (pair_cmp p q) o) ≡ false → IsBelow q p ⊎ ((q.term ≡ p.term) × (q.seq ≡ p.seq))
split_pairs p q o unless = by_term (nat_cmp p.term q.term) refl unless where
  by_term : (t : Ordering) → t ≡ nat_cmp p.term q.term → is_lt (ordering_then (ordering_then t (nat_cmp p.seq q.seq)) o) ≡ false → IsBelow q p ⊎ ((q.term ≡ p.term) × (q.seq ≡ p.seq))
  by_term Less is unless = absurd (true≢false unless)
  by_term Equal is unless = elim (not_below_then p.seq q.seq o unless) as (λ _. IsBelow q p ⊎ ((q.term ≡ p.term) × (q.seq ≡ p.seq))) [
    | inl below ↦ inl (inr (sym (ranked p.term q.term Equal is), below))
    | inr same ↦ inr (sym (ranked p.term q.term Equal is), same.0)
  ]
  by_term Greater is unless = inl (inl (ranked p.term q.term Greater is))

-- a pair below another has not its parts
not_both : (p q : Pair) → (p.term ≡ q.term) × (p.seq ≡ q.seq) → IsBelow p q → ⊥
not_both p q same (inl less) = let term : p.term ≡ q.term = same.0 in omega arith
not_both p q same (inr less) = let seq : p.seq ≡ q.seq = same.1 in let below : p.seq < q.seq = less.1 in omega arith

-- lists that climb and have the same elements are one
pub same_climbing : (xs ys : List (Pair × ℕ)) → Climbs xs → Climbs ys → ((c : Pair × ℕ) → Has xs c → Has ys c) → ((c : Pair × ℕ) → Has ys c → Has xs c) → xs ≡ ys
same_climbing xs ys up vp to back = same_rising (λ (a b : Pair × ℕ). IsBelow a.0 b.0) (λ a b. not_both_below a.0 b.0) xs ys up vp to back

-- a chain all of whose links stand in a list that climbs climbs
pub chain_climbs : (records : List Rec) (chain links : List (Pair × ℕ)) → IsChain records chain → Climbs links → ((c : Pair × ℕ) → Has chain c → Has links c) → Climbs chain
chain_climbs records chain links is up to i j a b less at bt =
    elim (split_pairs b.0 a.0 (nat_cmp b.1 a.1) (sorted_at by_pair by_pair_total chain is.in_order i j a b (omega arith) at bt)) as (λ _. IsBelow a.0 b.0) [
      | inl below ↦ below
      | inr same ↦ let first = to a (i, at) in let second = to b (j, bt) in absurd (by_place same first second)
    ] where
      by_place : (a.0.term ≡ b.0.term) × (a.0.seq ≡ b.0.seq) → Has links a → Has links b → ⊥
      by_place same (k, ka) (l, lb) =
          let once : k ≡ l = compare k l (λ low. not_both a.0 b.0 same (up k l a b low ka lb)) (λ low. not_both b.0 a.0 (sym same.0, sym same.1) (up l k b a low lb ka)) in
          let equal : a ≡ b = same_some a b (sym ka ∙ (ap (slice_get links) once ∙ lb)) in
          let place : i ≡ j = chain_once records chain is i j a b at bt (ap (λ c. c.1) equal) in
          omega arith

-- what rises from each link to the next climbs
pub rising_climbs : (chain : List (Pair × ℕ)) → Rises chain → Climbs chain
rising_climbs chain rises i j a b less at bt = from (j - suc i) i j a b (let e : j ≡ suc i + (j - suc i) = omega arith in e) at bt where
  from : (n i j : ℕ) (a b : Pair × ℕ) → j ≡ suc i + n → slice_get chain i ≡ Some a → slice_get chain j ≡ Some b → IsBelow a.0 b.0
  from zero i j a b is at bt = rises i a b at (subst (λ k. slice_get chain k ≡ Some b) (let e : j ≡ suc i = omega arith in e) bt)
  from (suc n) i j a b is at bt =
      let next = get_within chain (suc i) (let w : j < length chain = slice_get_within chain j b bt in omega arith) in
      below_trans a.0 next.0.0 b.0 (rises i a next.0 at next.1) (from n (suc i) j next.0 b (omega arith) next.1 bt)

pub climbing_rises : (chain : List (Pair × ℕ)) → Climbs chain → Rises chain
climbing_rises chain climbs k a b at bt = climbs k (suc k) a b (omega arith) at bt
