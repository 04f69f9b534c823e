-- The answered calls in response order: which they are, that they rise, and that there is one such list.
use Rattle.std.proofs.Common.{ℕ, zero, suc, ◌≡◌, ◌<◌, ◌+◌, ◌⊎◌, inl, inr, List, [], ◌∷◌, refl, sym, ap, subst, ◌∙◌, arith, Option, Some, None, slice_get}
use Rattle.std.specs.Cmp.{IsTotalOrder}
use Rattle.std.specs.Ordering.{nat_cmp}
use Rattle.std.proofs.lemmas.Bool.{cases_order}
use Rattle.std.proofs.lemmas.Cmp.{nat_cmp_total, on_total, then_total}
use Rattle.doc_register.specs.declared.reply.Reply.{Reply}
use Rattle.events.specs.declared.record.Rec.{Rec}
use Rattle.version_pair.proofs.ListLemmas.{none_is_not_some, same_some}
use Rattle.write_chain.specs.AnsweredCalls.{AreAnsweredCalls, answer_at, answer_of, answers_from, by_reply}
use Rattle.write_chain.specs.declared.answers.AnsweredRec.{AnsweredRec}
use Rattle.version_pair.proofs.SortedLists.{KeyRises, RisesBy, has_back, has_moved, not_below, not_below_then, once_moved, same_rising, sorted_at}

-- ---- which they are

-- an entry is of an answered call
record IsOf (k : ℕ) (records : List Rec) (a : AnsweredRec) : Type 0 where
  place : ℕ
  call : Rec
  reply : Reply
  number : a.rec ≡ k + place
  at : slice_get records place ≡ Some call
  heard : call.heard ≡ Some (a.reply_at, reply)

listed_of : (k : ℕ) (records : List Rec) (m : ℕ) (a : AnsweredRec) → slice_get (answers_from k records) m ≡ Some a → IsOf k records a
listed_of k [] m a at = absurd (none_is_not_some a at)
listed_of k (r ∷ rs) m a at = by_heard r.heard refl m at (λ n bt. listed_of (suc k) rs n a bt) where
  later : IsOf (suc k) rs a → IsOf k (r ∷ rs) a
  later o = record { place = suc o.place; call = o.call; reply = o.reply; number = (let is : a.rec ≡ suc k + o.place = o.number in omega arith); at = o.at; heard = o.heard }

  by_heard : (h : Option (ℕ × Reply)) → r.heard ≡ h → (m : ℕ) → slice_get (answer_at k h (answers_from (suc k) rs)) m ≡ Some a → ((n : ℕ) → slice_get (answers_from (suc k) rs) n ≡ Some a → IsOf (suc k) rs a) → IsOf k (r ∷ rs) a
  by_heard None is m at rest = later (rest m at)
  by_heard (Some h) is zero at rest =
      let same : answer_of h.0 k ≡ a = same_some (answer_of h.0 k) a at in
      record { place = 0; call = r; reply = h.1; number = (let one : k ≡ a.rec = ap (λ (v : AnsweredRec). v.rec) same in omega arith); at = refl; heard = is ∙ ap (λ n. Some (n, h.1)) (ap (λ (v : AnsweredRec). v.reply_at) same) }
  by_heard (Some h) is (suc m) at rest = later (rest m at)

-- and each answered call has one
of_listed : (k : ℕ) (records : List Rec) (j : ℕ) (c : Rec) (y : ℕ) (reply : Reply) → slice_get records j ≡ Some c → c.heard ≡ Some (y, reply) → (m : ℕ) × (slice_get (answers_from k records) m ≡ Some (answer_of y (k + j)))
of_listed k [] j c y reply at heard = absurd (none_is_not_some c at)
of_listed k (r ∷ rs) zero c y reply at heard = by_heard r.heard (ap (λ (v : Rec). v.heard) (same_some r c at) ∙ heard) where
  by_heard : (h : Option (ℕ × Reply)) → h ≡ Some (y, reply) → (m : ℕ) × (slice_get (answer_at k h (answers_from (suc k) rs)) m ≡ Some (answer_of y (k + 0)))
  by_heard None is = absurd (none_is_not_some (y, reply) is)
  by_heard (Some h) is = (0, ap (λ n. Some (answer_of n k)) (ap (λ (v : ℕ × Reply). v.0) (same_some h (y, reply) is)) ∙ ap (λ n. Some (answer_of y n)) (let same : k ≡ k + 0 = omega arith in same))
of_listed k (r ∷ rs) (suc j) c y reply at heard = by_heard r.heard (of_listed (suc k) rs j c y reply at heard) where
  number : suc k + j ≡ k + suc j
  number = omega arith

  by_heard : (h : Option (ℕ × Reply)) → (m : ℕ) × (slice_get (answers_from (suc k) rs) m ≡ Some (answer_of y (suc k + j))) → (m : ℕ) × (slice_get (answer_at k h (answers_from (suc k) rs)) m ≡ Some (answer_of y (k + suc j)))
  by_heard None (m, is) = (m, is ∙ ap (λ n. Some (answer_of y n)) number)
  by_heard (Some h) (m, is) = (suc m, is ∙ ap (λ n. Some (answer_of y n)) number)

-- an entry of the sorted list is of an answered call
pub entry_heard : (records : List Rec) (answers : List AnsweredRec) (m : ℕ) (a : AnsweredRec) → AreAnsweredCalls records answers → slice_get answers m ≡ Some a
    → (c : Rec) × (reply : Reply) × (slice_get records a.rec ≡ Some c) × (c.heard ≡ Some (a.reply_at, reply))
entry_heard records answers m a are at =
    let there = has_back (answers_from 0 records) answers a are.all (m, at) in
    let o = listed_of 0 records there.0 a there.1 in
    let place : o.place ≡ a.rec = (let is : a.rec ≡ 0 + o.place = o.number in omega arith) in
    (o.call, o.reply, ap (slice_get records) (sym place) ∙ o.at, o.heard)

pub heard_entry : (records : List Rec) (answers : List AnsweredRec) (i : ℕ) (c : Rec) (y : ℕ) (reply : Reply) → AreAnsweredCalls records answers → slice_get records i ≡ Some c
    → c.heard ≡ Some (y, reply) → (m : ℕ) × (slice_get answers m ≡ Some (answer_of y i))
heard_entry records answers i c y reply are at heard =
    let same : 0 + i ≡ i = omega arith in
    has_moved (answers_from 0 records) answers (answer_of y i) are.all
    (subst (λ n. (m : ℕ) × (slice_get (answers_from 0 records) m ≡ Some (answer_of y n))) same (of_listed 0 records i c y reply at heard))

-- ---- they rise

-- the numbers of the records rise, as long as they are in the order of calls
numbers_rise : (k : ℕ) (records : List Rec) → KeyRises (λ (a : AnsweredRec). a.rec) (answers_from k records)
numbers_rise k [] i j a b less at bt = absurd (none_is_not_some a at)
numbers_rise k (r ∷ rs) i j a b less at bt = by_heard r.heard i j less at bt (numbers_rise (suc k) rs) where
  by_heard : (h : Option (ℕ × Reply)) (i j : ℕ) → i < j → slice_get (answer_at k h (answers_from (suc k) rs)) i ≡ Some a → slice_get (answer_at k h (answers_from (suc k) rs)) j ≡ Some b
      → KeyRises (λ (a : AnsweredRec). a.rec) (answers_from (suc k) rs) → a.rec < b.rec
  by_heard None i j less at bt rest = rest i j a b less at bt
  by_heard (Some h) zero zero less at bt rest = absurd (omega arith)
  by_heard (Some h) (suc i) zero less at bt rest = absurd (omega arith)
  by_heard (Some h) zero (suc j) less at bt rest =
      let own : k ≡ a.rec = ap (λ (v : AnsweredRec). v.rec) (same_some (answer_of h.0 k) a at) in
      let o = listed_of (suc k) rs j b bt in
      let is : b.rec ≡ suc k + o.place = o.number in
      omega arith
  by_heard (Some h) (suc i) (suc j) less at bt rest = rest i j a b (omega arith) at bt

by_reply_total : IsTotalOrder by_reply
by_reply_total = then_total (on_total (λ (a : AnsweredRec). a.reply_at) nat_cmp_total) (on_total (λ (a : AnsweredRec). a.rec) nat_cmp_total)

-- a's reply comes before b's; or they have the same index, and a's record is the earlier one
abbrev pub IsAnsweredBefore : AnsweredRec → AnsweredRec → Type 0
IsAnsweredBefore a b = (a.reply_at < b.reply_at) ⊎ ((a.reply_at ≡ b.reply_at) × (a.rec < b.rec))

not_both : (a b : AnsweredRec) → IsAnsweredBefore a b → IsAnsweredBefore b a → ⊥
not_both a b (inl x) (inl y) = omega arith
not_both a b (inl x) (inr y) = let same : b.reply_at ≡ a.reply_at = y.0 in omega arith
not_both a b (inr x) (inl y) = let same : a.reply_at ≡ b.reply_at = x.0 in omega arith
not_both a b (inr x) (inr y) = let first : a.rec < b.rec = x.1 in let second : b.rec < a.rec = y.1 in omega arith

pub answers_rise : (records : List Rec) (answers : List AnsweredRec) → AreAnsweredCalls records answers → RisesBy IsAnsweredBefore answers
answers_rise records answers are i j a b less at bt =
    elim (not_below_then b.reply_at a.reply_at (nat_cmp b.rec a.rec) (sorted_at by_reply by_reply_total answers are.in_order i j a b (omega arith) at bt)) as (λ _. IsAnsweredBefore a b) [
      | inl first ↦ inl first
      | inr tie ↦
          let low = not_below b.rec a.rec tie.1 in
          elim (cases_order a.rec b.rec) as (λ _. IsAnsweredBefore a b) [
            | inl same ↦
                let place : i ≡ j = once_moved (λ (c : AnsweredRec). c.rec) (answers_from 0 records) answers are.all (numbers_rise 0 records) i j a b at bt same in
                absurd (omega arith)
            | inr other ↦ inr (tie.0, elim other as (λ _. a.rec < b.rec) [ inl lower ↦ lower | inr higher ↦ absurd (omega arith) ])
          ]
    ]

-- there is one such list
pub same_answers : (records : List Rec) (answers others : List AnsweredRec) → AreAnsweredCalls records answers → AreAnsweredCalls records others → answers ≡ others
same_answers records answers others are too =
    same_rising IsAnsweredBefore not_both answers others (answers_rise records answers are) (answers_rise records others too)
    (λ a has. has_moved (answers_from 0 records) others a too.all (has_back (answers_from 0 records) answers a are.all has))
    (λ a has. has_moved (answers_from 0 records) answers a are.all (has_back (answers_from 0 records) others a too.all has))
