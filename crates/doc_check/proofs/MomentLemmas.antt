-- The calls and replies of the answered records, sorted and turned round.
use Rattle.std.proofs.Common.{ℕ, zero, suc, ◌≡◌, ◌<◌, ◌+◌, ◌-◌, inl, inr, List, [], ◌∷◌, length, reverse, refl, sym, ap, subst, ◌∙◌, arith, Bool, true, false, Option, Some, None, slice_get, get_or, Ordering}
use Rattle.std.specs.Prelude.{IsPermutation, IsSorted, IsTrue}
use Rattle.std.specs.Cmp.{IsTotalOrder, bool_cmp_total}
use Rattle.std.specs.Ordering.{bool_cmp, nat_cmp, ordering_then, is_lt}
use Rattle.std.specs.declared.cmp.Ordering.TheVariants.{Less, Equal, Greater}
use Rattle.std.proofs.lemmas.Bool.{false≢true, true≢false}
use Rattle.std.proofs.lemmas.Cmp.{nat_cmp_total, on_total, ranked, then_total}
use Rattle.std.proofs.lemmas.List.{get_or-reverse, length-reverse}
use Rattle.std.proofs.lemmas.List.Sorted.{IsPermutation-reverse, IsPermutation-trans}
use Rattle.std.proofs.lemmas.Option.{get_or_from_slice_get, slice_get-get_or, slice_get_within}
use Rattle.doc_register.specs.declared.reply.Reply.{Reply}
use Rattle.events.specs.declared.record.Rec.{Rec}
use Rattle.version_pair.proofs.ListLemmas.{none_is_not_some, same_some}
use Rattle.doc_check.specs.declared.moments.Moment.{Moment}
use Rattle.doc_check.specs.aids.Sweep.{AreMoments, IsUpTo, moment_at, moments_at, moments_from}
use Rattle.version_pair.proofs.SortedLists.{Has, flags_up, has_back, has_moved, sorted_at, then_not}

-- ---- which moments there are

call_has : (rs : List Rec) (k i : ℕ) (r : Rec) (h : ℕ × Reply) → slice_get rs i ≡ Some r → r.heard ≡ Some h → Has (moments_from k rs) (moment_at r.call_at false (k + i))
call_has [] k i r h at is = absurd (none_is_not_some r at)
call_has (s ∷ rs) k zero r h at is =
    let same : s ≡ r = same_some s r at in
    let number : k ≡ k + 0 = omega arith in
    subst (λ o. Has (moments_at k s.call_at o (moments_from (suc k) rs)) (moment_at r.call_at false (k + 0))) (sym (ap (λ t. t.heard) same ∙ is))
    (0, ap (λ n. Some (moment_at n false k)) (ap (λ t. t.call_at) same) ∙ ap (λ n. Some (moment_at r.call_at false n)) number)
call_has (s ∷ rs) k (suc i) r h at is = by_heard s.heard (call_has rs (suc k) i r h at is) where
  by_heard : (o : Option (ℕ × Reply)) → Has (moments_from (suc k) rs) (moment_at r.call_at false (suc k + i)) → Has (moments_at k s.call_at o (moments_from (suc k) rs)) (moment_at r.call_at false (k + suc i))
  by_heard None has = (has.0, has.1 ∙ ap (λ n. Some (moment_at r.call_at false n)) (let e : suc k + i ≡ k + suc i = omega arith in e))
  by_heard (Some g) has = (suc (suc has.0), has.1 ∙ ap (λ n. Some (moment_at r.call_at false n)) (let e : suc k + i ≡ k + suc i = omega arith in e))

reply_has : (rs : List Rec) (k i : ℕ) (r : Rec) (h : ℕ × Reply) → slice_get rs i ≡ Some r → r.heard ≡ Some h → Has (moments_from k rs) (moment_at h.0 true (k + i))
reply_has [] k i r h at is = absurd (none_is_not_some r at)
reply_has (s ∷ rs) k zero r h at is =
    let same : s ≡ r = same_some s r at in
    let number : k ≡ k + 0 = omega arith in
    subst (λ o. Has (moments_at k s.call_at o (moments_from (suc k) rs)) (moment_at h.0 true (k + 0))) (sym (ap (λ t. t.heard) same ∙ is))
    (1, ap (λ n. Some (moment_at h.0 true n)) number)
reply_has (s ∷ rs) k (suc i) r h at is = by_heard s.heard (reply_has rs (suc k) i r h at is) where
  by_heard : (o : Option (ℕ × Reply)) → Has (moments_from (suc k) rs) (moment_at h.0 true (suc k + i)) → Has (moments_at k s.call_at o (moments_from (suc k) rs)) (moment_at h.0 true (k + suc i))
  by_heard None has = (has.0, has.1 ∙ ap (λ n. Some (moment_at h.0 true n)) (let e : suc k + i ≡ k + suc i = omega arith in e))
  by_heard (Some g) has = (suc (suc has.0), has.1 ∙ ap (λ n. Some (moment_at h.0 true n)) (let e : suc k + i ≡ k + suc i = omega arith in e))

-- the record of a moment
record IsOf (rs : List Rec) (k : ℕ) (m : Moment) : Type 0 where
  from : ℕ
  record_of : Rec
  heard_of : ℕ × Reply
  number : m.rec ≡ k + from
  at : slice_get rs from ≡ Some record_of
  heard : record_of.heard ≡ Some heard_of
  replied : IsTrue m.is_reply → m.index ≡ heard_of.0
  called : (IsTrue m.is_reply → ⊥) → m.index ≡ record_of.call_at

of_later : (s : Rec) (rs : List Rec) (k : ℕ) (m : Moment) → IsOf rs (suc k) m → IsOf (s ∷ rs) k m
of_later s rs k m o = record {
  from = suc o.from;
  record_of = o.record_of;
  heard_of = o.heard_of;
  number = (let e : m.rec ≡ suc k + o.from = o.number in omega arith);
  at = o.at;
  heard = o.heard;
  replied = o.replied;
  called = o.called;
}

moment_of : (rs : List Rec) (k i : ℕ) (m : Moment) → slice_get (moments_from k rs) i ≡ Some m → IsOf rs k m
moment_of [] k i m at = absurd (none_is_not_some m at)
moment_of (s ∷ rs) k i m at = by_heard s.heard refl i at (λ j e. of_later s rs k m (moment_of rs (suc k) j m e)) where
  by_heard : (o : Option (ℕ × Reply)) → s.heard ≡ o → (i : ℕ) → slice_get (moments_at k s.call_at o (moments_from (suc k) rs)) i ≡ Some m
      → ((j : ℕ) → slice_get (moments_from (suc k) rs) j ≡ Some m → IsOf (s ∷ rs) k m) → IsOf (s ∷ rs) k m
  by_heard None is i at later = later i at
  by_heard (Some h) is zero at later =
      let same : (moment_at s.call_at false k) ≡ m = same_some (moment_at s.call_at false k) m at in
      record {
        from = 0;
        record_of = s;
        heard_of = h;
        number = (let e : k ≡ m.rec = ap (λ (n : Moment). n.rec) same in omega arith);
        at = refl;
        heard = is;
        replied = λ yes. absurd (false≢true (ap (λ (n : Moment). n.is_reply) same ∙ yes));
        called = λ _. sym (ap (λ (n : Moment). n.index) same);
      }
  by_heard (Some h) is (suc zero) at later =
      let same : (moment_at h.0 true k) ≡ m = same_some (moment_at h.0 true k) m at in
      record {
        from = 0;
        record_of = s;
        heard_of = h;
        number = (let e : k ≡ m.rec = ap (λ (n : Moment). n.rec) same in omega arith);
        at = refl;
        heard = is;
        replied = λ _. sym (ap (λ (n : Moment). n.index) same);
        called = λ not. absurd (not (sym (ap (λ (n : Moment). n.is_reply) same)));
      }
  by_heard (Some h) is (suc (suc i)) at later = later i at

-- ---- their order

abbrev by_moment : Moment → Moment → Ordering
by_moment a b = ordering_then (nat_cmp a.index b.index) (ordering_then (bool_cmp a.is_reply b.is_reply) (nat_cmp a.rec b.rec))

by_moment_total : IsTotalOrder by_moment
by_moment_total =
    then_total (on_total (λ (m : Moment). m.index) nat_cmp_total)
    (then_total (on_total (λ (m : Moment). m.is_reply) bool_cmp_total) (on_total (λ (m : Moment). m.rec) nat_cmp_total))

up_to : (a b : Moment) → is_lt (by_moment a b) ≡ false → IsUpTo b a
up_to a b unless = by_place (nat_cmp a.index b.index) refl unless where
  by_flags : (x y : Bool) → is_lt (ordering_then (bool_cmp x y) (nat_cmp a.rec b.rec)) ≡ false → IsTrue y → IsTrue x
  by_flags x y not = flags_up x y (then_not (bool_cmp x y) (nat_cmp a.rec b.rec) not)

  by_place : (t : Ordering) → t ≡ nat_cmp a.index b.index → is_lt (ordering_then t (ordering_then (bool_cmp a.is_reply b.is_reply) (nat_cmp a.rec b.rec))) ≡ false → IsUpTo b a
  by_place Less is not = absurd (true≢false not)
  by_place Equal is not = inr (sym (ranked a.index b.index Equal is), by_flags a.is_reply b.is_reply not)
  by_place Greater is not = inl (ranked a.index b.index Greater is)

get_reversed : {X : Type 0} (xs : List X) (i : ℕ) (x : X) → slice_get (reverse xs) i ≡ Some x → slice_get xs (length xs - 1 - i) ≡ Some x
get_reversed xs i x at =
    let size = length-reverse xs in
    let within : i < length xs = (let w : i < length (reverse xs) = slice_get_within (reverse xs) i x at in omega arith) in
    let here : get_or (reverse xs) i x ≡ x = get_or_from_slice_get (reverse xs) i x x at in
    slice_get-get_or xs (length xs - 1 - i) x (omega arith) ∙ ap (λ y. Some y) (sym (get_or-reverse xs i x within) ∙ here)

pub moments_are : (records : List Rec) (made sorted moments : List Moment) → made ≡ moments_from 0 records → IsPermutation made sorted → IsSorted by_moment sorted
    → moments ≡ reverse sorted → AreMoments records moments
moments_are records made sorted moments made_is moved up turned = subst (AreMoments records) (sym turned) (record {
  sound = λ i m at.
      let has = has_back (moments_from 0 records) (reverse sorted) m all (i, at) in
      let o = moment_of records 0 has.0 m has.1 in
      let number : o.from ≡ m.rec = (let e : m.rec ≡ 0 + o.from = o.number in omega arith) in
      (o.record_of, o.heard_of, ap (slice_get records) (sym number) ∙ o.at, o.heard, o.replied, o.called);
  calls = λ y r h at is. has_moved (moments_from 0 records) (reverse sorted) (moment_at r.call_at false y) all
      (subst (λ n. Has (moments_from 0 records) (moment_at r.call_at false n)) (let e : 0 + y ≡ y = omega arith in e) (call_has records 0 y r h at is));
  replies = λ y r h at is. has_moved (moments_from 0 records) (reverse sorted) (moment_at h.0 true y) all
      (subst (λ n. Has (moments_from 0 records) (moment_at h.0 true n)) (let e : 0 + y ≡ y = omega arith in e) (reply_has records 0 y r h at is));
  falls = λ i j a b less at bt.
      let size = length-reverse sorted in
      let within : j < length sorted = (let w : j < length (reverse sorted) = slice_get_within (reverse sorted) j b bt in omega arith) in
      up_to a b (sorted_at by_moment by_moment_total sorted up (length sorted - 1 - j) (length sorted - 1 - i) b a (omega arith)
      (get_reversed sorted j b bt) (get_reversed sorted i a at));
}) where
  all : IsPermutation (moments_from 0 records) (reverse sorted)
  all = IsPermutation-trans (moments_from 0 records) sorted (reverse sorted) (subst (λ xs. IsPermutation xs sorted) made_is moved) (IsPermutation-reverse sorted)
