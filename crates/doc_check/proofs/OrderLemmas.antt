-- The order of the sweep is valid: it performs the chain, with each call in a stretch that it fits and none too late.
use Rattle.std.proofs.Common.{ℕ, zero, suc, ◌≡◌, ◌<◌, ◌≤◌, ◌+◌, ◌-◌, inl, inr, List, [], ◌∷◌, length, map, refl, sym, ap, subst, ◌∙◌, arith, true, false, Option, Some, None, slice_get}
use Rattle.std.specs.Prelude.{IsPermutation, IsSorted, IsSome, IsTrue, option_map}
use Rattle.std.specs.Cmp.{IsTotalOrder, bool_cmp_total}
use Rattle.std.specs.Ordering.{bool_cmp, nat_cmp, ordering_then, is_lt}
use Rattle.std.specs.declared.cmp.Ordering.TheVariants.{Equal}
use Rattle.std.proofs.lemmas.Bool.{cases_lt, true≢false}
use Rattle.std.proofs.lemmas.Cmp.{nat_cmp_total, on_total, then_total, tied_itself}
use Rattle.std.proofs.lemmas.Option.{slice_get-map}
use Rattle.version_pair.specs.declared.pair.Pair.{Pair}
use Rattle.doc_register.specs.declared.reply.Reply.{Reply}
use Rattle.doc_register.specs.declared.reply.Reply.TheVariants.{Indexed, Deleted, Found, Missing, Conflict}
use Rattle.doc_register.specs.declared.state.Conflicts.{Conflicts}
use Rattle.doc_register.specs.declared.state.DocState.{DocState}
use Rattle.doc_register.specs.declared.state.DocState.TheVariants.{Never}
use Rattle.events.specs.declared.record.Rec.{Rec}
use Rattle.version_pair.proofs.ListLemmas.{get_within, none_is_not_some, same_some}
use Rattle.places.specs.declared.place.Place.{Place}
use Rattle.places.specs.Places.{AreValidSoFar, AreValid, GivesAsMay, IsHeardBefore, IsPlaceOf, IsPlaceRun, StepsAt}
use Rattle.doc_check.specs.NoOrders.{AreUnpaired}
use Rattle.write_chain.specs.Chain.{IsChain, Rises, performed_records}
use Rattle.events.specs.Heard.{pair_of}
use Rattle.doc_check.specs.declared.order.StretchKey.{StretchKey}
use Rattle.doc_check.specs.aids.Order.{IsStretchOrder, by_standing, is_later, key_of, place_of, standing_made, standings_from, with_standing}
use Rattle.doc_check.specs.aids.Stretches.{FitsAs, ReadFits, WriteFits, cap, state_in, states_of}
use Rattle.doc_check.specs.aids.Sweep.{AreGiven, AreSpread, IsGiven}
use Rattle.version_pair.proofs.SortedLists.{Has, KeyOnce, KeyRises, flags_up, has_back, has_moved, not_below, not_below_then, once_moved, sorted_at, then_not}
use Rattle.doc_check.proofs.ChainLemmas.{link_record}
use Rattle.doc_check.proofs.StretchLemmas.{one_place}

-- ---- which standings there are

standing_has : (rs : List Rec) (gs : List (Option ℕ)) (k i j : ℕ) (r : Rec) (h : ℕ × Reply) → slice_get rs i ≡ Some r → r.heard ≡ Some h → slice_get gs i ≡ Some (Some j)
    → Has (standings_from k rs gs) (key_of j (is_later (pair_of (Some h))) h.0 (k + i))
standing_has [] gs k i j r h at is given = absurd (none_is_not_some r at)
standing_has (s ∷ rs) [] k i j r h at is given = absurd (none_is_not_some (Some j) given)
standing_has (s ∷ rs) (g ∷ gs) k zero j r h at is given =
    let number : k ≡ k + 0 = omega arith in
    let made : standing_made k s.heard g ≡ Some (key_of j (is_later (pair_of (Some h))) h.0 k) =
    ap (λ o. standing_made k o g) (ap (λ t. t.heard) (same_some s r at) ∙ is) ∙ ap (standing_made k (Some h)) (same_some g (Some j) given) in
    subst (λ o. Has (with_standing o (standings_from (suc k) rs gs)) (key_of j (is_later (pair_of (Some h))) h.0 (k + 0))) (sym made)
    (0, ap (λ n. Some (key_of j (is_later (pair_of (Some h))) h.0 n)) number)
standing_has (s ∷ rs) (g ∷ gs) k (suc i) j r h at is given = by_made (standing_made k s.heard g) (standing_has rs gs (suc k) i j r h at is given) where
  by_made : (o : Option StretchKey) → Has (standings_from (suc k) rs gs) (key_of j (is_later (pair_of (Some h))) h.0 (suc k + i))
      → Has (with_standing o (standings_from (suc k) rs gs)) (key_of j (is_later (pair_of (Some h))) h.0 (k + suc i))
  by_made None has = (has.0, has.1 ∙ ap (λ n. Some (key_of j (is_later (pair_of (Some h))) h.0 n)) (let e : suc k + i ≡ k + suc i = omega arith in e))
  by_made (Some o) has = (suc has.0, has.1 ∙ ap (λ n. Some (key_of j (is_later (pair_of (Some h))) h.0 n)) (let e : suc k + i ≡ k + suc i = omega arith in e))

-- the record of a standing
record IsOf (rs : List Rec) (gs : List (Option ℕ)) (k : ℕ) (s : StretchKey) : Type 0 where
  from : ℕ
  record_of : Rec
  heard_of : ℕ × Reply
  number : s.rec ≡ k + from
  at : slice_get rs from ≡ Some record_of
  heard : record_of.heard ≡ Some heard_of
  given : slice_get gs from ≡ Some (Some s.stretch)
  after_is : s.follows_write ≡ is_later (pair_of record_of.heard)
  reply : s.reply_at ≡ heard_of.0

of_later : (r : Rec) (rs : List Rec) (g : Option ℕ) (gs : List (Option ℕ)) (k : ℕ) (s : StretchKey) → IsOf rs gs (suc k) s → IsOf (r ∷ rs) (g ∷ gs) k s
of_later r rs g gs k s o = record {
  from = suc o.from;
  record_of = o.record_of;
  heard_of = o.heard_of;
  number = (let e : s.rec ≡ suc k + o.from = o.number in omega arith);
  at = o.at;
  heard = o.heard;
  given = o.given;
  after_is = o.after_is;
  reply = o.reply;
}

standing_of : (rs : List Rec) (gs : List (Option ℕ)) (k i : ℕ) (s : StretchKey) → slice_get (standings_from k rs gs) i ≡ Some s → IsOf rs gs k s
standing_of [] gs k i s at = absurd (none_is_not_some s at)
standing_of (r ∷ rs) [] k i s at = absurd (none_is_not_some s at)
standing_of (r ∷ rs) (g ∷ gs) k i s at = by_heard r.heard g refl refl i at (λ j e. of_later r rs g gs k s (standing_of rs gs (suc k) j s e)) where
  by_heard : (o : Option (ℕ × Reply)) (d : Option ℕ) → r.heard ≡ o → g ≡ d → (i : ℕ) → slice_get (with_standing (standing_made k o d) (standings_from (suc k) rs gs)) i ≡ Some s
      → ((j : ℕ) → slice_get (standings_from (suc k) rs gs) j ≡ Some s → IsOf (r ∷ rs) (g ∷ gs) k s) → IsOf (r ∷ rs) (g ∷ gs) k s
  by_heard None d is given i at later = later i at
  by_heard (Some h) None is given i at later = later i at
  by_heard (Some h) (Some j) is given zero at later =
      let same : (key_of j (is_later (pair_of (Some h))) h.0 k) ≡ s = same_some (key_of j (is_later (pair_of (Some h))) h.0 k) s at in
      record {
        from = 0;
        record_of = r;
        heard_of = h;
        number = (let e : k ≡ s.rec = ap (λ (n : StretchKey). n.rec) same in omega arith);
        at = refl;
        heard = is;
        given = ap (λ o. Some o) given ∙ ap (λ (n : StretchKey). Some (Some n.stretch)) same;
        after_is = sym (ap (λ (n : StretchKey). n.follows_write) same) ∙ ap (λ o. is_later (pair_of o)) (sym is);
        reply = sym (ap (λ (n : StretchKey). n.reply_at) same);
      }
  by_heard (Some h) (Some j) is given (suc i) at later = later i at

numbers_rise : (rs : List Rec) (gs : List (Option ℕ)) (k : ℕ) → KeyRises (λ (s : StretchKey). s.rec) (standings_from k rs gs)
numbers_rise [] gs k i j a b less at bt = absurd (none_is_not_some a at)
numbers_rise (r ∷ rs) [] k i j a b less at bt = absurd (none_is_not_some a at)
numbers_rise (r ∷ rs) (g ∷ gs) k i j a b less at bt = by_made (standing_made k r.heard g) here i j less at bt (numbers_rise rs gs (suc k)) where
  here : (s : StretchKey) → standing_made k r.heard g ≡ Some s → s.rec ≡ k
  here s is = by_heard r.heard g is where
    by_heard : (o : Option (ℕ × Reply)) (d : Option ℕ) → standing_made k o d ≡ Some s → s.rec ≡ k
    by_heard None d is = absurd (none_is_not_some s is)
    by_heard (Some h) None is = absurd (none_is_not_some s is)
    by_heard (Some h) (Some l) is = sym (ap (λ (n : StretchKey). n.rec) (same_some (key_of l (is_later (pair_of (Some h))) h.0 k) s is))

  by_made : (o : Option StretchKey) → ((s : StretchKey) → o ≡ Some s → s.rec ≡ k) → (i j : ℕ) → i < j → slice_get (with_standing o (standings_from (suc k) rs gs)) i ≡ Some a
      → slice_get (with_standing o (standings_from (suc k) rs gs)) j ≡ Some b → KeyRises (λ (s : StretchKey). s.rec) (standings_from (suc k) rs gs) → a.rec < b.rec
  by_made None own i j less at bt later = later i j a b less at bt
  by_made (Some s) own zero zero less at bt later = absurd (omega arith)
  by_made (Some s) own zero (suc j) less at bt later =
      let o = standing_of rs gs (suc k) j b bt in let number : b.rec ≡ suc k + o.from = o.number in
      let mine : a.rec ≡ k = own a at in omega arith
  by_made (Some s) own (suc i) zero less at bt later = absurd (omega arith)
  by_made (Some s) own (suc i) (suc j) less at bt later = later i j a b (omega arith) at bt

-- ---- their order

by_standing_total : IsTotalOrder by_standing
by_standing_total =
    then_total (on_total (λ (s : StretchKey). s.stretch) nat_cmp_total) (then_total (on_total (λ (s : StretchKey). s.follows_write) bool_cmp_total)
    (then_total (on_total (λ (s : StretchKey). s.reply_at) nat_cmp_total) (on_total (λ (s : StretchKey). s.rec) nat_cmp_total)))

-- a stands up to b: by stretch, its write first, then by place of reply
record IsUpTo (a b : StretchKey) : Type 0 where
  stretch : a.stretch ≤ b.stretch
  after_up : a.stretch ≡ b.stretch → IsTrue a.follows_write → IsTrue b.follows_write
  reply_up : a.stretch ≡ b.stretch → a.follows_write ≡ b.follows_write → a.reply_at ≤ b.reply_at

up_to : (a b : StretchKey) → is_lt (by_standing b a) ≡ false → IsUpTo a b
up_to a b not = record {
  stretch = not_below b.stretch a.stretch (then_not (nat_cmp b.stretch a.stretch)
      (ordering_then (bool_cmp b.follows_write a.follows_write) (ordering_then (nat_cmp b.reply_at a.reply_at) (nat_cmp b.rec a.rec))) not);
  after_up = λ same. flags_up b.follows_write a.follows_write (then_not (bool_cmp b.follows_write a.follows_write)
      (ordering_then (nat_cmp b.reply_at a.reply_at) (nat_cmp b.rec a.rec)) (together same));
  reply_up = λ same flags. not_below b.reply_at a.reply_at (then_not (nat_cmp b.reply_at a.reply_at) (nat_cmp b.rec a.rec)
      (subst (λ o. is_lt (ordering_then o (ordering_then (nat_cmp b.reply_at a.reply_at) (nat_cmp b.rec a.rec))) ≡ false) (tied flags) (together same)));
} where
  together : a.stretch ≡ b.stretch → is_lt (ordering_then (bool_cmp b.follows_write a.follows_write) (ordering_then (nat_cmp b.reply_at a.reply_at) (nat_cmp b.rec a.rec))) ≡ false
  together same =
      elim (not_below_then b.stretch a.stretch (ordering_then (bool_cmp b.follows_write a.follows_write) (ordering_then (nat_cmp b.reply_at a.reply_at) (nat_cmp b.rec a.rec))) not)
      as (λ _. is_lt (ordering_then (bool_cmp b.follows_write a.follows_write) (ordering_then (nat_cmp b.reply_at a.reply_at) (nat_cmp b.rec a.rec))) ≡ false) [
        | inl less ↦ absurd (omega arith)
        | inr rest ↦ rest.1
      ]

  tied : a.follows_write ≡ b.follows_write → bool_cmp b.follows_write a.follows_write ≡ Equal
  tied same = subst (λ z. bool_cmp z a.follows_write ≡ Equal) same (tied_itself bool_cmp_total a.follows_write)

-- ---- the order of the sweep

-- what the proof stands on: the chain, the stretches given, some order, and the standings sorted
record Given (records : List Rec) (chain : List (Pair × ℕ)) (given : List (Option ℕ)) (places : List Place) (sorted : List StretchKey) : Type 0 where
  is_chain : IsChain records chain
  rising : Rises chain
  are_given : AreGiven records chain given
  spread : AreSpread records chain places
  moved : IsPermutation (standings_from 0 records given) sorted
  in_order : IsSorted by_standing sorted

-- the record of a sorted standing
record Stood (records : List Rec) (given : List (Option ℕ)) (s : StretchKey) : Type 0 where
  record_of : Rec
  heard_of : ℕ × Reply
  names : slice_get records s.rec ≡ Some record_of
  heard : record_of.heard ≡ Some heard_of
  is : IsGiven given s.rec s.stretch
  after_is : s.follows_write ≡ is_later (pair_of record_of.heard)
  reply : s.reply_at ≡ heard_of.0

stood : (records : List Rec) (chain : List (Pair × ℕ)) (given : List (Option ℕ)) (places : List Place) (sorted : List StretchKey) → Given records chain given places sorted
    → (i : ℕ) (s : StretchKey) → slice_get sorted i ≡ Some s → Stood records given s
stood records chain given places sorted g i s at =
    let has = has_back (standings_from 0 records given) sorted s g.moved (i, at) in
    let o = standing_of records given 0 has.0 s has.1 in
    let number : o.from ≡ s.rec = (let e : s.rec ≡ 0 + o.from = o.number in omega arith) in
    record {
      record_of = o.record_of;
      heard_of = o.heard_of;
      names = ap (slice_get records) (sym number) ∙ o.at;
      heard = o.heard;
      is = ap (slice_get given) (sym number) ∙ o.given;
      after_is = o.after_is;
      reply = o.reply;
    }

once : (records : List Rec) (chain : List (Pair × ℕ)) (given : List (Option ℕ)) (places : List Place) (sorted : List StretchKey) → Given records chain given places sorted
    → KeyOnce (λ (s : StretchKey). s.rec) sorted
once records chain given places sorted g = once_moved (λ (s : StretchKey). s.rec) (standings_from 0 records given) sorted g.moved (numbers_rise records given 0)

in_line : (records : List Rec) (chain : List (Pair × ℕ)) (given : List (Option ℕ)) (places : List Place) (sorted : List StretchKey) → Given records chain given places sorted
    → (i j : ℕ) (a b : StretchKey) → i ≤ j → slice_get sorted i ≡ Some a → slice_get sorted j ≡ Some b → IsUpTo a b
in_line records chain given places sorted g i j a b less at bt = up_to a b (sorted_at by_standing by_standing_total sorted g.in_order i j a b less at bt)

-- an answered record stands somewhere
stands : (records : List Rec) (chain : List (Pair × ℕ)) (given : List (Option ℕ)) (places : List Place) (sorted : List StretchKey) → Given records chain given places sorted
    → (y j : ℕ) (r : Rec) (h : ℕ × Reply) → slice_get records y ≡ Some r → r.heard ≡ Some h → IsGiven given y j → Has sorted (key_of j (is_later (pair_of (Some h))) h.0 y)
stands records chain given places sorted g y j r h at is given_is =
    has_moved (standings_from 0 records given) sorted (key_of j (is_later (pair_of (Some h))) h.0 y) g.moved
    (subst (λ n. Has (standings_from 0 records given) (key_of j (is_later (pair_of (Some h))) h.0 n)) (let e : 0 + y ≡ y = omega arith in e) (standing_has records given 0 y j r h at is given_is))

-- the write of a standing, if it is one
record Written (chain : List (Pair × ℕ)) (s : StretchKey) : Type 0 where
  pair : Pair
  link : ℕ
  stretch : s.stretch ≡ suc link
  there : slice_get chain link ≡ Some (pair, s.rec)

-- a standing whose `follows_write` is false is a write, any other a read
data Kind (chain : List (Pair × ℕ)) (records : List Rec) (s : StretchKey) (r : Rec) : Type 0 where
  writes : Written chain s → s.follows_write ≡ false → cap (pair_of r.heard) s.stretch ≡ s.stretch - 1 → Kind chain records s r
  reads : s.follows_write ≡ true → cap (pair_of r.heard) s.stretch ≡ s.stretch → ReadFits (states_of records chain) r.op r.heard s.stretch → pair_of r.heard ≡ None → Kind chain records s r

kind : (records : List Rec) (chain : List (Pair × ℕ)) (s : StretchKey) (r : Rec) (d : Option Pair) → pair_of r.heard ≡ d → s.follows_write ≡ is_later d
    → FitsAs d chain (states_of records chain) s.rec r s.stretch → Kind chain records s r
kind records chain s r None is after_is fits = reads after_is (ap (λ o. cap o s.stretch) is) fits is
kind records chain s r (Some q) is after_is fits = writes (record { pair = q; link = fits.0; stretch = fits.1; there = fits.2 }) after_is (ap (λ o. cap o s.stretch) is)

kind_of : (records : List Rec) (chain : List (Pair × ℕ)) (given : List (Option ℕ)) (places : List Place) (sorted : List StretchKey) → Given records chain given places sorted
    → (s : StretchKey) (st : Stood records given s) → Kind chain records s st.record_of
kind_of records chain given places sorted g s st =
    kind records chain s st.record_of (pair_of st.record_of.heard) refl st.after_is (g.are_given.fits s.rec s.stretch st.record_of st.names st.is)

-- ---- none too late

in_time : (records : List Rec) (chain : List (Pair × ℕ)) (given : List (Option ℕ)) (places : List Place) (sorted : List StretchKey) → Given records chain given places sorted
    → (i j : ℕ) (a b : StretchKey) (sa : Stood records given a) (sb : Stood records given b) → i ≤ j → slice_get sorted i ≡ Some a → slice_get sorted j ≡ Some b
    → sb.heard_of.0 < sa.record_of.call_at → ⊥
in_time records chain given places sorted g i j a b sa sb less at bt early =
    let low : b.stretch ≤ cap (pair_of sa.record_of.heard) a.stretch =
    g.are_given.before a.rec b.rec a.stretch b.stretch sa.record_of sb.record_of sb.heard_of sa.heard_of sa.names sb.names sa.heard sb.heard early sa.is sb.is in
    let up = in_line records chain given places sorted g i j a b less at bt in
    let rise : a.stretch ≤ b.stretch = up.stretch in
    by_kind low rise up (kind_of records chain given places sorted g a sa) where
      by_kind : b.stretch ≤ cap (pair_of sa.record_of.heard) a.stretch → a.stretch ≤ b.stretch → IsUpTo a b → Kind chain records a sa.record_of → ⊥
      by_kind low rise up (writes w first_is cap_is) = let some : a.stretch ≡ suc w.link = w.stretch in omega arith
      by_kind low rise up (reads later_is cap_is fits none) =
          let same : a.stretch ≡ b.stretch = omega arith in
          let reply_up : a.reply_at ≤ b.reply_at = up.reply_up same (later_is ∙ sym (up.after_up same later_is)) in
          let own = g.spread.own a.rec sa.record_of sa.heard_of sa.names sa.heard in
          let reply_a : a.reply_at ≡ sa.heard_of.0 = sa.reply in
          let reply_b : b.reply_at ≡ sb.heard_of.0 = sb.reply in
          omega arith

-- ---- a legal run

-- the stretch that is reached after i places
reach : List StretchKey → ℕ → ℕ
reach [] i = 0
reach (s ∷ ss) zero = 0
reach (s ∷ ss) (suc zero) = s.stretch
reach (s ∷ ss) (suc (suc i)) = reach ss (suc i)

reach_after : (ss : List StretchKey) (i : ℕ) (s : StretchKey) → slice_get ss i ≡ Some s → reach ss (suc i) ≡ s.stretch
unfolding reach
reach_after [] i s at = absurd (none_is_not_some s at)
reach_after (t ∷ ss) zero s at = ap (λ (n : StretchKey). n.stretch) (same_some t s at)
reach_after (t ∷ ss) (suc i) s at = reach_after ss i s at

reach_start : (ss : List StretchKey) → reach ss 0 ≡ 0
unfolding reach
reach_start [] = refl
reach_start (s ∷ ss) = refl

at_before : (ss : List StretchKey) (i j : ℕ) (s : StretchKey) → i < j → slice_get ss j ≡ Some s → (t : StretchKey) × (slice_get ss i ≡ Some t)
at_before [] i j s less at = absurd (none_is_not_some s at)
at_before (t ∷ ss) zero j s less at = (t, refl)
at_before (t ∷ ss) (suc i) zero s less at = absurd (omega arith)
at_before (t ∷ ss) (suc i) (suc j) s less at = at_before ss i j s (omega arith) at

not_past : (records : List Rec) (chain : List (Pair × ℕ)) (given : List (Option ℕ)) (places : List Place) (sorted : List StretchKey) → Given records chain given places sorted
    → (i : ℕ) (b : StretchKey) (sb : Stood records given b) → slice_get sorted i ≡ Some b → reach sorted i ≤ cap (pair_of sb.record_of.heard) b.stretch
not_past records chain given places sorted g zero b sb at = let start : reach sorted 0 ≡ 0 = reach_start sorted in omega arith
not_past records chain given places sorted g (suc i) b sb at =
    let a = at_before sorted i (suc i) b (omega arith) at in
    let here : reach sorted (suc i) ≡ a.0.stretch = reach_after sorted i a.0 a.1 in
    let sa = stood records chain given places sorted g i a.0 a.1 in
    let up = in_line records chain given places sorted g i (suc i) a.0 b (omega arith) a.1 at in
    by_kinds a.0 a.1 here up (kind_of records chain given places sorted g a.0 sa) (kind_of records chain given places sorted g b sb) where
      by_kinds : (a : StretchKey) → slice_get sorted i ≡ Some a → reach sorted (suc i) ≡ a.stretch → IsUpTo a b → {r : Rec} → Kind chain records a r → Kind chain records b sb.record_of
          → reach sorted (suc i) ≤ cap (pair_of sb.record_of.heard) b.stretch
      by_kinds a ata here up ka (reads later_is cap_is fits none) = let rise : a.stretch ≤ b.stretch = up.stretch in omega arith
      by_kinds a ata here up (reads later_a cap_a fits none) (writes w first_is cap_is) = elim (cases_lt a.stretch b.stretch) as (λ _. reach sorted (suc i) ≤ cap (pair_of sb.record_of.heard) b.stretch) [
        | inl less ↦ (omega arith)
        | inr not ↦
            let rise : a.stretch ≤ b.stretch = up.stretch in
            let same : a.stretch ≡ b.stretch = omega arith in
            absurd (true≢false (sym (up.after_up same later_a) ∙ first_is))
      ]
      by_kinds a ata here up (writes v first_a cap_a) (writes w first_is cap_is) = elim (cases_lt a.stretch b.stretch) as (λ _. reach sorted (suc i) ≤ cap (pair_of sb.record_of.heard) b.stretch) [
        | inl less ↦ (omega arith)
        | inr not ↦
            let rise : a.stretch ≤ b.stretch = up.stretch in
            let va : a.stretch ≡ suc v.link = v.stretch in
            let wb : b.stretch ≡ suc w.link = w.stretch in
            let link : v.link ≡ w.link = omega arith in
            let same = same_some {X = Pair × ℕ} (v.pair, a.rec) (w.pair, b.rec) (sym v.there ∙ (ap (slice_get chain) link ∙ w.there)) in
            let place : i ≡ suc i = once records chain given places sorted g i (suc i) a b ata at (ap (λ (c : Pair × ℕ). c.1) same) in
            absurd (omega arith)
      ]

-- the record of a write of the chain
record Performed (records : List Rec) (k : ℕ) (c : Pair × ℕ) : Type 0 where
  record_of : Rec
  heard_of : ℕ × Reply
  names : slice_get records c.1 ≡ Some record_of
  heard : record_of.heard ≡ Some heard_of
  pair : pair_of (Some heard_of) ≡ Some c.0

heard_is : (o : Option (ℕ × Reply)) (q : Pair) → pair_of o ≡ Some q → (h : ℕ × Reply) × (o ≡ Some h)
heard_is None q is = absurd (none_is_not_some q is)
heard_is (Some h) q is = (h, refl)

performed : (records : List Rec) (chain : List (Pair × ℕ)) (k : ℕ) (c : Pair × ℕ) → IsChain records chain → slice_get chain k ≡ Some c → Performed records k c
performed records chain k c is at =
    let has = has_back (performed_records 0 records) chain c is.all (k, at) in
    let l = link_record records 0 has.0 c has.1 in
    let number : l.from ≡ c.1 = (let e : c.1 ≡ 0 + l.from = l.number in omega arith) in
    let h = heard_is l.record_of.heard c.0 l.pair in
    record {
      record_of = l.record_of;
      heard_of = h.0;
      names = ap (slice_get records) (sym number) ∙ l.at;
      heard = h.1;
      pair = sym (ap pair_of h.1) ∙ l.pair;
    }

-- a write of the chain is given the stretch that it begins
given_own : (records : List Rec) (chain : List (Pair × ℕ)) (given : List (Option ℕ)) (places : List Place) (sorted : List StretchKey) → Given records chain given places sorted
    → (k : ℕ) (c : Pair × ℕ) → slice_get chain k ≡ Some c → (p : Performed records k c) → IsGiven given c.1 (suc k)
given_own records chain given places sorted g k c at p =
    let is = g.are_given.all c.1 p.record_of p.heard_of p.names p.heard in
    let fits : WriteFits chain c.1 c.0 is.0 =
    subst (λ d. FitsAs d chain (states_of records chain) c.1 p.record_of is.0) (ap pair_of p.heard ∙ p.pair) (g.are_given.fits c.1 is.0 p.record_of p.names is.1) in
    let same : fits.0 ≡ k = one_place chain fits.0 k (c.0, c.1) c g.rising fits.2 at refl in
    subst (IsGiven given c.1) (fits.1 ∙ ap suc same) is.1

-- what a write of the chain begins is reached where anything stands that is to be in it or later
reached : (records : List Rec) (chain : List (Pair × ℕ)) (given : List (Option ℕ)) (places : List Place) (sorted : List StretchKey) → Given records chain given places sorted
    → (i : ℕ) (b : StretchKey) (sb : Stood records given b) → slice_get sorted i ≡ Some b → cap (pair_of sb.record_of.heard) b.stretch ≤ reach sorted i
reached records chain given places sorted g i b sb at = by_target (cap (pair_of sb.record_of.heard) b.stretch) refl (kind_of records chain given places sorted g b sb) where
  below : (k : ℕ) → Kind chain records b sb.record_of → cap (pair_of sb.record_of.heard) b.stretch ≡ suc k → suc k ≤ b.stretch
  below k (writes w first_is cap_is) is = omega arith
  below k (reads later_is cap_is fits none) is = omega arith

  not_late : (k : ℕ) (s : StretchKey) → Kind chain records b sb.record_of → cap (pair_of sb.record_of.heard) b.stretch ≡ suc k → s.stretch ≡ suc k → s.follows_write ≡ false → IsUpTo b s → ⊥
  not_late k s (writes w first_is cap_is) is stretch after_is up = let rise : b.stretch ≤ s.stretch = up.stretch in omega arith
  not_late k s (reads later_is cap_is fits none) is stretch after_is up =
      let same : b.stretch ≡ s.stretch = omega arith in true≢false (sym (up.after_up same later_is) ∙ after_is)

  after : (k n i : ℕ) (s : StretchKey) → slice_get sorted n ≡ Some s → s.stretch ≡ suc k → n < i → slice_get sorted i ≡ Some b → suc k ≤ reach sorted i
  after k n zero s there stretch less ib = absurd (omega arith)
  after k n (suc j) s there stretch less ib =
      let a = at_before sorted j (suc j) b (omega arith) ib in
      let here : reach sorted (suc j) ≡ a.0.stretch = reach_after sorted j a.0 a.1 in
      let up = in_line records chain given places sorted g n j s a.0 (omega arith) there a.1 in
      let rise : s.stretch ≤ a.0.stretch = up.stretch in omega arith

  by_target : (t : ℕ) → cap (pair_of sb.record_of.heard) b.stretch ≡ t → Kind chain records b sb.record_of → cap (pair_of sb.record_of.heard) b.stretch ≤ reach sorted i
  by_target zero is kd = omega arith
  by_target (suc k) is kd =
      let few = g.are_given.within b.rec b.stretch sb.is in
      let low = below k kd is in
      let link = get_within chain k (omega arith) in
      let p = performed records chain k link.0 g.is_chain link.1 in
      let own = given_own records chain given places sorted g k link.0 link.1 p in
      let has = stands records chain given places sorted g link.0.1 (suc k) p.record_of p.heard_of p.names p.heard own in
      let early : has.0 < i = elim (cases_lt has.0 i) as (λ _. has.0 < i) [
        | inl less ↦ less
        | inr late ↦ absurd (not_late k (key_of (suc k) (is_later (pair_of (Some p.heard_of))) p.heard_of.0 link.0.1) kd is refl (ap is_later p.pair)
            (in_line records chain given places sorted g i has.0 b (key_of (suc k) (is_later (pair_of (Some p.heard_of))) p.heard_of.0 link.0.1) late at has.1))
      ] in
      let up = after k has.0 i (key_of (suc k) (is_later (pair_of (Some p.heard_of))) p.heard_of.0 link.0.1) has.1 refl early at in
      omega arith

-- the document after i places
abbrev state_reached : List Rec → List (Pair × ℕ) → List StretchKey → ℕ → DocState
state_reached records chain sorted i = state_in (states_of records chain) (reach sorted i)

step_there : (records : List Rec) (chain : List (Pair × ℕ)) (given : List (Option ℕ)) (places : List Place) (sorted : List StretchKey) → Given records chain given places sorted
    → (s : StretchKey) (st : Stood records given s)
    → StepsAt (state_in (states_of records chain) (cap (pair_of st.record_of.heard) s.stretch)) st.record_of.op st.record_of.heard None (state_in (states_of records chain) s.stretch)
step_there records chain given places sorted g s st = by_kind (kind_of records chain given places sorted g s st) where
  read_step : (heard : Option (ℕ × Reply)) → ReadFits (states_of records chain) st.record_of.op heard s.stretch
      → StepsAt (state_in (states_of records chain) s.stretch) st.record_of.op heard None (state_in (states_of records chain) s.stretch)
  read_step None fits = absurd fits
  read_step (Some h) fits = fits

  by_kind : Kind chain records s st.record_of
      → StepsAt (state_in (states_of records chain) (cap (pair_of st.record_of.heard) s.stretch)) st.record_of.op st.record_of.heard None (state_in (states_of records chain) s.stretch)
  by_kind (reads later_is cap_is fits none) =
      subst (λ n. StepsAt (state_in (states_of records chain) n) st.record_of.op st.record_of.heard None (state_in (states_of records chain) s.stretch)) (sym cap_is)
      (read_step st.record_of.heard fits)
  by_kind (writes w first_is cap_is) =
      let v = g.spread.stands s.rec st.record_of st.heard_of st.names st.heard in
      subst (λ n. StepsAt (state_in (states_of records chain) (cap (pair_of st.record_of.heard) n)) st.record_of.op st.record_of.heard None (state_in (states_of records chain) n))
      (same_stretch w v.0 (pair_of st.record_of.heard) refl first_is (g.spread.fits s.rec v.0 st.record_of st.names v.1)) (g.spread.steps s.rec v.0 st.record_of st.names v.1)
    where
      same_stretch : Written chain s → (m : ℕ) (d : Option Pair) → pair_of st.record_of.heard ≡ d → s.follows_write ≡ false → FitsAs d chain (states_of records chain) s.rec st.record_of m → m ≡ s.stretch
      same_stretch w m None is first_is fits =
          absurd (true≢false (sym (st.after_is ∙ ap is_later is) ∙ first_is))
      same_stretch w m (Some q) is first_is fits =
          let mine = g.are_given.fits s.rec s.stretch st.record_of st.names st.is in
          let here : WriteFits chain s.rec q s.stretch = subst (λ o. FitsAs o chain (states_of records chain) s.rec st.record_of s.stretch) is mine in
          let same : fits.0 ≡ here.0 = one_place chain fits.0 here.0 (q, s.rec) (q, s.rec) g.rising fits.2 here.2 refl in
          fits.1 ∙ (ap suc same ∙ sym here.1)

run_made : (records : List Rec) (ps : List Place) (at : ℕ → DocState)
    → ((i : ℕ) (p : Place) → slice_get ps i ≡ Some p → (r : Rec) × IsPlaceOf records p r × StepsAt (at i) r.op r.heard p.pair (at (suc i)))
    → IsPlaceRun records (at 0) ps (at (length ps))
run_made records [] at steps = refl
run_made records (p ∷ ps) at steps =
    let first = steps 0 p refl in
    (at 1, first.0, first.1, first.2, run_made records ps (λ i. at (suc i)) (λ i q there. steps (suc i) q there))

-- ---- the places of sorted standings

placed : (sorted : List StretchKey) (i : ℕ) (p : Place) → slice_get (map place_of sorted) i ≡ Some p → (s : StretchKey) × (slice_get sorted i ≡ Some s) × (p ≡ place_of s)
placed [] i p at = absurd (none_is_not_some p at)
placed (s ∷ ss) zero p at = (s, refl, sym (same_some (place_of s) p at))
placed (s ∷ ss) (suc i) p at = placed ss i p at

place_there : (sorted : List StretchKey) (i : ℕ) (s : StretchKey) → slice_get sorted i ≡ Some s → slice_get (map place_of sorted) i ≡ Some (place_of s)
place_there sorted i s at = slice_get-map place_of sorted i ∙ ap (option_map place_of) at

gives : (conflicts : Conflicts) (h : ℕ × Reply) → GivesAsMay conflicts (Some h) None
gives conflicts (at, Indexed q created) = refl
gives conflicts (at, Deleted q found) = refl
gives conflicts (at, Found q k) = refl
gives conflicts (at, Missing) = refl
gives conflicts (at, Conflict) = λ plain. refl

heard_early : (heard : Option (ℕ × Reply)) (h : ℕ × Reply) (place : ℕ) → heard ≡ Some h → IsHeardBefore heard place → h.0 < place
heard_early None h place is early = absurd (none_is_not_some h is)
heard_early (Some g) h place is early = subst (λ (k : ℕ × Reply). k.0 < place) (same_some g h is) early

some_is : (heard : Option (ℕ × Reply)) → IsSome heard → (h : ℕ × Reply) × (heard ≡ Some h)
some_is None is = absurd (true≢false (sym is))
some_is (Some h) is = (h, refl)

of_same : (records : List Rec) (given : List (Option ℕ)) (s : StretchKey) (p : Place) (r : Rec) (st : Stood records given s) → p ≡ place_of s → IsPlaceOf records p r → st.record_of ≡ r
of_same records given s p r st is names = same_some st.record_of r (sym st.names ∙ (ap (λ (q : Place). slice_get records q.rec) (sym is) ∙ names))

sorted_right : (conflicts : Conflicts) (records : List Rec) (chain : List (Pair × ℕ)) (given : List (Option ℕ)) (places : List Place) (sorted : List StretchKey)
    → Given records chain given places sorted → AreValidSoFar conflicts records (map place_of sorted)
sorted_right conflicts records chain given places sorted g = record {
  known = λ i p at.
      let s = placed sorted i p at in
      let st = stood records chain given places sorted g i s.0 s.1 in
      (st.record_of, ap (λ (q : Place). slice_get records q.rec) s.2 ∙ st.names, λ unanswered. none_is_not_some st.heard_of (sym unanswered.1 ∙ st.heard));
  once = λ i j p q at bt same.
      let s = placed sorted i p at in
      let t = placed sorted j q bt in
      once records chain given places sorted g i j s.0 t.0 s.1 t.1 (sym (ap (λ (o : Place). o.rec) s.2) ∙ (same ∙ ap (λ (o : Place). o.rec) t.2));
  pairs = λ i p r at names.
      let s = placed sorted i p at in
      let st = stood records chain given places sorted g i s.0 s.1 in
      let heard : r.heard ≡ Some st.heard_of = sym (ap (λ k. k.heard) (of_same records given s.0 p r st s.2 names)) ∙ st.heard in
      subst (λ o. GivesAsMay conflicts o p.pair) (sym heard) (subst (GivesAsMay conflicts (Some st.heard_of)) (sym (ap (λ (o : Place). o.pair) s.2)) (gives conflicts st.heard_of));
  in_time = λ i j p q r u less at bt of_p of_q early.
      let s = placed sorted i p at in
      let t = placed sorted j q bt in
      let ss = stood records chain given places sorted g i s.0 s.1 in
      let st = stood records chain given places sorted g j t.0 t.1 in
      let is_r = of_same records given s.0 p r ss s.2 of_p in
      let is_u = of_same records given t.0 q u st t.2 of_q in
      let heard : u.heard ≡ Some st.heard_of = sym (ap (λ k. k.heard) is_u) ∙ st.heard in
      let before : st.heard_of.0 < r.call_at = heard_early u.heard st.heard_of r.call_at heard early in
      in_time records chain given places sorted g i j s.0 t.0 ss st less s.1 t.1 (subst (λ k. st.heard_of.0 < k.call_at) (sym is_r) before);
  legal = (
    state_reached records chain sorted (length (map place_of sorted)),
    subst (λ s. IsPlaceRun records s (map place_of sorted) (state_reached records chain sorted (length (map place_of sorted)))) start
        (run_made records (map place_of sorted) (state_reached records chain sorted) steps),
  );
} where
  start : state_reached records chain sorted 0 ≡ Never
  start = ap (state_in (states_of records chain)) (reach_start sorted)

  steps : (i : ℕ) (p : Place) → slice_get (map place_of sorted) i ≡ Some p
      → (r : Rec) × IsPlaceOf records p r × StepsAt (state_reached records chain sorted i) r.op r.heard p.pair (state_reached records chain sorted (suc i))
  steps i p at =
      let s = placed sorted i p at in
      let st = stood records chain given places sorted g i s.0 s.1 in
      let above = not_past records chain given places sorted g i s.0 st s.1 in
      let below = reached records chain given places sorted g i s.0 st s.1 in
      let from : cap (pair_of st.record_of.heard) s.0.stretch ≡ reach sorted i = omega arith in
      let to : s.0.stretch ≡ reach sorted (suc i) = sym (reach_after sorted i s.0 s.1) in (
        st.record_of,
        ap (λ (q : Place). slice_get records q.rec) s.2 ∙ st.names,
        subst (λ o. StepsAt (state_in (states_of records chain) (reach sorted i)) st.record_of.op st.record_of.heard o (state_in (states_of records chain) (reach sorted (suc i))))
            (sym (ap (λ (o : Place). o.pair) s.2))
            (subst (λ n. StepsAt (state_in (states_of records chain) (reach sorted i)) st.record_of.op st.record_of.heard None (state_in (states_of records chain) n)) to
            (subst (λ n. StepsAt (state_in (states_of records chain) n) st.record_of.op st.record_of.heard None (state_in (states_of records chain) s.0.stretch)) from
            (step_there records chain given places sorted g s.0 st))),
      )

-- the order of the sweep is valid where any places that give no pair are
pub order_valid : (conflicts : Conflicts) (records : List Rec) (chain : List (Pair × ℕ)) (given : List (Option ℕ)) (places order : List Place) → IsChain records chain → Rises chain
    → AreGiven records chain given → AreSpread records chain places → IsStretchOrder records given order → AreValid conflicts records order
order_valid conflicts records chain given places order is_chain rising are_given spread (sorted, moved, in_order, is) =
    let g : Given records chain given places sorted = record {
      is_chain = is_chain;
      rising = rising;
      are_given = are_given;
      spread = spread;
      moved = moved;
      in_order = in_order;
    } in
    subst (AreValid conflicts records) (sym is) (record {
      right = sorted_right conflicts records chain given places sorted g;
      answered = λ k r at heard.
          let h = some_is r.heard heard in
          let given_is = are_given.all k r h.0 at h.1 in
          let has = stands records chain given places sorted g k given_is.0 r h.0 at h.1 given_is.1 in
          (has.0, place_of (key_of given_is.0 (is_later (pair_of (Some h.0))) h.0.0 k), place_there sorted has.0 _ has.1, refl);
    })

-- and gives no pair
pub order_unpaired : (records : List Rec) (given : List (Option ℕ)) (order : List Place) → IsStretchOrder records given order → AreUnpaired order
order_unpaired records given order (sorted, moved, in_order, is) =
    subst AreUnpaired (sym is) (λ i p at. ap (λ (q : Place). q.pair) (placed sorted i p at).2)
