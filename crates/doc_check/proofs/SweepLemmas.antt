-- The sweep: what is known of the stretches given so far, one moment more, and that it fails just where there is no order.
use Rattle.std.proofs.Common.{ℕ, zero, suc, ◌≡◌, ◌<◌, ◌≤◌, ◌⊎◌, inl, inr, List, [], ◌∷◌, length, refl, sym, ap, subst, ◌∙◌, arith, Bool, true, false, Option, Some, None, slice_get}
use Rattle.std.specs.Prelude.{set}
use Rattle.std.proofs.lemmas.Bool.{cases_lt, cases_eq, cases_order, false≢true, true≢false}
use Rattle.std.proofs.lemmas.List.{length-set}
use Rattle.std.proofs.lemmas.Option.{slice_get_within}
use Rattle.version_pair.specs.declared.pair.Pair.{Pair}
use Rattle.doc_register.specs.declared.reply.Reply.{Reply}
use Rattle.events.specs.declared.record.Rec.{Rec}
use Rattle.version_pair.proofs.ListLemmas.{none_is_not_some, same_some, slice_get-set_other, slice_get-set_same}
use Rattle.places.specs.declared.place.Place.{Place}
use Rattle.events.specs.Heard.{pair_of}
use Rattle.doc_check.specs.aids.Stretches.{Fits, cap}
use Rattle.doc_check.specs.declared.moments.Moment.{Moment}
use Rattle.doc_check.specs.aids.Sweep.{AreGiven, AreMoments, AreSpread, IsGiven, IsMet, IsMoment, IsStuck, IsUpTo, StandsIn, moment_at}

-- ---- lists

set_same : {X : Type 0} (xs : List X) (k : ℕ) (x : X) → slice_get xs k ≡ Some x → set xs k x ≡ xs
set_same [] k x at = absurd (none_is_not_some x at)
set_same (y ∷ xs) zero x at = ap (λ z. z ∷ xs) (sym (same_some y x at))
set_same (y ∷ xs) (suc k) x at = ap (λ zs. y ∷ zs) (set_same xs k x at)

cap_grows : (d : Option Pair) (i j : ℕ) → i ≤ j → cap d i ≤ cap d j
cap_grows None i j less = less
cap_grows (Some q) i j less = omega arith

-- ---- what is known

-- the bound is the last stretch, or what may come before a record whose call is among the first i moments
abbrev pub IsReached : List Rec → List (Pair × ℕ) → List Moment → ℕ → List (Option ℕ) → ℕ → Type 0
IsReached records chain moments i given bound = (bound ≡ length chain) ⊎ ((k t x l : ℕ) × (r : Rec) × (k < i)
    × (slice_get moments k ≡ Some (moment_at t false x)) × (slice_get records x ≡ Some r) × IsGiven given x l × (bound ≡ cap (pair_of r.heard) l))

-- What is known after the first i moments: of the stretches given, and of the bound.
pub record IsSwept (records : List Rec) (chain : List (Pair × ℕ)) (moments : List Moment) (i : ℕ) (given : List (Option ℕ)) (bound : ℕ) : Type 0 where
  pub size : length given ≡ length records
  pub bounded : bound ≤ length chain
  pub within : (y j : ℕ) → IsGiven given y j → j ≤ length chain
  pub fits : (y j : ℕ) (r : Rec) → slice_get records y ≡ Some r → IsGiven given y j → Fits records chain y r j
  pub lower : (k t x : ℕ) (r : Rec) → k < i → slice_get moments k ≡ Some (moment_at t false x) → slice_get records x ≡ Some r
      → (l : ℕ) × IsGiven given x l × (bound ≤ cap (pair_of r.heard) l)
  pub before : (k t x y j l : ℕ) (r s : Rec) (h : ℕ × Reply) → k < i → slice_get moments k ≡ Some (moment_at t false x) → slice_get records x ≡ Some r
      → slice_get records y ≡ Some s → s.heard ≡ Some h → h.0 < t → IsGiven given y j → IsGiven given x l → j ≤ cap (pair_of r.heard) l
  pub met : (y j : ℕ) → IsGiven given y j → (k t : ℕ) × (k < i) × (slice_get moments k ≡ Some (moment_at t true y))
  pub all_met : (k t y : ℕ) → k < i → slice_get moments k ≡ Some (moment_at t true y) → (j : ℕ) × IsGiven given y j
  pub latest : (places : List Place) → AreSpread records chain places → (y j m : ℕ) → IsGiven given y j → StandsIn records places y m → m ≤ j
  pub reached : IsReached records chain moments i given bound

-- ---- moments

-- a moment's place
reply_place : (records : List Rec) (t y : ℕ) (r : Rec) (h : ℕ × Reply) → IsMoment records (moment_at t true y) → slice_get records y ≡ Some r → r.heard ≡ Some h → t ≡ h.0
reply_place records t y r h (s, g, names, heard, replied, called) at is =
    let same : s ≡ r = same_some s r (sym names ∙ at) in
    let equal : g ≡ h = same_some g h (sym heard ∙ (ap (λ k. k.heard) same ∙ is)) in
    replied refl ∙ ap (λ x. x.0) equal

call_place : (records : List Rec) (t y : ℕ) (r : Rec) → IsMoment records (moment_at t false y) → slice_get records y ≡ Some r → t ≡ r.call_at
call_place records t y r (s, g, names, heard, replied, called) at =
    let same : s ≡ r = same_some s r (sym names ∙ at) in called (λ yes. false≢true yes) ∙ ap (λ k. k.call_at) same

-- a call that is met before a reply stands behind it
call_behind : (t u x y : ℕ) → IsUpTo (moment_at t true y) (moment_at u false x) → t < u
call_behind t u x y (inl less) = less
call_behind t u x y (inr same) = absurd (false≢true (same.1 refl))

at_most : (a b : Moment) → IsUpTo a b → a.index ≤ b.index
at_most a b (inl less) = omega arith
at_most a b (inr same) = let equal : a.index ≡ b.index = same.0 in omega arith

kinds : (a b : Moment) → a.is_reply ≡ true → b.is_reply ≡ false → a ≡ b → ⊥
kinds a b reply call same = true≢false (sym reply ∙ (ap (λ m. m.is_reply) same ∙ call))

-- ---- the bound is above all that any order allows

under_bound : (records : List Rec) (chain : List (Pair × ℕ)) (moments : List Moment) (i : ℕ) (given : List (Option ℕ)) (bound : ℕ) (places : List Place)
    → AreMoments records moments → IsSwept records chain moments i given bound → AreSpread records chain places
    → (t y m : ℕ) (r : Rec) (h : ℕ × Reply) → slice_get moments i ≡ Some (moment_at t true y) → slice_get records y ≡ Some r → r.heard ≡ Some h → StandsIn records places y m → m ≤ bound
under_bound records chain moments i given bound places are swept spread t y m r h at names heard stands = by_reach swept.reached where
  by_reach : IsReached records chain moments i given bound → m ≤ bound
  by_reach (inl end) = let few = spread.within y m stands in omega arith
  by_reach (inr (k, u, x, l, s, less, met, others, is, bound_is)) =
      let behind : t < u = call_behind t u x y (are.falls k i (moment_at u false x) (moment_at t true y) less met at) in
      let of_reply : t ≡ h.0 = reply_place records t y r h (are.sound i (moment_at t true y) at) names heard in
      let of_call : u ≡ s.call_at = call_place records u x s (are.sound k (moment_at u false x) met) others in
      let moment = are.sound k (moment_at u false x) met in
      let answered : s.heard ≡ Some moment.1 = sym (ap (λ q. q.heard) (same_some moment.0 s (sym moment.2 ∙ others))) ∙ moment.3 in
      let other = spread.stands x s moment.1 others answered in
      let low : other.0 ≤ l = swept.latest places spread x l other.0 is other.1 in
      let first = spread.before x y other.0 m s r h others names heard (omega arith) other.1 stands in
      let second = cap_grows (pair_of s.heard) other.0 l low in
      omega arith

-- ---- where the sweep is stuck, there is no order

stuck_reply : (records : List Rec) (chain : List (Pair × ℕ)) (moments : List Moment) (i : ℕ) (given : List (Option ℕ)) (bound t y : ℕ) (r : Rec)
    → AreMoments records moments → IsSwept records chain moments i given bound → slice_get moments i ≡ Some (moment_at t true y) → slice_get records y ≡ Some r
    → IsStuck records chain given bound (moment_at t true y) r → (places : List Place) → AreSpread records chain places → ⊥
stuck_reply records chain moments i given bound t y r are swept at names stuck places spread =
    let moment = are.sound i (moment_at t true y) at in
    let answered : r.heard ≡ Some moment.1 = sym (ap (λ q. q.heard) (same_some moment.0 r (sym moment.2 ∙ names))) ∙ moment.3 in
    let stands = spread.stands y r moment.1 names answered in
    stuck.nowhere refl stands.0 (under_bound records chain moments i given bound places are swept spread t y stands.0 r moment.1 at names answered stands.1)
    (spread.fits y stands.0 r names stands.1)

stuck_call : (records : List Rec) (chain : List (Pair × ℕ)) (moments : List Moment) (i : ℕ) (given : List (Option ℕ)) (bound t x : ℕ) (r : Rec)
    → AreMoments records moments → IsSwept records chain moments i given bound → slice_get moments i ≡ Some (moment_at t false x) → slice_get records x ≡ Some r
    → IsStuck records chain given bound (moment_at t false x) r → (places : List Place) → AreSpread records chain places → ⊥
stuck_call records chain moments i given bound t x r are swept at names stuck places spread =
    let moment = are.sound i (moment_at t false x) at in
    let answered : r.heard ≡ Some moment.1 = sym (ap (λ q. q.heard) (same_some moment.0 r (sym moment.2 ∙ names))) ∙ moment.3 in
    let own = spread.own x r moment.1 names answered in
    let reply = are.replies x r moment.1 names answered in
    let of_call : t ≡ r.call_at = call_place records t x r moment names in
    elim (cases_order reply.0 i) as (λ _. ⊥) [
      | inl same ↦ kinds (moment_at moment.1.0 true x) (moment_at t false x) refl refl (same_some _ _ (sym reply.1 ∙ (ap (slice_get moments) same ∙ at)))
      | inr other ↦ elim other as (λ _. ⊥) [
        | inl early ↦
            let is = swept.all_met reply.0 moment.1.0 x early reply.1 in
            none_is_not_some is.0 (same_some None (Some is.0) (sym stuck.none ∙ is.1))
        | inr late ↦ let behind : moment.1.0 < t = call_behind moment.1.0 t x x (are.falls i reply.0 (moment_at t false x) (moment_at moment.1.0 true x) late at reply.1) in omega arith
      ]
    ]

pub stuck_none : (records : List Rec) (chain : List (Pair × ℕ)) (moments : List Moment) (i : ℕ) (given : List (Option ℕ)) (bound : ℕ) (m : Moment) (r : Rec)
    → AreMoments records moments → IsSwept records chain moments i given bound → slice_get moments i ≡ Some m → slice_get records m.rec ≡ Some r
    → IsStuck records chain given bound m r → (places : List Place) → AreSpread records chain places → ⊥
stuck_none records chain moments i given bound m r are swept at names stuck places spread = by_kind m.is_reply at stuck where
  by_kind : (b : Bool) → slice_get moments i ≡ Some (moment_at m.index b m.rec) → IsStuck records chain given bound (moment_at m.index b m.rec) r → ⊥
  by_kind true at stuck = stuck_reply records chain moments i given bound m.index m.rec r are swept at names stuck places spread
  by_kind false at stuck = stuck_call records chain moments i given bound m.index m.rec r are swept at names stuck places spread

-- ---- one moment more

below_suc : (k i : ℕ) → k < suc i → (k < i) ⊎ (k ≡ i)
below_suc k i less = elim (cases_lt k i) as (λ _. (k < i) ⊎ (k ≡ i)) [ inl early ↦ inl early | inr late ↦ inr (omega arith) ]

same_given : (given : List (Option ℕ)) (y i j : ℕ) → IsGiven given y i → IsGiven given y j → i ≡ j
same_given given y i j a b = same_some i j (same_some (Some i) (Some j) (sym a ∙ b))

-- at a call the bound falls
called_more : (records : List Rec) (chain : List (Pair × ℕ)) (moments : List Moment) (i : ℕ) (given : List (Option ℕ)) (bound lowered t x stretch : ℕ) (r : Rec)
    → AreMoments records moments → IsSwept records chain moments i given bound → slice_get moments i ≡ Some (moment_at t false x) → slice_get records x ≡ Some r
    → IsGiven given x stretch → lowered ≤ bound → lowered ≤ cap (pair_of r.heard) stretch → (lowered ≡ bound) ⊎ (lowered ≡ cap (pair_of r.heard) stretch)
    → IsSwept records chain moments (suc i) given lowered
called_more records chain moments i given bound lowered t x stretch r are swept at names is falls low one =
    let few = swept.bounded in
    record {
      size = swept.size;
      bounded = (omega arith);
      within = swept.within;
      fits = swept.fits;
      lower = λ k u z s less met others. elim (below_suc k i less) as (λ _. (l : ℕ) × IsGiven given z l × (lowered ≤ cap (pair_of s.heard) l)) [
        | inl early ↦ let old = swept.lower k u z s early met others in let above : bound ≤ cap (pair_of s.heard) old.0 = old.2 in (old.0, old.1, (omega arith))
        | inr here ↦
            let same : (moment_at t false x) ≡ (moment_at u false z) = same_some {X = Moment} (moment_at t false x) (moment_at u false z) (sym at ∙ (ap (slice_get moments) (sym here) ∙ met)) in
            let rec_is : x ≡ z = ap (λ (m : Moment). m.rec) same in
            let record_is : r ≡ s = same_some r s (sym names ∙ (ap (slice_get records) rec_is ∙ others)) in
            (stretch, subst (λ n. IsGiven given n stretch) rec_is is, subst (λ q. lowered ≤ cap (pair_of q.heard) stretch) record_is low)
      ];
      before = λ k u z y j l s q h less met others ys heard early yj zl. elim (below_suc k i less) as (λ _. j ≤ cap (pair_of s.heard) l) [
        | inl first ↦ swept.before k u z y j l s q h first met others ys heard early yj zl
        | inr here ↦
            let same : (moment_at t false x) ≡ (moment_at u false z) = same_some {X = Moment} (moment_at t false x) (moment_at u false z) (sym at ∙ (ap (slice_get moments) (sym here) ∙ met)) in
            let place : t ≡ u = ap (λ (m : Moment). m.index) same in
            let reply = swept.met y j yj in
            let of_reply : reply.1 ≡ h.0 = reply_place records reply.1 y q h (are.sound reply.0 (moment_at reply.1 true y) reply.3) ys heard in
            let up : t ≤ reply.1 = at_most (moment_at t false x) (moment_at reply.1 true y) (are.falls reply.0 i (moment_at reply.1 true y) (moment_at t false x) reply.2 reply.3 at) in
            absurd (omega arith)
      ];
      met = λ y j yj. let old = swept.met y j yj in let less : old.0 < i = old.2 in (old.0, old.1, (omega arith), old.3);
      all_met = λ k u y less met. elim (below_suc k i less) as (λ _. (j : ℕ) × IsGiven given y j) [
        | inl early ↦ swept.all_met k u y early met
        | inr here ↦ absurd (kinds (moment_at u true y) (moment_at t false x) refl refl (same_some {X = Moment} (moment_at u true y) (moment_at t false x) (sym met ∙ (ap (slice_get moments) here ∙ at))))
      ];
      latest = swept.latest;
      reached = elim one as (λ _. IsReached records chain moments (suc i) given lowered) [
        | inl kept ↦ elim swept.reached as (λ _. IsReached records chain moments (suc i) given lowered) [
          | inl end ↦ inl (kept ∙ end)
          | inr old ↦ inr (old.0, old.1, old.2, old.3, old.4, (let less : old.0 < i = old.5 in omega arith), old.6, old.7, old.8, kept ∙ old.9)
        ]
        | inr new ↦ inr (i, t, x, stretch, r, (omega arith), at, names, is, new)
      ];
    }

-- at a reply of a record that has a stretch nothing changes
replied_again : (records : List Rec) (chain : List (Pair × ℕ)) (moments : List Moment) (i : ℕ) (given : List (Option ℕ)) (bound t y stretch : ℕ)
    → IsSwept records chain moments i given bound → slice_get moments i ≡ Some (moment_at t true y) → IsGiven given y stretch → IsSwept records chain moments (suc i) given bound
replied_again records chain moments i given bound t y stretch swept at is = record {
  size = swept.size;
  bounded = swept.bounded;
  within = swept.within;
  fits = swept.fits;
  lower = λ k u z s less met others. swept.lower k u z s (call_early k u z less met) met others;
  before = λ k u z o j l s q h less met others os heard early oj zl. swept.before k u z o j l s q h (call_early k u z less met) met others os heard early oj zl;
  met = λ o j oj. let old = swept.met o j oj in let less : old.0 < i = old.2 in (old.0, old.1, (omega arith), old.3);
  all_met = λ k u o less met. elim (below_suc k i less) as (λ _. (j : ℕ) × IsGiven given o j) [
    | inl early ↦ swept.all_met k u o early met
    | inr here ↦
        let rec_is : y ≡ o = ap (λ (m : Moment). m.rec) (same_some {X = Moment} (moment_at t true y) (moment_at u true o) (sym at ∙ (ap (slice_get moments) (sym here) ∙ met))) in
        (stretch, subst (λ n. IsGiven given n stretch) rec_is is)
  ];
  latest = swept.latest;
  reached = elim swept.reached as (λ _. IsReached records chain moments (suc i) given bound) [
    | inl end ↦ inl end
    | inr old ↦ inr (old.0, old.1, old.2, old.3, old.4, (let less : old.0 < i = old.5 in omega arith), old.6, old.7, old.8, old.9)
  ];
} where
  call_early : (k u z : ℕ) → k < suc i → slice_get moments k ≡ Some (moment_at u false z) → k < i
  call_early k u z less met = elim (below_suc k i less) as (λ _. k < i) [
    | inl early ↦ early
    | inr here ↦ absurd (kinds (moment_at t true y) (moment_at u false z) refl refl (same_some {X = Moment} (moment_at t true y) (moment_at u false z) (sym at ∙ (ap (slice_get moments) (sym here) ∙ met))))
  ]

-- at a reply of a record that has none it is given the latest that it fits
replied_first : (records : List Rec) (chain : List (Pair × ℕ)) (moments : List Moment) (i : ℕ) (given : List (Option ℕ)) (bound t y stretch : ℕ) (r : Rec)
    → AreMoments records moments → IsSwept records chain moments i given bound → slice_get moments i ≡ Some (moment_at t true y) → slice_get records y ≡ Some r
    → slice_get given y ≡ Some None → stretch ≤ bound → Fits records chain y r stretch → ((l : ℕ) → l ≤ bound → Fits records chain y r l → l ≤ stretch)
    → IsSwept records chain moments (suc i) (set given y (Some stretch)) bound
replied_first records chain moments i given bound t y stretch r are swept at names none low fit best =
    let few = swept.bounded in
    record {
      size = length-set given y (Some stretch) ∙ swept.size;
      bounded = few;
      within = λ z j is. elim (now_given z j is) as (λ _. j ≤ length chain) [
        | inl new ↦ let same : j ≡ stretch = new.1 in omega arith
        | inr old ↦ swept.within z j old.1
      ];
      fits = λ z j s others is. elim (now_given z j is) as (λ _. Fits records chain z s j) [
        | inl new ↦
            let record_is : r ≡ s = same_some r s (sym names ∙ (ap (slice_get records) (sym new.0) ∙ others)) in
            subst (λ n. Fits records chain n s j) (sym new.0) (subst (λ l. Fits records chain y s l) (sym new.1) (subst (λ q. Fits records chain y q stretch) record_is fit))
        | inr old ↦ swept.fits z j s others old.1
      ];
      lower = λ k u z s less met others.
          let old = swept.lower k u z s (call_early k u z less met) met others in
          (old.0, still_given z old.0 old.1, old.2);
      before = λ k u z o j l s q h less met others os heard early oj zl.
          let first = call_early k u z less met in
          let old = swept.lower k u z s first met others in
          let was : IsGiven given z l = still_there z l (is_other z old.0 old.1) zl in
          elim (now_given o j oj) as (λ _. j ≤ cap (pair_of s.heard) l) [
            | inl new ↦
                let same : j ≡ stretch = new.1 in
                let one : old.0 ≡ l = same_given given z old.0 l old.1 was in
                let above : bound ≤ cap (pair_of s.heard) l = subst (λ n. bound ≤ cap (pair_of s.heard) n) one old.2 in
                omega arith
            | inr kept ↦ swept.before k u z o j l s q h first met others os heard early kept.1 was
          ];
      met = λ z j is. elim (now_given z j is) as (λ _. (k u : ℕ) × (k < suc i) × (slice_get moments k ≡ Some (moment_at u true z))) [
        | inl new ↦ (i, t, (omega arith), at ∙ ap (λ n. Some (moment_at t true n)) (sym new.0))
        | inr old ↦ let m = swept.met z j old.1 in let less : m.0 < i = m.2 in (m.0, m.1, (omega arith), m.3)
      ];
      all_met = λ k u z less met. elim (below_suc k i less) as (λ _. (j : ℕ) × IsGiven (set given y (Some stretch)) z j) [
        | inl early ↦ let old = swept.all_met k u z early met in (old.0, still_given z old.0 old.1)
        | inr here ↦
            let rec_is : y ≡ z = ap (λ (m : Moment). m.rec) (same_some {X = Moment} (moment_at t true y) (moment_at u true z) (sym at ∙ (ap (slice_get moments) (sym here) ∙ met))) in
            (stretch, subst (λ n. IsGiven (set given y (Some stretch)) n stretch) rec_is (slice_get-set_same given y (Some stretch) (slice_get_within given y None none)))
      ];
      latest = λ places spread z j m is stands. elim (now_given z j is) as (λ _. m ≤ j) [
        | inl new ↦
            let stands_y = subst (λ n. StandsIn records places n m) new.0 stands in
            let moment = are.sound i (moment_at t true y) at in
            let answered : r.heard ≡ Some moment.1 = sym (ap (λ q. q.heard) (same_some moment.0 r (sym moment.2 ∙ names))) ∙ moment.3 in
            let under = under_bound records chain moments i given bound places are swept spread t y m r moment.1 at names answered stands_y in
            let most : m ≤ stretch = best m under (spread.fits y m r names stands_y) in
            let same : j ≡ stretch = new.1 in omega arith
        | inr old ↦ swept.latest places spread z j m old.1 stands
      ];
      reached = elim swept.reached as (λ _. IsReached records chain moments (suc i) (set given y (Some stretch)) bound) [
        | inl end ↦ inl end
        | inr old ↦ inr (old.0, old.1, old.2, old.3, old.4, (let less : old.0 < i = old.5 in omega arith), old.6, old.7, still_given old.2 old.3 old.8, old.9)
      ];
    } where
      is_other : (z l : ℕ) → IsGiven given z l → z ≡ y → ⊥
      is_other z l is same = none_is_not_some l (same_some None (Some l) (sym none ∙ (ap (slice_get given) (sym same) ∙ is)))

      still_given : (z l : ℕ) → IsGiven given z l → IsGiven (set given y (Some stretch)) z l
      still_given z l is = slice_get-set_other given y z (Some stretch) (is_other z l is) ∙ is

      still_there : (z l : ℕ) → (z ≡ y → ⊥) → IsGiven (set given y (Some stretch)) z l → IsGiven given z l
      still_there z l other is = sym (slice_get-set_other given y z (Some stretch) other) ∙ is

      now_given : (z j : ℕ) → IsGiven (set given y (Some stretch)) z j → ((z ≡ y) × (j ≡ stretch)) ⊎ ((z ≡ y → ⊥) × IsGiven given z j)
      now_given z j is = elim (cases_eq z y) as (λ _. ((z ≡ y) × (j ≡ stretch)) ⊎ ((z ≡ y → ⊥) × IsGiven given z j)) [
        | inl same ↦ inl (
          same,
          same_some j stretch (same_some (Some j) (Some stretch) (sym is ∙ (ap (slice_get (set given y (Some stretch))) same
              ∙ slice_get-set_same given y (Some stretch) (slice_get_within given y None none)))),
        )
        | inr other ↦ inr (other, sym (slice_get-set_other given y z (Some stretch) other) ∙ is)
      ]

      call_early : (k u z : ℕ) → k < suc i → slice_get moments k ≡ Some (moment_at u false z) → k < i
      call_early k u z less met = elim (below_suc k i less) as (λ _. k < i) [
        | inl early ↦ early
        | inr here ↦ absurd (kinds (moment_at t true y) (moment_at u false z) refl refl (same_some {X = Moment} (moment_at t true y) (moment_at u false z) (sym at ∙ (ap (slice_get moments) (sym here) ∙ met))))
      ]

pub swept_more : (records : List Rec) (chain : List (Pair × ℕ)) (moments : List Moment) (i : ℕ) (given : List (Option ℕ)) (bound lowered stretch : ℕ) (m : Moment) (r : Rec)
    → AreMoments records moments → IsSwept records chain moments i given bound → slice_get moments i ≡ Some m → slice_get records m.rec ≡ Some r
    → IsMet records chain given bound m r stretch lowered → IsSwept records chain moments (suc i) (set given m.rec (Some stretch)) lowered
swept_more records chain moments i given bound lowered stretch m r are swept at names met = by_kind m.is_reply at met where
  by_kind : (b : Bool) → slice_get moments i ≡ Some (moment_at m.index b m.rec) → IsMet records chain given bound (moment_at m.index b m.rec) r stretch lowered
      → IsSwept records chain moments (suc i) (set given m.rec (Some stretch)) lowered
  by_kind true at met =
      let now = met.replied refl in
      subst (IsSwept records chain moments (suc i) (set given m.rec (Some stretch))) (sym now.0)
      (elim now.1 as (λ _. IsSwept records chain moments (suc i) (set given m.rec (Some stretch)) bound) [
        | inl again ↦
            subst (λ g. IsSwept records chain moments (suc i) g bound) (sym (set_same given m.rec (Some stretch) again))
            (replied_again records chain moments i given bound m.index m.rec stretch swept at again)
        | inr first ↦ replied_first records chain moments i given bound m.index m.rec stretch r are swept at names first.0 first.1 first.2 first.3
      ])
  by_kind false at met =
      let now = met.called (λ yes. false≢true yes) in
      subst (λ g. IsSwept records chain moments (suc i) g lowered) (sym (set_same given m.rec (Some stretch) now.0))
      (called_more records chain moments i given bound lowered m.index m.rec stretch r are swept at names now.0 met.falls now.1 now.2)

-- ---- all moments

pub swept_all : (records : List Rec) (chain : List (Pair × ℕ)) (moments : List Moment) (i : ℕ) (given : List (Option ℕ)) (bound : ℕ) → i ≡ length moments
    → AreMoments records moments → IsSwept records chain moments i given bound → AreGiven records chain given
swept_all records chain moments i given bound end are swept = record {
  size = swept.size;
  all = λ y r h at heard.
      let reply = are.replies y r h at heard in
      let within : reply.0 < length moments = slice_get_within moments reply.0 (moment_at h.0 true y) reply.1 in
      swept.all_met reply.0 h.0 y (omega arith) reply.1;
  within = swept.within;
  fits = swept.fits;
  before = λ x y l j r s h g names others called heard early xl yj.
      let call = are.calls x r g names called in
      let within : call.0 < length moments = slice_get_within moments call.0 (moment_at r.call_at false x) call.1 in
      swept.before call.0 r.call_at x y j l r s h (omega arith) call.1 names others heard early yj xl;
}
