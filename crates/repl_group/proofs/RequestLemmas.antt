-- What is listed beside the requests stays right where a request changes its stage.
use Rattle.std.proofs.Common.{ℕ, zero, suc, ◌≡◌, ◌≢◌, ◌≤◌, ◌+◌, ◌⊎◌, inl, inr, List, [], ◌∷◌, ◌++◌, length, refl, sym, ap, ◌∙◌, add-zero, one-add, zero-add, arith, Option, Some, Bool, true, false, cond, filter, true≢false}
use Rattle.std.specs.Prelude.{◌==◌, ◌&&◌, if◌then◌else◌, insert, nat_lt, not, slice_get, slice_set, unwrap_or}
use Rattle.std.specs.List.{list_any, position, position_or_len}
use Rattle.std.proofs.lemmas.Bool.{eqb-true, eq-eqb, false≢true, le-ltb, lt-ltb, ne_eqb}
use Rattle.std.proofs.Math.Bool.{or-false}
use Rattle.std.proofs.lemmas.List.Folds.{list_any-append}
use Rattle.doc_register.specs.declared.op.Op.{Op}
use Rattle.repl_group.specs.declared.request.Request.{Request}
use Rattle.repl_group.specs.declared.request.Stage.{Stage}
use Rattle.repl_group.specs.declared.request.Stage.TheVariants.{Queued, InFlight, Answered, Lost}
use Rattle.repl_group.specs.Requests.{in_flight_from, is_busy, is_in_flight, is_queued, lost_from, lost_request, with_flights_lost, with_stage}
use Rattle.repl_group.specs.aids.Tracking.{AreApart, AreListed, put_in_order, queued_request}
use Rattle.version_pair.proofs.ListLemmas.{from_set, get_snoc, mapped_from, none_is_not_some}
use Rattle.repl_group.proofs.ListLemmas.{first_or_len, list_any-none, list_any-set_alike, list_any-set_more, none_passes}

-- ---- a place in order

pub insert-in_order : (us : List ℕ) (t : ℕ) → insert us (position_or_len (nat_lt t) us) t ≡ put_in_order t us
insert-in_order [] t = refl
insert-in_order (u ∷ us) t = by_test (nat_lt t u) (insert-in_order us t) where
  by_test : (b : Bool) → insert us (position_or_len (nat_lt t) us) t ≡ put_in_order t us
      → insert (u ∷ us) (cond (not b) (1 + position_or_len (nat_lt t) us) 0) t ≡ (if b then t ∷ u ∷ us else u ∷ put_in_order t us)
  by_test true rest = refl
  by_test false rest = ap (λ n. insert (u ∷ us) n t) (one-add (position_or_len (nat_lt t) us)) ∙ ap (λ vs. u ∷ vs) rest

-- the place of the first greater number, or the length where there is none
pub place_or_len : (us : List ℕ) (t : ℕ) (vs : List ℕ) (first : Option ℕ) (len place : ℕ) → place ≡ unwrap_or first len → first ≡ position (nat_lt t) vs → vs ≡ us → len ≡ length us
    → place ≡ position_or_len (nat_lt t) us
place_or_len us t vs first len place is first_is same len_is =
    is ∙ (ap (λ o. unwrap_or o len) (first_is ∙ ap (position (nat_lt t)) same) ∙ (ap (unwrap_or (position (nat_lt t) us)) len_is ∙ first_or_len (nat_lt t) us))

-- ---- the tickets in flight

-- each ticket in the list is at least i
abbrev AreFrom : ℕ → List ℕ → Type 0
AreFrom i [] = Unit {0}
AreFrom i (t ∷ ts) = (i ≤ t) × AreFrom i ts

later : (i j : ℕ) (ts : List ℕ) → i ≤ j → AreFrom j ts → AreFrom i ts
later i j [] below from = tt
later i j (t ∷ ts) below from = (let first : j ≤ t = from.0 in omega arith, later i j ts below from.1)

in_flight-from : (i : ℕ) (xs : List Request) → AreFrom i (in_flight_from i xs)
in_flight-from i [] = tt
in_flight-from i (x ∷ xs) =
    by_test (is_in_flight x.stage) (later i (i + 1) (in_flight_from (i + 1) xs) (omega arith) (in_flight-from (i + 1) xs)) where
      by_test : (b : Bool) → AreFrom i (in_flight_from (i + 1) xs) → AreFrom i (if b then i ∷ in_flight_from (i + 1) xs else in_flight_from (i + 1) xs)
      by_test true rest = (omega arith, rest)
      by_test false rest = rest

put-first : (t : ℕ) (ts : List ℕ) → AreFrom (t + 1) ts → put_in_order t ts ≡ t ∷ ts
put-first t [] from = refl
put-first t (u ∷ us) from = ap (λ b. if b then t ∷ u ∷ us else u ∷ put_in_order t us) (lt-ltb t u (let high : t + 1 ≤ u = from.0 in omega arith))

filter-others : (t : ℕ) (ts : List ℕ) → AreFrom (t + 1) ts → filter (λ u. not (u == t)) ts ≡ ts
filter-others t [] from = refl
filter-others t (u ∷ us) from =
    ap (λ b. cond (not b) (u ∷ filter (λ v. not (v == t)) us) (filter (λ v. not (v == t)) us)) (ne_eqb u t (λ same. (let high : t + 1 ≤ u = from.0 in absurd (omega arith))))
    ∙ ap (λ vs. u ∷ vs) (filter-others t us from.1)

-- the tickets in flight, from the first request on
abbrev first_or : Bool → ℕ → List ℕ → List ℕ
first_or b i ts = if b then i ∷ ts else ts

-- a change of stage that neither begins nor ends a flight
pub in_flight-same : (i : ℕ) (xs : List Request) (t : ℕ) (x y : Request) → slice_get xs t ≡ Some x → is_in_flight y.stage ≡ is_in_flight x.stage
    → in_flight_from i (slice_set xs t y) ≡ in_flight_from i xs
in_flight-same i [] t x y at same = refl
in_flight-same i (z ∷ zs) zero x y at same =
    let here : z ≡ x = cc in
    ap (λ b. first_or b i (in_flight_from (i + 1) zs)) (same ∙ ap (λ (r : Request). is_in_flight r.stage) (sym here))
in_flight-same i (z ∷ zs) (suc t) x y at same = ap (first_or (is_in_flight z.stage) i) (in_flight-same (i + 1) zs t x y at same)

-- the place behind the first one
pub one_further : (n m : ℕ) → n + 1 + m ≡ n + suc m
one_further n m = omega arith

-- a flight begins
pub in_flight-begun : (i : ℕ) (xs : List Request) (t : ℕ) (x y : Request) → slice_get xs t ≡ Some x → is_in_flight x.stage ≡ false → is_in_flight y.stage ≡ true
    → in_flight_from i (slice_set xs t y) ≡ put_in_order (i + t) (in_flight_from i xs)
in_flight-begun i [] t x y at was is = absurd (none_is_not_some x at)
in_flight-begun i (z ∷ zs) zero x y at was is =
    let here : z ≡ x = cc in
    ap (λ b. first_or b i (in_flight_from (i + 1) zs)) is
    ∙ (sym (put-first i (in_flight_from (i + 1) zs) (in_flight-from (i + 1) zs))
    ∙ (ap (λ n. put_in_order n (in_flight_from (i + 1) zs)) (sym (add-zero i))
    ∙ ap (λ b. put_in_order (i + 0) (first_or b i (in_flight_from (i + 1) zs))) (sym (ap (λ (r : Request). is_in_flight r.stage) here ∙ was))))
in_flight-begun i (z ∷ zs) (suc t) x y at was is = by_test (is_in_flight z.stage) (in_flight-begun (i + 1) zs t x y at was is ∙ ap (λ n. put_in_order n (in_flight_from (i + 1) zs)) (one_further i t)) where
  by_test : (b : Bool) → in_flight_from (i + 1) (slice_set zs t y) ≡ put_in_order (i + suc t) (in_flight_from (i + 1) zs)
      → first_or b i (in_flight_from (i + 1) (slice_set zs t y)) ≡ put_in_order (i + suc t) (first_or b i (in_flight_from (i + 1) zs))
  by_test true rest = ap (λ ts. i ∷ ts) rest ∙ ap (λ b. if b then (i + suc t) ∷ i ∷ in_flight_from (i + 1) zs else i ∷ put_in_order (i + suc t) (in_flight_from (i + 1) zs)) (sym (le-ltb (i + suc t) i (omega arith)))
  by_test false rest = rest

-- a flight ends
pub in_flight-ended : (i : ℕ) (xs : List Request) (t : ℕ) (x y : Request) → slice_get xs t ≡ Some x → is_in_flight x.stage ≡ true → is_in_flight y.stage ≡ false
    → in_flight_from i (slice_set xs t y) ≡ filter (λ u. not (u == (i + t))) (in_flight_from i xs)
in_flight-ended i [] t x y at was is = absurd (none_is_not_some x at)
in_flight-ended i (z ∷ zs) zero x y at was is =
    let here : z ≡ x = cc in
    ap (λ b. first_or b i (in_flight_from (i + 1) zs)) is
    ∙ (sym (filter-others i (in_flight_from (i + 1) zs) (in_flight-from (i + 1) zs))
    ∙ (ap (λ b. cond (not b) (i ∷ filter (λ u. not (u == i)) (in_flight_from (i + 1) zs)) (filter (λ u. not (u == i)) (in_flight_from (i + 1) zs))) (sym (eq-eqb i i refl))
    ∙ (ap (λ n. filter (λ u. not (u == n)) (i ∷ in_flight_from (i + 1) zs)) (sym (add-zero i))
    ∙ ap (λ b. filter (λ u. not (u == (i + 0))) (first_or b i (in_flight_from (i + 1) zs))) (sym (ap (λ (r : Request). is_in_flight r.stage) here ∙ was)))))
in_flight-ended i (z ∷ zs) (suc t) x y at was is = by_test (is_in_flight z.stage) (in_flight-ended (i + 1) zs t x y at was is ∙ ap (λ n. filter (λ u. not (u == n)) (in_flight_from (i + 1) zs)) (one_further i t)) where
  by_test : (b : Bool) → in_flight_from (i + 1) (slice_set zs t y) ≡ filter (λ u. not (u == (i + suc t))) (in_flight_from (i + 1) zs)
      → first_or b i (in_flight_from (i + 1) (slice_set zs t y)) ≡ filter (λ u. not (u == (i + suc t))) (first_or b i (in_flight_from (i + 1) zs))
  by_test true rest = ap (λ ts. i ∷ ts) rest ∙ ap (λ b. cond (not b) (i ∷ filter (λ u. not (u == (i + suc t))) (in_flight_from (i + 1) zs)) (filter (λ u. not (u == (i + suc t))) (in_flight_from (i + 1) zs))) (sym (ne_eqb i (i + suc t) (λ same. absurd (omega arith))))
  by_test false rest = rest

-- a request that is not in flight comes last
pub in_flight-append : (i : ℕ) (xs : List Request) (x : Request) → is_in_flight x.stage ≡ false → in_flight_from i (xs ++ x ∷ []) ≡ in_flight_from i xs
in_flight-append i [] x was = ap (λ b. first_or b i []) was
in_flight-append i (z ∷ zs) x was = ap (first_or (is_in_flight z.stage) i) (in_flight-append (i + 1) zs x was)

pub lost_grounded : (s : Stage) → is_in_flight (lost_from s) ≡ false
lost_grounded Queued = refl
lost_grounded (InFlight q before) = refl
lost_grounded (Answered r) = refl
lost_grounded (Lost q) = refl

pub in_flight-lost : (i : ℕ) (xs : List Request) → in_flight_from i (with_flights_lost xs) ≡ []
in_flight-lost i [] = refl
in_flight-lost i (z ∷ zs) = ap (λ b. first_or b i (in_flight_from (i + 1) (with_flights_lost zs))) (lost_grounded z.stage) ∙ in_flight-lost (i + 1) zs

-- ---- documents with a write in flight

swapped : (d e : ℕ) → (e == d) ≡ false → (d == e) ≡ false
swapped d e other = ne_eqb d e (λ same. false≢true (sym other ∙ eq-eqb e d (sym same)))

abbrev on : ℕ → Request → Bool
on d x = is_in_flight x.stage && (d == x.doc)

not_on : (d : ℕ) (x : Request) → is_in_flight x.stage ≡ false → on d x ≡ false
not_on d x was = ap (λ b. b && (d == x.doc)) was

flies_on : (d : ℕ) (x : Request) → is_in_flight x.stage ≡ true → on d x ≡ (d == x.doc)
flies_on d x is = ap (λ b. b && (d == x.doc)) is

pub busy-same : (xs : List Request) (t : ℕ) (x : Request) (s : Stage) (d : ℕ) → slice_get xs t ≡ Some x → is_in_flight s ≡ is_in_flight x.stage
    → is_busy (with_stage xs t x s) d ≡ is_busy xs d
busy-same xs t x s d at same = list_any-set_alike (on d) xs t x (record x { stage = s }) at (ap (λ b. b && (d == x.doc)) same)

pub busy-begun : (xs : List Request) (t : ℕ) (x : Request) (s : Stage) (d : ℕ) → slice_get xs t ≡ Some x → is_in_flight x.stage ≡ false → is_in_flight s ≡ true
    → is_busy (with_stage xs t x s) d ≡ cond (x.doc == d) true (is_busy xs d)
busy-begun xs t x s d at was is = by_test (x.doc == d) refl where
  by_test : (b : Bool) → (x.doc == d) ≡ b → is_busy (with_stage xs t x s) d ≡ cond b true (is_busy xs d)
  by_test true same =
      let equal : d ≡ x.doc = sym (eqb-true x.doc d same) in
      list_any-set_more (on d) xs t x (record x { stage = s }) at (flies_on d (record x { stage = s }) is ∙ eq-eqb d x.doc equal)
  by_test false other =
      list_any-set_alike (on d) xs t x (record x { stage = s }) at
      (flies_on d (record x { stage = s }) is ∙ (swapped d x.doc other ∙ sym (not_on d x was)))

pub busy-ended : (xs : List Request) (t : ℕ) (x : Request) (s : Stage) (d : ℕ) → AreApart xs → slice_get xs t ≡ Some x → is_in_flight x.stage ≡ true → is_in_flight s ≡ false
    → is_busy (with_stage xs t x s) d ≡ cond (x.doc == d) false (is_busy xs d)
busy-ended xs t x s d apart at was is = by_test (x.doc == d) refl where
  by_place : (u : ℕ) (z : Request) → d ≡ x.doc → (((u ≡ t) × (z ≡ record x { stage = s })) ⊎ ((u ≢ t) × (slice_get xs u ≡ Some z))) → on d z ≡ false
  by_place u z equal (inl here) = ap (on d) here.1 ∙ not_on d (record x { stage = s }) is
  by_place u z equal (inr there) = by_flight (is_in_flight z.stage) refl where
    by_doc : (b : Bool) → (d == z.doc) ≡ b → is_in_flight z.stage ≡ true → b ≡ false
    by_doc true same flies = absurd (there.0 (apart u t z x there.1 at flies was (sym (eqb-true d z.doc same) ∙ equal)))
    by_doc false other flies = refl

    by_flight : (b : Bool) → is_in_flight z.stage ≡ b → (b && (d == z.doc)) ≡ false
    by_flight true flies = by_doc (d == z.doc) refl flies
    by_flight false flies = refl

  by_test : (b : Bool) → (x.doc == d) ≡ b → is_busy (with_stage xs t x s) d ≡ cond b false (is_busy xs d)
  by_test true same =
      list_any-none (on d) (with_stage xs t x s)
      (λ u z found. by_place u z (sym (eqb-true x.doc d same)) (from_set xs t u (record x { stage = s }) z found))
  by_test false other =
      list_any-set_alike (on d) xs t x (record x { stage = s }) at
      (not_on d (record x { stage = s }) is ∙ sym (flies_on d x was ∙ swapped d x.doc other))

-- ---- flights apart

apart-set : (xs : List Request) (t : ℕ) (x : Request) (s : Stage) → AreApart xs
    → (is_in_flight s ≡ true → (u : ℕ) (z : Request) → slice_get xs u ≡ Some z → is_in_flight z.stage ≡ true → z.doc ≡ x.doc → u ≡ t)
    → AreApart (with_stage xs t x s)
apart-set xs t x s apart alone i j a b at_i at_j fly_i fly_j same =
    by_places (from_set xs t i (record x { stage = s }) a at_i) (from_set xs t j (record x { stage = s }) b at_j) where
      set_flies : (r : Request) → r ≡ record x { stage = s } → is_in_flight r.stage ≡ true → is_in_flight s ≡ true
      set_flies r is flies = ap (λ (q : Request). is_in_flight q.stage) (sym is) ∙ flies

      by_places : (((i ≡ t) × (a ≡ record x { stage = s })) ⊎ ((i ≢ t) × (slice_get xs i ≡ Some a)))
          → (((j ≡ t) × (b ≡ record x { stage = s })) ⊎ ((j ≢ t) × (slice_get xs j ≡ Some b))) → i ≡ j
      by_places (inl first) (inl second) = first.0 ∙ sym second.0
      by_places (inl first) (inr second) =
          first.0 ∙ sym (alone (set_flies a first.1 fly_i) j b second.1 fly_j (sym same ∙ ap (λ (q : Request). q.doc) first.1))
      by_places (inr first) (inl second) =
          alone (set_flies b second.1 fly_j) i a first.1 fly_i (same ∙ ap (λ (q : Request). q.doc) second.1) ∙ sym second.0
      by_places (inr first) (inr second) = apart i j a b first.1 second.1 fly_i fly_j same

pub still_queued : (s : Stage) → is_queued s ≡ true → s ≡ Queued
still_queued Queued is = refl
still_queued (InFlight q before) is = absurd (true≢false (sym is))
still_queued (Answered r) is = absurd (true≢false (sym is))
still_queued (Lost q) is = absurd (true≢false (sym is))

grounded : (s : Stage) → is_queued s ≡ true → is_in_flight s ≡ false
grounded s is = ap is_in_flight (still_queued s is)

pub never_flies : {P : Type 0} → false ≡ true → P
never_flies impossible = absurd (false≢true impossible)

-- ---- all together

module _ (xs : List Request) (in_flight busy : List ℕ) (listed : AreListed xs in_flight busy) where
  pub listed_added : (d : ℕ) (op : Op) → AreListed (xs ++ queued_request d op ∷ []) in_flight busy
  listed_added d op = record {
    listed = listed.listed ∙ sym (in_flight-append 0 xs (queued_request d op) refl);
    busy_is = λ e. listed.busy_is e ∙ sym (list_any-append (on e) xs (queued_request d op ∷ []) ∙ or-false (is_busy xs e));
    apart = λ i j a b at_i at_j fly_i fly_j same.
        listed.apart i j a b (before i a at_i fly_i) (before j b at_j fly_j) fly_i fly_j same;
  } where
    before : (i : ℕ) (a : Request) → slice_get (xs ++ queued_request d op ∷ []) i ≡ Some a → is_in_flight a.stage ≡ true → slice_get xs i ≡ Some a
    before i a at flies =
        elim (get_snoc xs (queued_request d op) a i at) [
          | inl there ↦ there
          | inr here ↦ never_flies (ap (λ (q : Request). is_in_flight q.stage) here.1 ∙ flies)
        ]

  module _ (t : ℕ) (x : Request) (at : slice_get xs t ≡ Some x) where
    pub listed_answered : (s : Stage) → is_queued x.stage ≡ true → is_in_flight s ≡ false → AreListed (with_stage xs t x s) in_flight busy
    listed_answered s queued is =
        let same : is_in_flight s ≡ is_in_flight x.stage = is ∙ sym (grounded x.stage queued) in
        record {
          listed = listed.listed ∙ sym (in_flight-same 0 xs t x (record x { stage = s }) at same);
          busy_is = λ e. listed.busy_is e ∙ sym (busy-same xs t x s e at same);
          apart = apart-set xs t x s listed.apart (λ flies. never_flies (sym is ∙ flies));
        }

    pub listed_launched : (s : Stage) (in_flight' busy' : List ℕ) → is_queued x.stage ≡ true → is_busy xs x.doc ≡ false → is_in_flight s ≡ true
        → in_flight' ≡ put_in_order t in_flight
        → ((e : ℕ) → list_any (◌==◌ e) busy' ≡ cond (x.doc == e) true (list_any (◌==◌ e) busy))
        → AreListed (with_stage xs t x s) in_flight' busy'
    listed_launched s in_flight' busy' queued free is put updated = record {
      listed = put ∙ (ap (put_in_order t) listed.listed ∙ (ap (λ n. put_in_order n (in_flight_from 0 xs)) (sym (zero-add t))
          ∙ sym (in_flight-begun 0 xs t x (record x { stage = s }) at (grounded x.stage queued) is)));
      busy_is = λ e. updated e ∙ (ap (cond (x.doc == e) true) (listed.busy_is e) ∙ sym (busy-begun xs t x s e at (grounded x.stage queued) is));
      apart = apart-set xs t x s listed.apart (λ _ u z found flies same. never_flies (sym (none_passes (on x.doc) xs u z free found) ∙ (flies_on x.doc z flies ∙ eq-eqb x.doc z.doc (sym same))));
    }

    pub listed_ended : (s : Stage) (in_flight' busy' : List ℕ) → is_in_flight x.stage ≡ true → is_in_flight s ≡ false
        → in_flight' ≡ filter (λ u. not (u == t)) in_flight
        → ((e : ℕ) → list_any (◌==◌ e) busy' ≡ cond (x.doc == e) false (list_any (◌==◌ e) busy))
        → AreListed (with_stage xs t x s) in_flight' busy'
    listed_ended s in_flight' busy' was is taken updated = record {
      listed = taken ∙ (ap (filter (λ u. not (u == t))) listed.listed ∙ (ap (λ n. filter (λ u. not (u == n)) (in_flight_from 0 xs)) (sym (zero-add t))
          ∙ sym (in_flight-ended 0 xs t x (record x { stage = s }) at was is)));
      busy_is = λ e. updated e ∙ (ap (cond (x.doc == e) false) (listed.busy_is e) ∙ sym (busy-ended xs t x s e listed.apart at was is));
      apart = apart-set xs t x s listed.apart (λ flies. never_flies (sym is ∙ flies));
    }

pub listed_lost : (xs : List Request) (in_flight busy : List ℕ) → in_flight ≡ [] → busy ≡ [] → AreListed (with_flights_lost xs) in_flight busy
listed_lost xs in_flight busy no_flights no_busy = record {
  listed = no_flights ∙ sym (in_flight-lost 0 xs);
  busy_is = λ e. ap (list_any (◌==◌ e)) no_busy ∙ sym (list_any-none (on e) (with_flights_lost xs) (λ u z found. not_on e z (lost u z found)));
  apart = λ i j a b at_i at_j fly_i fly_j same. never_flies (sym (lost i a at_i) ∙ fly_i);
} where
  lost : (u : ℕ) (z : Request) → slice_get (with_flights_lost xs) u ≡ Some z → is_in_flight z.stage ≡ false
  lost u z found =
      let from = mapped_from lost_request xs u z found in
      ap (λ (q : Request). is_in_flight q.stage) (sym from.2) ∙ lost_grounded from.0.stage
