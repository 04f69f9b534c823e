-- Each kind of step on the clock word keeps its rule.
use Rattle.std.proofs.Common.{ℕ, zero, suc, ◌≡◌, ◌+◌, ◌%◌, ◌^◌, ◌<◌, ◌≤◌, List, [], ◌∷◌, ◌++◌, length, refl, sym, ap, subst, ◌∙◌, arith, Bool, true, false, All, set, get_or, length-set, length-append}
use Rattle.std.specs.Prelude.{◌||◌, nat_lt, not}
use Rattle.std.specs.List.{flat_map, list_any}
use Rattle.std.specs.List.Sorted.{IsPermutation}
use Rattle.std.proofs.lemmas.Bool.{ltb-false, ltb-true, le-ltb, lt-ltb}
use Rattle.std.proofs.lemmas.List.{append-nil, append_assoc}
use Rattle.std.proofs.lemmas.List.Elements.{All-head, All-nil, All-push, All-set, All-tail, All-weaker}
use Rattle.std.proofs.lemmas.List.Folds.{list_any-append, list_any_none}
use Rattle.std.proofs.lemmas.List.Sorted.{IsPermutation-append_comm, IsPermutation-append_left, IsPermutation-append_right, IsPermutation-cons, IsPermutation-middle, IsPermutation-refl, IsPermutation-sym, IsPermutation-to_front, IsPermutation-trans, All-permutation}
use mathlib.Core.Option.{none, some, some-injective, some-ne-none}
use lib.ListN.{get_elem?}
use Rattle.atomic_table.specs.Table.{State, step, keeps, stepped, Allows, Splits, Joins, Seen, Final}
use Rattle.events.specs.Refusal.{most_events}
use Rattle.recorder.proofs.CountLemmas.{range_more, all_in_row}
use Rattle.recorder.specs.declared.clock_view.ClockView.{ClockView}
use Rattle.recorder.specs.declared.clock_view.ClockView.TheVariants.{Maker, Drew, Spent}
use Rattle.recorder.specs.Clock.{most_pens, seat_with, numbers_in, numbers_below, is_past, is_spent, is_over, IsOfPen, one_if, how_many, nothing_drawn, Draws, split_once_more, with_joined, IsClock}
use Rattle.version_pair.proofs.TruthLemmas.{or-true}
use Rattle.std.proofs.lemmas.List.Concat.{flat_map-append}
use Rattle.recorder.proofs.ListLemmas.{all_of_first, all_of_second}

-- ---- one view of several

-- how many views pass, where one view was replaced
how_many_set : (test : ClockView → Bool) (vs : List ClockView) (i : ℕ) (v w : ClockView) → get_elem? vs i ≡ some v
    → how_many test (set vs i w) + one_if (test v) ≡ how_many test vs + one_if (test w)
how_many_set test [] i v w at = absurd (some-ne-none v (sym at))
how_many_set test (x ∷ xs) zero v w at = let same : one_if (test x) ≡ one_if (test v) = ap (λ u. one_if (test u)) (some-injective x v at) in omega arith
how_many_set test (x ∷ xs) (suc i) v w at = let rest = how_many_set test xs i v w at in omega arith

how_many_more : (test : ClockView → Bool) (vs : List ClockView) (w : ClockView) → how_many test (vs ++ w ∷ []) ≡ how_many test vs + one_if (test w)
how_many_more test [] w = omega arith
how_many_more test (x ∷ xs) w = let rest = how_many_more test xs w in omega arith

one_at_most : (b : Bool) → one_if b ≤ 1
one_at_most true = omega arith
one_at_most false = omega arith

how_many_within : (test : ClockView → Bool) (vs : List ClockView) → how_many test vs ≤ length vs
how_many_within test [] = omega arith
how_many_within test (x ∷ xs) = let rest = how_many_within test xs in let one = one_at_most (test x) in omega arith

-- where all are spent, none holds a number
all_spent : (vs : List ClockView) → length vs ≤ how_many is_spent vs → flat_map numbers_in vs ≡ []
all_spent [] up = refl
all_spent (Maker k j g ∷ vs) up = let rest = how_many_within is_spent vs in absurd (omega arith)
all_spent (Drew drawn ∷ vs) up = let rest = how_many_within is_spent vs in absurd (omega arith)
all_spent (Spent ∷ vs) up = all_spent vs (omega arith)

-- the numbers of one view stand among those of all
numbers_of_one : (P : ℕ → Type 0) (vs : List ClockView) (i : ℕ) (v : ClockView) → get_elem? vs i ≡ some v → All P (flat_map numbers_in vs) → All P (numbers_in v)
numbers_of_one P [] i v at all = absurd (some-ne-none v (sym at))
numbers_of_one P (x ∷ xs) zero v at all = subst (λ u. All P (numbers_in u)) (some-injective x v at) (all_of_first P (numbers_in x) (flat_map numbers_in xs) all)
numbers_of_one P (x ∷ xs) (suc i) v at all = numbers_of_one P xs i v at (all_of_second P (numbers_in x) (flat_map numbers_in xs) all)

-- where one view draws a number, all views together have it beside what they had
numbers_with_drawn : (vs : List ClockView) (i n : ℕ) (drawn : List ℕ) → get_elem? vs i ≡ some (Drew drawn)
    → IsPermutation (flat_map numbers_in (set vs i (Drew (drawn ++ n ∷ [])))) (n ∷ flat_map numbers_in vs)
numbers_with_drawn [] i n drawn at = absurd (some-ne-none (Drew drawn) (sym at))
numbers_with_drawn (x ∷ xs) zero n drawn at =
    let rest = flat_map numbers_in xs in
    let moved : IsPermutation ((drawn ++ n ∷ []) ++ rest) (n ∷ (drawn ++ rest)) =
    subst (λ ns. IsPermutation ns (n ∷ (drawn ++ rest))) (sym (append_assoc drawn (n ∷ []) rest)) (IsPermutation-middle drawn n rest) in
    subst (λ u. IsPermutation ((drawn ++ n ∷ []) ++ rest) (n ∷ (numbers_in u ++ rest))) (sym (some-injective x (Drew drawn) at)) moved
numbers_with_drawn (x ∷ xs) (suc i) n drawn at =
    let after = flat_map numbers_in (set xs i (Drew (drawn ++ n ∷ []))) in
    IsPermutation-trans (numbers_in x ++ after) (numbers_in x ++ (n ∷ flat_map numbers_in xs)) (n ∷ (numbers_in x ++ flat_map numbers_in xs))
    (IsPermutation-append_right (numbers_in x) after (n ∷ flat_map numbers_in xs) (numbers_with_drawn xs i n drawn at))
    (IsPermutation-middle (numbers_in x) n (flat_map numbers_in xs))

-- where one view is spent, the others have what is left beside its numbers
numbers_with_spent : (vs : List ClockView) (i : ℕ) (v : ClockView) → get_elem? vs i ≡ some v
    → IsPermutation (flat_map numbers_in vs) (numbers_in v ++ flat_map numbers_in (set vs i Spent))
numbers_with_spent [] i v at = absurd (some-ne-none v (sym at))
numbers_with_spent (x ∷ xs) zero v at =
    subst (λ u. IsPermutation (numbers_in x ++ flat_map numbers_in xs) (numbers_in u ++ flat_map numbers_in xs)) (some-injective x v at)
    (IsPermutation-refl (numbers_in x ++ flat_map numbers_in xs))
numbers_with_spent (x ∷ xs) (suc i) v at =
    let mine = numbers_in x in
    let theirs = numbers_in v in
    let after = flat_map numbers_in (set xs i Spent) in
    let swapped : IsPermutation (mine ++ (theirs ++ after)) (theirs ++ (mine ++ after)) =
    subst (λ ns. IsPermutation ns (theirs ++ (mine ++ after))) (append_assoc mine theirs after)
    (subst (λ ns. IsPermutation ((mine ++ theirs) ++ after) ns) (append_assoc theirs mine after)
    (IsPermutation-append_left after (mine ++ theirs) (theirs ++ mine) (IsPermutation-append_comm mine theirs))) in
    IsPermutation-trans (mine ++ flat_map numbers_in xs) (mine ++ (theirs ++ after)) (theirs ++ (mine ++ after))
    (IsPermutation-append_right mine (flat_map numbers_in xs) (theirs ++ after) (numbers_with_spent xs i v at))
    swapped

-- ---- numbers

-- the numbers below the next one are those below this one, and this one
one_number_more : (n f m : ℕ) → f ≡ n → m ≡ n + 1 → IsPermutation (f ∷ numbers_below n) (numbers_below m)
one_number_more n f m same next =
    let last : 0 + n ≡ f = omega arith in
    let more : numbers_below m ≡ numbers_below n ++ f ∷ [] =
    ap numbers_below (let up : m ≡ suc n = omega arith in up) ∙ (range_more 0 n ∙ ap (λ k. numbers_below n ++ k ∷ []) last) in
    subst (λ ns. IsPermutation (f ∷ numbers_below n) ns) (sym more)
    (IsPermutation-sym (numbers_below n ++ f ∷ []) (f ∷ numbers_below n) (IsPermutation-to_front (numbers_below n) f))

all_below : (n : ℕ) → All (λ m. m < n) (numbers_below n)
all_below n = all_in_row (λ m. m < n) 0 n (λ i less. omega arith)

-- a list with a number that is no event's at its end
past_at_last : (drawn : List ℕ) (n : ℕ) → most_events ≤ n → list_any is_past (drawn ++ n ∷ []) ≡ true
past_at_last drawn n up = list_any-append is_past drawn (n ∷ []) ∙ (ap (λ b. list_any is_past drawn || (b || false)) (ap not (le-ltb n most_events up)) ∙ or-true (list_any is_past drawn))

-- a list without such a number
none_past : (drawn : List ℕ) → All (λ n. n < most_events) drawn → list_any is_past drawn ≡ false
none_past drawn below = list_any_none is_past drawn (All-weaker (λ n. n < most_events) (λ n. is_past n ≡ false) (λ n less. ap not (lt-ltb n most_events less)) drawn below)

-- ---- the rule

abbrev ClockState : Type 0
ClockState = State (Unit {0}) ClockView

-- the rule, with the numbers reported part by part
clock_of : (s : ClockState) (word k j : ℕ) (g : List ℕ) (others : List ClockView)
    → s.words ≡ word ∷ [] → s.views ≡ Maker k j g ∷ others → All IsOfPen others → length others ≡ k → k ≤ most_pens → how_many is_spent others ≡ j
    → IsPermutation (g ++ flat_map numbers_in others) (numbers_below word) → word ≤ most_events + how_many is_over others → IsClock s
clock_of s word k j g others words views pens count few spent dense bounded = record {
  word = word;
  split_off = k;
  joined = j;
  gained = g;
  others = others;
  words = words;
  views = views;
  of_pens = pens;
  as_many = count;
  few = few;
  spent = spent;
  dense = subst (λ vs. IsPermutation (flat_map numbers_in vs) (numbers_below word)) (sym views) dense;
  bounded = bounded;
}

-- the maker's numbers and the others' are those below the word
dense_parts : (s : ClockState) (r : IsClock s) → IsPermutation (r.gained ++ flat_map numbers_in r.others) (numbers_below r.word)
dense_parts s r = subst (λ vs. IsPermutation (flat_map numbers_in vs) (numbers_below r.word)) r.views r.dense

-- the view of a pen's seat is one of the others
place_of_pen : (k j : ℕ) (g : List ℕ) (others : List ClockView) (id : ℕ) (v : ClockView) → IsOfPen v → get_elem? (Maker k j g ∷ others) id ≡ some v
    → (i : ℕ) × (id ≡ suc i) × (get_elem? others i ≡ some v)
place_of_pen k j g others zero v pen at = absurd (subst IsOfPen (sym (some-injective (Maker k j g) v at)) pen)
place_of_pen k j g others (suc i) v pen at = (i, refl, at)

pen_at : (vs : List ClockView) (i : ℕ) (v : ClockView) → All IsOfPen vs → get_elem? vs i ≡ some v → IsOfPen v
pen_at [] i v pens at = absurd (some-ne-none v (sym at))
pen_at (x ∷ xs) zero v pens at = subst IsOfPen (some-injective x v at) (All-head IsOfPen x xs pens)
pen_at (x ∷ xs) (suc i) v pens at = pen_at xs i v (All-tail IsOfPen x xs pens) at

-- what is known where a seat has the maker's view: it is the first
record IsMakerAt (s : ClockState) (r : IsClock s) (id k j : ℕ) (g : List ℕ) : Type 0 where
  pub first : id ≡ 0
  pub view : Maker r.split_off r.joined r.gained ≡ Maker k j g

maker_at : (s : ClockState) (r : IsClock s) (id k j : ℕ) (g : List ℕ) → get_elem? s.views id ≡ some (Maker k j g) → IsMakerAt s r id k j g
maker_at s r id k j g at = by_place id (subst (λ vs. get_elem? vs id ≡ some (Maker k j g)) r.views at) where
  by_place : (id : ℕ) → get_elem? (Maker r.split_off r.joined r.gained ∷ r.others) id ≡ some (Maker k j g) → IsMakerAt s r id k j g
  by_place zero at = record { first = refl; view = some-injective (Maker r.split_off r.joined r.gained) (Maker k j g) at }
  by_place (suc i) at = absurd (pen_at r.others i (Maker k j g) r.of_pens at)

abbrev maker_split : ClockView → ℕ
maker_split (Maker k j g) = k
maker_split (Drew drawn) = 0
maker_split Spent = 0

abbrev maker_joined : ClockView → ℕ
maker_joined (Maker k j g) = j
maker_joined (Drew drawn) = 0
maker_joined Spent = 0

-- ---- the start

pub starts : IsClock (record { words = 0 ∷ []; homes = []; views = Maker 0 0 [] ∷ [] })
starts = clock_of (record { words = 0 ∷ []; homes = []; views = Maker 0 0 [] ∷ [] }) 0 0 0 [] [] refl refl (All-nil IsOfPen) refl (omega arith) refl (IsPermutation-refl []) (omega arith)

-- ---- a draw

-- the word after a draw
drawn_word : (words : List ℕ) (n : ℕ) → words ≡ n ∷ [] → n + 1 < 18446744073709551616 → set words 0 ((get_or words 0 0 + 1) % 18446744073709551616) ≡ (n + 1) ∷ []
drawn_word words n is small =
    let rest : (n + 1) % 18446744073709551616 ≡ n + 1 = omega arith in
    ap (λ ws. set ws 0 ((get_or ws 0 0 + 1) % 18446744073709551616)) is ∙ ap (λ m. m ∷ []) rest

draw_keeps : (s : ClockState) (r : IsClock s) (id f : ℕ) (drawn : List ℕ) → f ≡ r.word → All (λ n. n < most_events) drawn → get_elem? s.views id ≡ some (Drew drawn)
    → (t : ClockState) → t.words ≡ set s.words 0 ((get_or s.words 0 0 + 1) % 18446744073709551616) → t.views ≡ set s.views id (Drew (drawn ++ f ∷ []))
    → IsClock t × All (λ n. n < f) drawn
draw_keeps s r id f drawn found below at t words views =
    let place = place_of_pen r.split_off r.joined r.gained r.others id (Drew drawn) tt (subst (λ vs. get_elem? vs id ≡ some (Drew drawn)) r.views at) in
    let i = place.0 in
    let here : get_elem? r.others i ≡ some (Drew drawn) = place.2 in
    let new : ClockView = Drew (drawn ++ f ∷ []) in
    let others = set r.others i new in
    let count : length others ≡ length r.others = length-set r.others i new in
    let over = how_many_set is_over r.others i (Drew drawn) new here in
    let open_ : one_if (is_over (Drew drawn)) ≡ 0 = ap one_if (none_past drawn below) in
    let within = how_many_within is_over r.others in
    let up = r.bounded in let few = r.few in let many = r.as_many in
    let eight : most_pens ≡ 8 = refl in
    let million : most_events ≡ 1048576 = refl in
    let small : r.word + 1 < 18446744073709551616 = omega arith in
    let placed : set s.views id new ≡ Maker r.split_off r.joined r.gained ∷ others =
    ap (λ vs. set vs id new) r.views ∙ ap (λ q. set (Maker r.split_off r.joined r.gained ∷ r.others) q new) place.1 in
    let spent = how_many_set is_spent r.others i (Drew drawn) new here in
    let were = r.spent in
    let G = r.gained in
    let F = flat_map numbers_in r.others in
    let dense : IsPermutation (G ++ flat_map numbers_in others) (numbers_below (r.word + 1)) =
    IsPermutation-trans (G ++ flat_map numbers_in others) (G ++ (f ∷ F)) (numbers_below (r.word + 1))
    (IsPermutation-append_right G (flat_map numbers_in others) (f ∷ F) (numbers_with_drawn r.others i f drawn here))
    (IsPermutation-trans (G ++ (f ∷ F)) (f ∷ (G ++ F)) (numbers_below (r.word + 1))
    (IsPermutation-middle G f F)
    (IsPermutation-trans (f ∷ (G ++ F)) (f ∷ numbers_below r.word) (numbers_below (r.word + 1))
    (IsPermutation-cons f (G ++ F) (numbers_below r.word) (dense_parts s r))
    (one_number_more r.word f (r.word + 1) found refl))) in
    let bounded : r.word + 1 ≤ most_events + how_many is_over others = by_test (nat_lt f most_events) refl others over open_ in (
      clock_of t (r.word + 1) r.split_off r.joined r.gained others
          (words ∙ drawn_word s.words r.word r.words small) (views ∙ placed) (All-set IsOfPen r.others i new tt r.of_pens) (count ∙ r.as_many) r.few
          (let same : how_many is_spent others ≡ r.joined = omega arith in same) dense bounded,
      subst (λ m. All (λ n. n < m) drawn) (sym found)
          (numbers_of_one (λ n. n < r.word) r.others i (Drew drawn) here
          (all_of_second (λ n. n < r.word) G F (All-permutation (λ n. n < r.word) (numbers_below r.word) (G ++ F) (IsPermutation-sym (G ++ F) (numbers_below r.word) (dense_parts s r)) (all_below r.word)))),
    ) where
      by_test : (b : Bool) → nat_lt f most_events ≡ b → (others : List ClockView)
          → how_many is_over others + one_if (is_over (Drew drawn)) ≡ how_many is_over r.others + one_if (is_over (Drew (drawn ++ f ∷ [])))
          → one_if (is_over (Drew drawn)) ≡ 0 → r.word + 1 ≤ most_events + how_many is_over others
      by_test true is others over open_ = let less : f < most_events = ltb-true f most_events is in omega (arith, found)
      by_test false is others over open_ =
          let one : one_if (is_over (Drew (drawn ++ f ∷ []))) ≡ 1 = ap one_if (past_at_last drawn f (ltb-false f most_events is)) in
          let up = r.bounded in omega arith

pub draws : (slots id : ℕ) (drawn : List ℕ) → All (λ n. n < most_events) drawn
    → Allows IsClock slots id (seat_with (Drew drawn)) 0 (λ n. (n + 1) % 2 ^ 64) (Draws (step slots 0 1 0 none) (seat_with (Drew drawn)))
draws slots id drawn below s r _ at small =
    let f = get_or s.words 0 0 in
    let found : f ≡ r.word = ap (λ ws. get_or ws 0 0) r.words in
    let new : ClockView = Drew (drawn ++ f ∷ []) in
    let kept = draw_keeps s r id f drawn found below at (stepped s 0 ((f + 1) % 2 ^ 64) id [] new keeps) refl refl in
    (new, keeps, tt, kept.0, (refl, kept.1))

-- ---- a split

pub splits : (id k : ℕ) → k < most_pens → Splits IsClock id (Maker k 0 []) (split_once_more (Maker k 0 [])) nothing_drawn
splits id k less s r at =
    let mine = maker_at s r id k 0 [] at in
    let split : r.split_off ≡ k = ap maker_split mine.view in
    let join : r.joined ≡ 0 = ap maker_joined mine.view in
    let gained : r.gained ≡ [] = ap numbers_in mine.view in
    let others = r.others ++ nothing_drawn ∷ [] in
    let t : ClockState = record { words = s.words; homes = s.homes; views = set s.views id (Maker (k + 1) 0 []) ++ nothing_drawn ∷ [] } in
    let placed : t.views ≡ Maker (k + 1) 0 [] ∷ others =
    ap (λ vs. set vs id (Maker (k + 1) 0 []) ++ nothing_drawn ∷ []) r.views
    ∙ ap (λ q. set (Maker r.split_off r.joined r.gained ∷ r.others) q (Maker (k + 1) 0 []) ++ nothing_drawn ∷ []) mine.first in
    let count : length others ≡ length r.others + 1 = length-append r.others (nothing_drawn ∷ []) in
    let many = r.as_many in
    let over = how_many_more is_over r.others nothing_drawn in
    let spent = how_many_more is_spent r.others nothing_drawn in
    let were = r.spent in
    let up = r.bounded in
    let same : flat_map numbers_in others ≡ flat_map numbers_in r.others = flat_map-append numbers_in r.others (nothing_drawn ∷ []) ∙ append-nil (flat_map numbers_in r.others) in
    clock_of t r.word (k + 1) 0 [] others r.words placed (All-push IsOfPen r.others nothing_drawn r.of_pens tt) (omega arith) (omega arith) (omega arith)
    (subst (λ ns. IsPermutation ns (numbers_below r.word)) (sym same)
    (subst (λ g. IsPermutation (g ++ flat_map numbers_in r.others) (numbers_below r.word)) gained (dense_parts s r)))
    (omega arith)

-- ---- a join

pub joins : (id k j : ℕ) (g : List ℕ) (other : ℕ) (drawn : List ℕ)
    → Joins IsClock id (Maker k j g) other (Drew drawn) (with_joined (Maker k j g) (Drew drawn)) Spent
joins id k j g other drawn s r at apart there =
    let mine = maker_at s r id k j g at in
    let split : r.split_off ≡ k = ap maker_split mine.view in
    let join : r.joined ≡ j = ap maker_joined mine.view in
    let gained : r.gained ≡ g = ap numbers_in mine.view in
    let new : ClockView = Maker k (j + 1) (g ++ drawn) in
    let front : set s.views id new ≡ new ∷ r.others =
    ap (λ vs. set vs id new) r.views ∙ ap (λ q. set (Maker r.split_off r.joined r.gained ∷ r.others) q new) mine.first in
    let place = place_of_pen k (j + 1) (g ++ drawn) r.others other (Drew drawn) tt (subst (λ vs. get_elem? vs other ≡ some (Drew drawn)) front there) in
    let i = place.0 in
    let here : get_elem? r.others i ≡ some (Drew drawn) = place.2 in
    let others = set r.others i Spent in
    let t : ClockState = record { words = s.words; homes = s.homes; views = set (set s.views id new) other Spent } in
    let placed : t.views ≡ new ∷ others = ap (λ vs. set vs other Spent) front ∙ ap (λ q. set (new ∷ r.others) q Spent) place.1 in
    let count : length others ≡ length r.others = length-set r.others i Spent in
    let many = r.as_many in
    let over = how_many_set is_over r.others i (Drew drawn) Spent here in
    let one = one_at_most (is_over (Drew drawn)) in
    let spent = how_many_set is_spent r.others i (Drew drawn) Spent here in
    let were = r.spent in
    let up = r.bounded in let few = r.few in
    let F = flat_map numbers_in r.others in
    let L = flat_map numbers_in others in
    let dense : IsPermutation ((g ++ drawn) ++ L) (numbers_below r.word) =
    IsPermutation-trans ((g ++ drawn) ++ L) (g ++ F) (numbers_below r.word)
    (subst (λ ns. IsPermutation ns (g ++ F)) (sym (append_assoc g drawn L))
    (IsPermutation-sym (g ++ F) (g ++ (drawn ++ L)) (IsPermutation-append_right g F (drawn ++ L) (numbers_with_spent r.others i (Drew drawn) here))))
    (subst (λ h. IsPermutation (h ++ F) (numbers_below r.word)) gained (dense_parts s r)) in
    clock_of t r.word k (j + 1) (g ++ drawn) others r.words placed (All-set IsOfPen r.others i Spent tt r.of_pens) (omega arith) (omega arith) (omega arith) dense (omega arith)

-- ---- the end

-- where each seat that was split off was joined, the maker has the numbers below the word
pub all_gained : (id k j : ℕ) (g words : List ℕ) (slots : List (Unit {0})) → k ≤ j → Final (Seen IsClock id (Maker k j g)) words slots
    → (n : ℕ) → get_elem? words 0 ≡ some n → IsPermutation g (numbers_below n)
all_gained id k j g words slots up last n read =
    let s = last.0 in
    let r : IsClock s = last.1.0 in
    let mine = maker_at s r id k j g last.1.1 in
    let split : r.split_off ≡ k = ap maker_split mine.view in
    let join : r.joined ≡ j = ap maker_joined mine.view in
    let gained : r.gained ≡ g = ap numbers_in mine.view in
    let many = r.as_many in
    let were = r.spent in
    let none : flat_map numbers_in r.others ≡ [] = all_spent r.others (omega arith) in
    let word : r.word ≡ n = some-injective r.word n (ap (λ ws. get_elem? ws 0) (sym (sym last.2 ∙ r.words)) ∙ read) in
    subst (λ m. IsPermutation g (numbers_below m)) word
    (subst (λ ns. IsPermutation ns (numbers_below r.word)) (ap (λ ns. r.gained ++ ns) none ∙ (append-nil r.gained ∙ gained)) (dense_parts s r))
