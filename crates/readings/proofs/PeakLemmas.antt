-- The greatest pair of the first answered calls, and of those answered before a position.
use Rattle.std.proofs.Common.{ℕ, zero, suc, add-one, length-append, ◌≡◌, ◌<◌, ◌≤◌, ◌+◌, ◌⊎◌, inl, inr, List, [], ◌∷◌, ◌++◌, refl, sym, ap, subst, ◌∙◌, arith, Bool, true, false, Option, Some, None, get_or, length, nat_lt, slice_get, take}
use Rattle.std.specs.Prelude.{option_and_then}
use Rattle.std.specs.List.Sorted.{IsPartitionPoint, IsPartitionedBy}
use Rattle.std.proofs.lemmas.Bool.{cases_lt, lt-ltb, ltb-true, true≢false}
use Rattle.std.proofs.lemmas.Option.{get_or_from_slice_get, slice_get-get_or, slice_get_within}
use Rattle.version_pair.specs.declared.pair.Pair.{Pair}
use Rattle.version_pair.specs.PairOrder.{IsBelow}
use Rattle.version_pair.proofs.ListLemmas.{get_snoc, get_front, get_take, none_is_not_some, same_some, take_get, take_one_more}
use Rattle.doc_register.proofs.RunLemmas.{below_trans}
use Rattle.doc_register.specs.declared.reply.Reply.{Reply as Answer}
use Rattle.events.specs.declared.record.Rec.{Rec}
use Rattle.events.specs.Heard.{pair_of}
use Rattle.doc_register.specs.Register.{value_of}
use Rattle.write_chain.specs.AnsweredCalls.{AreAnsweredCalls, answer_of}
use Rattle.write_chain.specs.declared.answers.AnsweredRec.{AnsweredRec}
use Rattle.write_chain.proofs.AnsweredCallLemmas.{IsAnsweredBefore, answers_rise, entry_heard, heard_entry}
use Rattle.readings.specs.declared.peaks.Changes.{Changes}
use Rattle.readings.specs.declared.peaks.Changes.TheVariants.{All, Makes}
use Rattle.readings.specs.aids.Peaks.{ArePeaksSoFar, IsAcknowledged, IsPeakBefore, IsPeakOf, counted_pair, pair_at, pair_made}

-- ---- one answered call more

-- a call without a pair that counts leaves the peak
pub peak_stays : (changes : Changes) (records : List Rec) (answers : List AnsweredRec) (a : AnsweredRec) (peak : Option ℕ) → pair_at changes records a.rec ≡ None
    → IsPeakOf changes records answers peak → IsPeakOf changes records (answers ++ a ∷ []) peak
peak_stays changes records answers a None none peak = λ m b at. elim (get_snoc answers a b m at) as (λ _. pair_at changes records b.rec ≡ None) [
  | inl old ↦ peak m b old
  | inr new ↦ ap (λ (x : AnsweredRec). pair_at changes records x.rec) (sym new.1) ∙ none
]
peak_stays changes records answers a (Some w) none (q, is, (n, b, at, same), most) = (
  q,
  is,
  (n, b, get_front answers (a ∷ []) n b at, same),
  λ m c p bt takes. elim (get_snoc answers a c m bt) as (λ _. ¬ IsBelow q p) [
    | inl old ↦ most m c p old takes
    | inr new ↦ absurd (none_is_not_some p (sym none ∙ (ap (λ (x : AnsweredRec). pair_at changes records x.rec) new.1 ∙ takes)))
  ],
)

-- where the last of a list stands
last_at : {X : Type 0} (xs : List X) (x : X) → slice_get (xs ++ x ∷ []) (length xs) ≡ Some x
last_at [] x = refl
last_at (y ∷ xs) x = last_at xs x

not_below_self : (p : Pair) → ¬ IsBelow p p
not_below_self p (inl h) = omega (arith, h)
not_below_self p (inr h) = let seq : p.seq < p.seq = h.1 in omega arith

-- the first call with a pair that counts is the peak
pub peak_begins : (changes : Changes) (records : List Rec) (answers : List AnsweredRec) (a : AnsweredRec) (q : Pair) → pair_at changes records a.rec ≡ Some q
    → IsPeakOf changes records answers None → IsPeakOf changes records (answers ++ a ∷ []) (Some a.rec)
peak_begins changes records answers a q is none = (
  q,
  is,
  (length answers, a, last_at answers a, refl),
  λ m c p bt takes. elim (get_snoc answers a c m bt) as (λ _. ¬ IsBelow q p) [
    | inl old ↦ absurd (none_is_not_some p (sym (none m c old) ∙ takes))
    | inr new ↦ (let same : p ≡ q = same_some p q (sym takes ∙ (ap (λ (x : AnsweredRec). pair_at changes records x.rec) (sym new.1) ∙ is)) in
        subst (λ x. ¬ IsBelow q x) (sym same) (not_below_self q))
  ],
)

-- a greater pair is the peak
pub peak_rises : (changes : Changes) (records : List Rec) (answers : List AnsweredRec) (a : AnsweredRec) (w : ℕ) (high q : Pair) → pair_at changes records a.rec ≡ Some q
    → pair_at changes records w ≡ Some high → IsBelow high q → IsPeakOf changes records answers (Some w) → IsPeakOf changes records (answers ++ a ∷ []) (Some a.rec)
peak_rises changes records answers a w high q is was below (top, same_top, stands, most) = (
  q,
  is,
  (length answers, a, last_at answers a, refl),
  λ m c p bt takes. elim (get_snoc answers a c m bt) as (λ _. ¬ IsBelow q p) [
    | inl old ↦ (λ above.
        let same : high ≡ top = same_some high top (sym was ∙ same_top) in
        most m c p old takes (subst (λ x. IsBelow x p) same (below_trans high q p below above)))
    | inr new ↦ (let same : p ≡ q = same_some p q (sym takes ∙ (ap (λ (x : AnsweredRec). pair_at changes records x.rec) (sym new.1) ∙ is)) in
        subst (λ x. ¬ IsBelow q x) (sym same) (not_below_self q))
  ],
)

-- a pair that isn't greater leaves it
pub peak_holds : (changes : Changes) (records : List Rec) (answers : List AnsweredRec) (a : AnsweredRec) (w : ℕ) (high q : Pair) → pair_at changes records a.rec ≡ Some q
    → pair_at changes records w ≡ Some high → (¬ IsBelow high q) → IsPeakOf changes records answers (Some w) → IsPeakOf changes records (answers ++ a ∷ []) (Some w)
peak_holds changes records answers a w high q is was below (top, same_top, (n, b, at, same_rec), most) = (
  top,
  same_top,
  (n, b, get_front answers (a ∷ []) n b at, same_rec),
  λ m c p bt takes. elim (get_snoc answers a c m bt) as (λ _. ¬ IsBelow top p) [
    | inl old ↦ most m c p old takes
    | inr new ↦ (λ above.
        let same : p ≡ q = same_some p q (sym takes ∙ (ap (λ (x : AnsweredRec). pair_at changes records x.rec) (sym new.1) ∙ is)) in
        let tops : top ≡ high = same_some top high (sym same_top ∙ was) in
        below (subst (λ x. IsBelow x q) tops (subst (λ x. IsBelow top x) same above)))
  ],
)

-- the peak has a pair
pub peak_has : (changes : Changes) (records : List Rec) (answers : List AnsweredRec) (w : ℕ) → IsPeakOf changes records answers (Some w) → pair_at changes records w ≡ None → ⊥
peak_has changes records answers w (q, is, stands, most) none = none_is_not_some q (sym none ∙ is)

-- ---- before a position

pub answers_partitioned : (records : List Rec) (answers : List AnsweredRec) (position : ℕ) → AreAnsweredCalls records answers
    → IsPartitionedBy (λ (a : AnsweredRec). nat_lt a.reply_at position) answers
answers_partitioned records answers position are i j d less within is =
    let a : AnsweredRec = get_or answers i d in
    let b : AnsweredRec = get_or answers j d in
    let at : slice_get answers i ≡ Some a = slice_get-get_or answers i d (omega arith) in
    let bt : slice_get answers j ≡ Some b = slice_get-get_or answers j d within in
    let last : b.reply_at < position = ltb-true b.reply_at position is in
    elim (cases_lt i j) as (λ _. nat_lt a.reply_at position ≡ true) [
      | inl first ↦ elim (answers_rise records answers are i j a b first at bt) as (λ _. nat_lt a.reply_at position ≡ true) [
        | inl before ↦ lt-ltb a.reply_at position (omega arith)
        | inr tie ↦ (let same : a.reply_at ≡ b.reply_at = tie.0 in lt-ltb a.reply_at position (omega arith))
      ]
      | inr under ↦ (let same : i ≡ j = omega arith in
          subst (λ k. nat_lt (get_or answers k d).reply_at position ≡ true) (sym same) is)
    ]

-- what a call of a record has counted
counted_heard : (changes : Changes) (r : Rec) (q : Pair) → counted_pair changes r ≡ Some q → pair_of r.heard ≡ Some q
counted_heard All r q is = is
counted_heard Makes r q is = by_value (value_of r.op) is where
  by_value : (o : Option ℕ) → pair_made o (pair_of r.heard) ≡ Some q → pair_of r.heard ≡ Some q
  by_value None is = absurd (none_is_not_some q is)
  by_value (Some k) is = is

pub pair_there : (changes : Changes) (records : List Rec) (k : ℕ) (r : Rec) → slice_get records k ≡ Some r → pair_at changes records k ≡ counted_pair changes r
pair_there changes records k r at = ap (option_and_then (counted_pair changes)) at

-- a count of answered calls that parts those before the position from the others gives the peak before it
pub peak_is_before : (changes : Changes) (records : List Rec) (answers : List AnsweredRec) (position k : ℕ) (peak : Option ℕ) → AreAnsweredCalls records answers → k ≤ length answers
    → IsPartitionPoint (λ (a : AnsweredRec). nat_lt a.reply_at position ≡ true) (λ (a : AnsweredRec). nat_lt a.reply_at position ≡ false) answers k
    → IsPeakOf changes records (take k answers) peak → IsPeakBefore changes records position peak
peak_is_before changes records answers position k peak are within point is = by_peak peak is where
  -- an acknowledged write is one of the first answered calls
  counted : (j : ℕ) (q : Pair) → IsAcknowledged changes records position j q → (m : ℕ) × (a : AnsweredRec) × (slice_get (take k answers) m ≡ Some a) × (pair_at changes records a.rec ≡ Some q)
  counted j q w =
      let entry = heard_entry records answers j w.own w.replied w.reply are w.at w.heard in
      let a : AnsweredRec = answer_of w.replied j in
      let m : ℕ = entry.0 in
      let inside : m < length answers = slice_get_within answers m a entry.1 in
      let early : m < k = elim (cases_lt m k) as (λ _. m < k) [
        | inl less ↦ less
        | inr late ↦ (let fails : nat_lt (get_or answers m a).reply_at position ≡ false = point.1 m a late inside in
            let own : get_or answers m a ≡ a = get_or_from_slice_get answers m a a entry.1 in
            absurd (true≢false (sym (lt-ltb w.replied position w.before) ∙ (ap (λ (x : AnsweredRec). nat_lt x.reply_at position) (sym own) ∙ fails))))
      ] in
      (m, a, take_get answers k m a early entry.1, pair_there changes records j w.own w.at ∙ w.pair)

  by_peak : (peak : Option ℕ) → IsPeakOf changes records (take k answers) peak → IsPeakBefore changes records position peak
  by_peak None none = λ j q w. let c = counted j q w in none_is_not_some q (sym (none c.0 c.1 c.2) ∙ c.3)
  by_peak (Some w) (q, is, (n, b, at, same), most) =
      let there = get_take answers k n b at in
      let entry = entry_heard records answers n b are there.0 in
      let rec : slice_get records w ≡ Some entry.0 = ap (slice_get records) (sym same) ∙ entry.2 in
      let passes : nat_lt (get_or answers n b).reply_at position ≡ true = point.0 n b (omega arith) there.1 in
      let own : get_or answers n b ≡ b = get_or_from_slice_get answers n b b there.0 in (
        q,
        record {
          own = entry.0;
          at = rec;
          replied = b.reply_at;
          reply = entry.1;
          heard = entry.3;
          before = ltb-true b.reply_at position (ap (λ (x : AnsweredRec). nat_lt x.reply_at position) (sym own) ∙ passes);
          pair = sym (pair_there changes records w entry.0 rec) ∙ is;
        },
        λ j p acknowledged above. let c = counted j p acknowledged in most c.0 c.1 p c.2 c.3 above,
      )

-- ---- the list of peaks

-- one peak more
pub peaks_more : (changes : Changes) (records : List Rec) (answers : List AnsweredRec) (peaks news : List (Option ℕ)) (k : ℕ) (peak next : Option ℕ) (a : AnsweredRec)
    → ArePeaksSoFar changes records answers peaks k peak → slice_get answers k ≡ Some a → IsPeakOf changes records (take k answers ++ a ∷ []) next → news ≡ peaks ++ next ∷ []
    → ArePeaksSoFar changes records answers news (k + 1) next
peaks_more changes records answers peaks news k peak next a so_far at is same = record {
  count = let was : length peaks ≡ k + 1 = so_far.count in ap length same ∙ (length-append peaks (next ∷ []) ∙ (let sum : length peaks + 1 ≡ k + 1 + 1 = omega arith in sum));
  each = λ j own bt. elim (get_snoc peaks next own j (ap (λ xs. slice_get xs j) (sym same) ∙ bt)) as (λ _. IsPeakOf changes records (take j answers) own) [
    | inl old ↦ so_far.each j own old
    | inr new ↦ (let was : length peaks ≡ k + 1 = so_far.count in
        let place : k + 1 ≡ j = (let end : j ≡ length peaks = new.0 in omega arith) in
        subst (IsPeakOf changes records (take j answers)) new.1 (subst (λ n. IsPeakOf changes records (take n answers) next) place more))
  ];
  last = more;
} where
  more : IsPeakOf changes records (take (k + 1) answers) next
  more = subst (λ xs. IsPeakOf changes records xs next) (sym (ap (λ n. take n answers) (add-one k) ∙ take_one_more answers k a at)) is

-- no answered call has no peak
pub peaks_begin : (changes : Changes) (records : List Rec) (answers : List AnsweredRec) → ArePeaksSoFar changes records answers (None ∷ []) 0 None
peaks_begin changes records answers = record {
  count = (let one : 1 ≡ 0 + 1 = omega arith in one);
  each = λ j own at. only j own at;
  last = none;
} where
  none : IsPeakOf changes records (take 0 answers) None
  none m a at = absurd (none_is_not_some a (sym (nothing answers m) ∙ at)) where
    nothing : (xs : List AnsweredRec) (m : ℕ) → slice_get (take 0 xs) m ≡ None
    nothing [] m = refl
    nothing (x ∷ xs) m = refl

  only : (j : ℕ) (own : Option ℕ) → slice_get (None ∷ []) j ≡ Some own → IsPeakOf changes records (take j answers) own
  only zero own at = subst (IsPeakOf changes records (take 0 answers)) (same_some None own at) none
  only (suc j) own at = absurd (none_is_not_some own at)
