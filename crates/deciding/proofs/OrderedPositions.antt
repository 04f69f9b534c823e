-- Positions of a document at the places of an order that explains it.
use Rattle.std.proofs.Common.{ℕ, zero, suc, ◌≡◌, ◌<◌, ◌≤◌, ◌⊎◌, ◌==◌, inl, inr, List, [], ◌∷◌, refl, sym, ap, subst, ◌∙◌, arith, true, cond, not, true≢false, Option, Some, None, slice_get}
use Rattle.std.proofs.lemmas.Bool.{cases_lt, or_left, or_right, or_cases, and_from, and_parts, eq-eqb, eqb-true, false_from_ne_true}
use Rattle.version_pair.specs.declared.pair.Pair.{Pair}
use Rattle.version_pair.specs.PairOrder.{IsBelow}
use Rattle.version_pair.proofs.PairLemmas.{same_pair}
use Rattle.doc_register.specs.declared.op.Op.{Op}
use Rattle.doc_register.specs.declared.reply.Reply.{Reply as Answer}
use Rattle.doc_register.specs.declared.state.DocState.{DocState}
use Rattle.doc_register.specs.Register.{Exceeds, last_pair}
use Rattle.doc_register.specs.Run.{pair_taken}
use Rattle.doc_register.proofs.RunLemmas.{AtMost, not_below_itself, not_both_below}
use Rattle.events.specs.declared.event.Event.TheVariants.{Call, Reply}
use Rattle.events.specs.declared.record.Rec.{Rec}
use Rattle.events.specs.Events.{IsReplyAt}
use Rattle.events.specs.Order.{Placed}
use Rattle.version_pair.proofs.ListLemmas.{none_is_not_some, same_some}
use Rattle.deciding.specs.Reported.{IsKnown, known_pairs}
use Rattle.deciding.specs.Positions.{taking_position, version_of}
use Rattle.deciding.specs.Branches.{is_among, is_same_pair, position}
use Rattle.deciding.proofs.Counts.{gap_grows, known_or_not, version_before_gap}
use Rattle.deciding.proofs.DocumentSteps.{exceeds_above, pair_reached, reached_pair}
use Rattle.deciding.proofs.OrderedSteps.{Explained, IsEntry, IsRecordOf, IsTaken, call_of, doc_at, heard_reported, lesser_first, performs_at, reached_later, recs, stands_first}

-- ---- positions

-- two pairs are the same if they are tested to be
pair_same : (p q : Pair) → p ≡ q → is_same_pair p q ≡ true
pair_same p q same = and_from (p.term == q.term) (p.seq == q.seq) (eq-eqb p.term q.term (ap (λ (y : Pair). y.term) same)) (eq-eqb p.seq q.seq (ap (λ (y : Pair). y.seq) same))

same_pair_tested : (p q : Pair) → is_same_pair p q ≡ true → p ≡ q
same_pair_tested p q is =
    let parts = and_parts (p.term == q.term) (p.seq == q.seq) is in
    same_pair p q (eqb-true p.term q.term parts.0) (eqb-true p.seq q.seq parts.1)

-- the position of the document at a place
abbrev pub position_at : Explained → ℕ → ℕ
position_at x i = position (recs x) (last_pair (doc_at x i))

-- a pair is among those that are listed with it
among_listed : (vs : List Pair) (i : ℕ) (p : Pair) → slice_get vs i ≡ Some p → is_among vs p ≡ true
among_listed [] i p at = absurd (none_is_not_some p at)
among_listed (v ∷ vs) zero p at = or_left (is_same_pair v p) (is_among vs p) (pair_same v p (same_some v p at))
among_listed (v ∷ vs) (suc i) p at = or_right (is_same_pair v p) (is_among vs p) (among_listed vs i p at)

-- and listed if it is among them
listed_among : (vs : List Pair) (p : Pair) → is_among vs p ≡ true → (i : ℕ) × (slice_get vs i ≡ Some p)
listed_among [] p is = absurd (true≢false (sym is))
listed_among (v ∷ vs) p is = by_part (or_cases (is_same_pair v p) (is_among vs p) is) (λ later. listed_among vs p later) where
  by_part : (is_same_pair v p ≡ true) ⊎ (is_among vs p ≡ true) → (is_among vs p ≡ true → (i : ℕ) × (slice_get vs i ≡ Some p)) → (i : ℕ) × (slice_get (v ∷ vs) i ≡ Some p)
  by_part (inl here) rest = (zero, ap (λ x. Some x) (same_pair_tested v p here))
  by_part (inr later) rest = let r = rest later in (suc r.0, r.1)

pub known_among : (records : List Rec) (p : Pair) → IsKnown records p → is_among (known_pairs records) p ≡ true
known_among records p known = among_listed (known_pairs records) known.0 p known.1

pub among_known : (records : List Rec) (p : Pair) → is_among (known_pairs records) p ≡ true → IsKnown records p
among_known records p is = listed_among (known_pairs records) p is

pub position_known : (records : List Rec) (p : Pair) → IsKnown records p → position records (Some p) ≡ version_of records p
position_known records p known = ap (λ b. cond b (version_of records p) (taking_position records p)) (known_among records p known)

pub position_unknown : (records : List Rec) (p : Pair) → (¬ IsKnown records p) → position records (Some p) ≡ taking_position records p
position_unknown records p unknown =
    ap (λ b. cond b (version_of records p) (taking_position records p)) (false_from_ne_true (is_among (known_pairs records) p) (λ is. unknown (among_known records p is)))

-- what is below a pair lies before the gap of the pair
pub position_before : (records : List Rec) (p q : Pair) → IsBelow p q → position records (Some p) ≤ taking_position records q
position_before records p q below = by_case (known_or_not records p) where
  by_case : IsKnown records p ⊎ (¬ IsKnown records p) → position records (Some p) ≤ taking_position records q
  by_case (inl known) = let less : version_of records p < taking_position records q = version_before_gap records p q known below in let same : position records (Some p) ≡ version_of records p = position_known records p known in omega arith
  by_case (inr unknown) = let within : taking_position records p ≤ taking_position records q = gap_grows records p q below in let same : position records (Some p) ≡ taking_position records p = position_unknown records p unknown in omega arith

pub gap_within : (records : List Rec) (p : Pair) → taking_position records p ≤ position records (Some p)
gap_within records p = by_case (known_or_not records p) where
  by_case : IsKnown records p ⊎ (¬ IsKnown records p) → taking_position records p ≤ position records (Some p)
  by_case (inl known) = let same : position records (Some p) ≡ version_of records p = position_known records p known in omega arith
  by_case (inr unknown) = let same : position records (Some p) ≡ taking_position records p = position_unknown records p unknown in omega arith

-- a document that has reached a pair has reached its position
pub reached_position : (records : List Rec) (s : DocState) (p : Pair) → AtMost p s → position records (Some p) ≤ position records (last_pair s)
reached_position records s p most = by_pair (reached_pair s p most) where
  by_pair : (q : Pair) × (last_pair s ≡ Some q) × ((p ≡ q) ⊎ IsBelow p q) → position records (Some p) ≤ position records (last_pair s)
  by_pair (q, is, inl same) =
      let one : position records (Some p) ≡ position records (last_pair s) = ap (λ v. position records (Some v)) same ∙ ap (position records) (sym is) in omega arith
  by_pair (q, is, inr below) =
      let low : position records (Some p) ≤ taking_position records q = position_before records p q below in
      let high : taking_position records q ≤ position records (Some q) = gap_within records q in
      let one : position records (last_pair s) ≡ position records (Some q) = ap (position records) is in
      omega arith

-- positions don't fall along the order
pub position_grows : (x : Explained) (i j : ℕ) → i ≤ j → position_at x i ≤ position_at x j
position_grows x i j within = by_pair (last_pair (doc_at x i)) refl where
  by_pair : (o : Option Pair) → last_pair (doc_at x i) ≡ o → position_at x i ≤ position_at x j
  by_pair None is = let zero_here : position_at x i ≡ 0 = ap (position (recs x)) is in omega arith
  by_pair (Some p) is =
      let low : position (recs x) (Some p) ≤ position_at x j = reached_position (recs x) (doc_at x j) p (reached_later x p i j within (pair_reached (doc_at x i) p is)) in
      let same : position_at x i ≡ position (recs x) (Some p) = ap (position (recs x)) is in
      omega arith

-- where a pair is taken the document is before its gap
pub position_below : (x : Explained) (i : ℕ) (q : Pair) → Exceeds q (doc_at x i) → position_at x i ≤ taking_position (recs x) q
position_below x i q exceeds = by_pair (last_pair (doc_at x i)) refl where
  by_pair : (o : Option Pair) → last_pair (doc_at x i) ≡ o → position_at x i ≤ taking_position (recs x) q
  by_pair None is = let zero_here : position_at x i ≡ 0 = ap (position (recs x)) is in omega arith
  by_pair (Some p) is =
      let low : position (recs x) (Some p) ≤ taking_position (recs x) q = position_before (recs x) p q (exceeds_above (doc_at x i) p q is exceeds) in
      let same : position_at x i ≡ position (recs x) (Some p) = ap (position (recs x)) is in
      omega arith

-- ---- the order of known pairs

-- a known pair that the document has reached is taken before
pub taken_earlier : (x : Explained) (v : Pair) (k : IsTaken x v) (j : ℕ) → version_of (recs x) v ≤ position_at x j → k.place < j
taken_earlier x v k j reached = by_order (cases_lt k.place j) where
  by_order : ((k.place < j) ⊎ (j ≤ k.place)) → k.place < j
  by_order (inl first) = first
  by_order (inr not) =
      let grows : position_at x j ≤ position_at x k.place = position_grows x j k.place not in
      let low : position_at x k.place ≤ taking_position (recs x) v = position_below x k.place v (performs_at x k.place k.placed v k.entry k.takes).rises in
      absurd (omega arith)

-- a known pair below one that is taken at a place is taken before
pub taken_below : (x : Explained) (i : ℕ) (p : Placed) (q v : Pair) (k : IsTaken x v) → IsEntry x i p → pair_taken p.entry.reply p.entry.hidden ≡ Some q → IsBelow v q → k.place < i
taken_below x i p q v k e takes below = by_order (cases_lt k.place i) (cases_lt i k.place) where
  by_order : ((k.place < i) ⊎ (i ≤ k.place)) → ((i < k.place) ⊎ (k.place ≤ i)) → k.place < i
  by_order (inl first) other = first
  by_order (inr not) (inl first) =
      absurd (not_both_below v q below (lesser_first x i k.place p k.placed q v first e k.entry takes k.takes))
  by_order (inr not) (inr nor) =
      let same : i ≡ k.place = omega arith in
      let one : p ≡ k.placed = same_some p k.placed (sym e.at ∙ (ap (slice_get x.order) same ∙ k.entry.at)) in
      let pair : q ≡ v = same_some q v (sym takes ∙ (ap (λ (y : Placed). pair_taken y.entry.reply y.entry.hidden) one ∙ k.takes)) in
      absurd (not_below_itself v (subst (IsBelow v) pair below))

-- ---- calls

-- what stands before an answered call was called before its reply
pub called_before : (x : Explained) (i j : ℕ) (p r : Placed) (w c : Rec) (replied : ℕ) (reply : Answer) → IsRecordOf x i p w → IsRecordOf x j r c → c.heard ≡ Some (replied, reply)
    → i < j → w.call_at < replied
called_before x i j p r w c replied reply of with_it heard before = by_order (cases_lt w.call_at replied) (cases_lt replied w.call_at) where
  not_both : {m n h : ℕ} {d : List ℕ} {op : Op} {a : Answer} → Some (Reply m a) ≡ Some (Call h n d op) → ⊥
  not_both is = cc

  by_order : ((w.call_at < replied) ⊎ (replied ≤ w.call_at)) → ((replied < w.call_at) ⊎ (w.call_at ≤ replied)) → w.call_at < replied
  by_order (inl first) other = first
  by_order (inr not) (inl late) =
      let after : j < i = stands_first x j i r p c w replied reply with_it of heard late in
      absurd (omega arith)
  by_order (inr not) (inr nor) =
      let same : replied ≡ w.call_at = omega arith in
      let reported : IsReplyAt x.events replied c.no reply = heard_reported x with_it.listed.0 c replied reply with_it.listed.1 heard in
      let call = call_of x of.listed.0 w of.listed.1 in
      absurd (not_both (sym reported ∙ (ap (slice_get x.events) same ∙ call.1)))
