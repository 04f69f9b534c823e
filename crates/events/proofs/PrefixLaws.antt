-- A prefix of a linearizable history is one.
use Rattle.std.proofs.Common.{ℕ, zero, suc, ◌≡◌, ◌<◌, ◌≤◌, List, [], ◌∷◌, ◌++◌, take, refl, sym, ap, subst, ◌∙◌, inl, inr, arith, Option, Some, None, slice_get, ◌⊎◌, Bool, true, false, eq-eqb}
use Rattle.std.specs.Prelude.{◌==◌, is_some}
use Rattle.std.proofs.lemmas.Bool.{both_ways, cases_lt, eqb-true}
use Rattle.std.proofs.lemmas.List.{map-append}
use Rattle.doc_register.specs.declared.reply.Reply.{Reply as Answer}
use Rattle.doc_register.specs.declared.state.Conflicts.{Conflicts}
use Rattle.doc_register.specs.Run.{Entry, IsLegalRun, IsRun, State, start}
use Rattle.events.specs.declared.event.Event.{Event}
use Rattle.events.specs.declared.event.Event.TheVariants.{Call, Reply, Lost}
use Rattle.events.specs.Events.{IsHistory, IsReplyAt, PassesAt, Precedes, place_of}
use Rattle.events.specs.Order.{Explains, IsOfCall, Placed, run_of}
use Rattle.events.specs.Laws.{PrefixesStay}
use Rattle.version_pair.proofs.ListLemmas.{get_front, get_take, none_is_not_some, same_some, take_get}
use Rattle.events.proofs.EventLemmas.{passes_element, element_passes, place_of-passes, place_of-some}
use Rattle.events.proofs.HistoryLemmas.{call_passes}

-- ---- the first elements

pub first_passes : (n : ℕ) (t : Event → Bool) (H : List Event) (i : ℕ) → PassesAt t (take n H) i → (i < n) × PassesAt t H i
first_passes n t H i p =
    let e = passes_element t (take n H) i p in
    let g = get_take H n i e.0 e.1 in
    (g.1, element_passes t H i e.0 g.0 e.2)

passes_first : (n : ℕ) (t : Event → Bool) (H : List Event) (i : ℕ) → i < n → PassesAt t H i → PassesAt t (take n H) i
passes_first n t H i below p = let e = passes_element t H i p in element_passes t (take n H) i e.0 (take_get H n i e.0 below e.1) e.2

-- ---- a prefix is a history

pub prefix_history : (H : List Event) (n : ℕ) → IsHistory H → IsHistory (take n H)
prefix_history H n history = record {
  called_once = λ m i j p q. history.called_once m i j (first_passes n _ H i p).1 (first_passes n _ H j q).1;
  ended_once = λ m i j p q. history.ended_once m i j (first_passes n _ H i p).1 (first_passes n _ H j q).1;
  ended_after_call = λ m i p.
      let e = first_passes n _ H i p in
      let c = history.ended_after_call m i e.1 in
      let ending : i < n = e.0 in
      let early : c.0 < i = c.1 in
      (c.0, c.1, passes_first n _ H c.0 (omega arith) c.2);
  replies_fit = λ m i j h d op r reply call. history.replies_fit m i j h d op r (get_take H n i (Reply m r) reply).0 (get_take H n j (Call h m d op) call).0;
  one_shard = λ i j m k h g d op o a b. history.one_shard i j m k h g d op o (get_take H n i (Call h m d op) a).0 (get_take H n j (Call g k d o) b).0;
  shards = λ i m h d op at. history.shards i m h d op (get_take H n i (Call h m d op) at).0;
}

-- ---- the part of an order up to its last call that is answered in the prefix

-- a list up to its last element that passes the test, and the rest
record Cut {X : Type 0} (t : X → Bool) (xs : List X) : Type 0 where
  pub front : List X
  pub back : List X
  pub split : xs ≡ front ++ back
  pub none : (i : ℕ) (x : X) → slice_get back i ≡ Some x → t x ≡ true → ⊥
  pub covered : (i : ℕ) (x : X) → slice_get front i ≡ Some x → (j : ℕ) × (y : X) × (i ≤ j) × (slice_get front j ≡ Some y) × (t y ≡ true)

cut_more : {X : Type 0} (t : X → Bool) (x : X) (xs : List X) → Cut t xs → Cut t (x ∷ xs)
cut_more {X} t x xs c = by_front c.front refl (t x) refl where
  nothing_before : c.front ≡ [] → xs ≡ c.back
  nothing_before is = c.split ∙ ap (λ f. f ++ c.back) is

  alone : t x ≡ true → (i : ℕ) (z : X) → slice_get (x ∷ []) i ≡ Some z → (j : ℕ) × (y : X) × (i ≤ j) × (slice_get (x ∷ []) j ≡ Some y) × (t y ≡ true)
  alone e zero z at = (zero, x, (omega arith), refl, e)
  alone e (suc i) z at = absurd (none_is_not_some z at)

  none_more : t x ≡ false → (i : ℕ) (z : X) → slice_get (x ∷ c.back) i ≡ Some z → t z ≡ true → ⊥
  none_more e zero z at passes = both_ways (t x) e (ap t (same_some x z at) ∙ passes)
  none_more e (suc i) z at passes = c.none i z at passes

  covered_more : (y : X) → slice_get c.front 0 ≡ Some y → (i : ℕ) (z : X) → slice_get (x ∷ c.front) i ≡ Some z
      → (j : ℕ) × (w : X) × (i ≤ j) × (slice_get (x ∷ c.front) j ≡ Some w) × (t w ≡ true)
  covered_more y first zero z at = let k = c.covered 0 y first in (suc k.0, k.1, (omega arith), k.3, k.4)
  covered_more y first (suc i) z at = let k = c.covered i z at in let le : i ≤ k.0 = k.2 in (suc k.0, k.1, (omega arith), k.3, k.4)

  by_front : (f : List X) → c.front ≡ f → (b : Bool) → t x ≡ b → Cut t (x ∷ xs)
  by_front (y ∷ ys) is b e = record {
    front = x ∷ c.front;
    back = c.back;
    split = ap (λ zs. x ∷ zs) c.split;
    none = c.none;
    covered = covered_more y (ap (λ f. slice_get f 0) is);
  }
  by_front [] is true e = record {
    front = x ∷ [];
    back = c.back;
    split = ap (λ zs. x ∷ zs) (nothing_before is);
    none = c.none;
    covered = alone e;
  }
  by_front [] is false e = record {
    front = [];
    back = x ∷ c.back;
    split = ap (λ zs. x ∷ zs) (nothing_before is);
    none = none_more e;
    covered = λ i z at. absurd (none_is_not_some z at);
  }

cut : {X : Type 0} (t : X → Bool) (xs : List X) → Cut t xs
cut t [] = record {
  front = [];
  back = [];
  split = refl;
  none = λ i x at. absurd (none_is_not_some x at);
  covered = λ i x at. absurd (none_is_not_some x at);
}
cut t (x ∷ xs) = cut_more t x xs (cut t xs)

-- the reply to the call numbered n
abbrev is_reply : ℕ → Event → Bool
is_reply n (Call h m d op) = false
is_reply n (Reply m r) = m == n
is_reply n (Lost m) = false

-- the placed call has a reply among the events
abbrev is_answered : List Event → Placed → Bool
is_answered G p = is_some (place_of (is_reply p.no) G)

answered_at : (G : List Event) (p : Placed) → is_answered G p ≡ true → (k : ℕ) × (r : Answer) × IsReplyAt G k p.no r
answered_at G p h = by_place (place_of (is_reply p.no) G) refl h where
  by_event : (k : ℕ) (e : Event) → slice_get G k ≡ Some e → is_reply p.no e ≡ true → (k : ℕ) × (r : Answer) × IsReplyAt G k p.no r
  by_event k (Call h m d op) at passes = let impossible : false ≡ true = passes in absurd (cc)
  by_event k (Reply m r) at passes = (k, r, at ∙ ap (λ q. Some (Reply q r)) (eqb-true m p.no passes))
  by_event k (Lost m) at passes = let impossible : false ≡ true = passes in absurd (cc)

  by_place : (o : Option ℕ) → place_of (is_reply p.no) G ≡ o → is_some o ≡ true → (k : ℕ) × (r : Answer) × IsReplyAt G k p.no r
  by_place None is h = let impossible : false ≡ true = h in absurd (cc)
  by_place (Some k) is h = let e = passes_element (is_reply p.no) G k (place_of-passes (is_reply p.no) G k is) in by_event k e.0 e.1 e.2

at_answered : (G : List Event) (p : Placed) (k : ℕ) (r : Answer) → IsReplyAt G k p.no r → is_answered G p ≡ true
at_answered G p k r at =
    let first = place_of-some (is_reply p.no) G k (element_passes (is_reply p.no) G k (Reply p.no r) at (eq-eqb p.no p.no refl)) in
    ap is_some first.1

-- ---- the front of a run

run_front : (es fs : List Entry) (s t : State) → IsRun s (es ++ fs) t → (m : State) × IsRun s es m
run_front [] fs s t run = (s, refl)
run_front (e ∷ es) fs s t (m, step, rest) = let r = run_front es fs m t rest in (r.0, (m, step, r.1))

legal_front : (front back : List Placed) → IsLegalRun (run_of (front ++ back)) → IsLegalRun (run_of front)
legal_front front back legal =
    let entry : Placed → Entry = λ p. p.entry in
    let whole : IsLegalRun (run_of front ++ run_of back) = subst IsLegalRun (map-append entry front back) legal in
    run_front (run_of front) (run_of back) start whole.0 whole.1

-- ---- the law

pub in_front_or_back : {X : Type 0} (xs ys : List X) (i : ℕ) (z : X) → slice_get (xs ++ ys) i ≡ Some z → (slice_get xs i ≡ Some z) ⊎ ((j : ℕ) × (slice_get ys j ≡ Some z))
in_front_or_back [] ys i z at = inr (i, at)
in_front_or_back (x ∷ xs) ys zero z at = inl at
in_front_or_back (x ∷ xs) ys (suc i) z at = in_front_or_back xs ys i z at

precedes_still : (H : List Event) (n a b : ℕ) → Precedes (take n H) a b → Precedes H a b
precedes_still H n a b p = record {
  answered = p.answered;
  called = p.called;
  before = p.before;
  reply = (p.reply.0, (get_take H n p.answered (Reply a p.reply.0) p.reply.1).0);
  call = (first_passes n _ H p.called p.call).1;
}

-- the part of the order explains the prefix
front_explains : (conflicts : Conflicts) (H : List Event) (n : ℕ) (order : List Placed) (c : Cut (is_answered (take n H)) order) → Explains conflicts H order → Explains conflicts (take n H) c.front
front_explains conflicts H n order c explains = record {
  is_order = record {
    calls = λ i p at. called i p at (explains.is_order.calls i p (whole i p at));
    once = λ i j p q at bt same. explains.is_order.once i j p q (whole i p at) (whole j q bt) same;
    answered = λ k m r at. found k m r at (explains.is_order.answered k m r (get_take H n k (Reply m r) at).0);
    plain = λ conflicts_is i p at. explains.is_order.plain conflicts_is i p (whole i p at);
  };
  respects = λ i j p q at bt first. explains.respects i j p q (whole i p at) (whole j q bt) (precedes_still H n p.no q.no first);
  legal = legal_front c.front c.back (subst (λ o. IsLegalRun (run_of o)) c.split explains.legal);
} where
  whole : (i : ℕ) (p : Placed) → slice_get c.front i ≡ Some p → slice_get order i ≡ Some p
  whole i p at = subst (λ o. slice_get o i ≡ Some p) (sym c.split) (get_front c.front c.back i p at)

  -- a call that stands before one that is answered in the prefix is called in it
  called : (i : ℕ) (p : Placed) → slice_get c.front i ≡ Some p → IsOfCall H p → IsOfCall (take n H) p
  called i p at (k, call) =
      elim (cases_lt k n) as (λ _. IsOfCall (take n H) p) [
        | inl below ↦ (k, take_get H n k (Call p.entry.shard p.no p.entry.doc p.entry.op) below call)
        | inr late ↦ (let a = c.covered i p at in
            let r = answered_at (take n H) a.1 a.4 in
            let g = get_take H n r.0 (Reply a.1.no r.1) r.2 in
            let early : r.0 < n = g.1 in
            let first : Precedes H a.1.no p.no = record {
              answered = r.0;
              called = k;
              before = omega arith;
              reply = (r.1, g.0);
              call = call_passes H k p.no p.entry.shard p.entry.doc p.entry.op call;
            } in
            let before : a.0 < i = explains.respects a.0 i a.1 p (whole a.0 a.1 a.3) (whole i p at) first in
            let after : i ≤ a.0 = a.2 in
            absurd (omega arith))
      ]

  found : (k m : ℕ) (r : Answer) → IsReplyAt (take n H) k m r
      → (i : ℕ) × (p : Placed) × (slice_get order i ≡ Some p) × (p.no ≡ m) × (p.entry.reply ≡ r)
      → (i : ℕ) × (p : Placed) × (slice_get c.front i ≡ Some p) × (p.no ≡ m) × (p.entry.reply ≡ r)
  found k m r at (i, p, here, number, reply) =
      elim (in_front_or_back c.front c.back i p (subst (λ o. slice_get o i ≡ Some p) c.split here))
      as (λ _. (i : ℕ) × (p : Placed) × (slice_get c.front i ≡ Some p) × (p.no ≡ m) × (p.entry.reply ≡ r)) [
        | inl there ↦ (i, p, there, number, reply)
        | inr there ↦ absurd (c.none there.0 p there.1 (at_answered (take n H) p k r (subst (λ q. IsReplyAt (take n H) k q r) (sym number) at)))
      ]

pub prefixes_stay : PrefixesStay
prefixes_stay = record {
  history = prefix_history;
  linearizable = λ conflicts H n (order, explains).
      let c = cut (is_answered (take n H)) order in
      (c.front, front_explains conflicts H n order c explains);
}
