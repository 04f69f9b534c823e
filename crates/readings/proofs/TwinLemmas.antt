-- Events with twins: where each event of the text is read, and what each event that is read was in the text.
use Rattle.std.proofs.Common.{ℕ, zero, suc, ◌≡◌, ◌<◌, ◌≤◌, ◌+◌, ◌*◌, ◌⊎◌, inl, inr, List, [], ◌∷◌, refl, sym, ap, subst, ◌∙◌, arith, Bool, true, false, Option, Some, None, length, slice_get, true≢false}
use Rattle.std.specs.Prelude.{if◌then◌else◌, unwrap_or}
use Rattle.doc_register.specs.declared.op.Op.{Op}
use Rattle.doc_register.specs.declared.reply.Reply.{Reply as Answer}
use Rattle.doc_register.specs.Register.{fits}
use Rattle.version_pair.proofs.ListLemmas.{compare, none_is_not_some, same_some}
use Rattle.events.specs.declared.event.Event.{Event}
use Rattle.events.specs.declared.event.Event.TheVariants.{Call, Reply, Lost}
use Rattle.events.specs.Events.{IsCallAt, IsHistory, IsReplyAt, PassesAt, is_call, is_ending, place_of}
use Rattle.events.proofs.EventLemmas.{element_passes, passes_element, place_of-passes, place_of-some}
use Rattle.events.proofs.HistoryLemmas.{call_at, call_passes}
use Rattle.std.proofs.lemmas.Bool.{cases_lt, eqb-true, eq-eqb}
use Rattle.history.specs.ByRules.{is_repeatable}
use Rattle.readings.specs.Reading.{doubled, twin_before, with_twins}

-- ---- positions

-- how many events an event is read as
abbrev pub width : Event → ℕ
width (Call h n d op) = if is_repeatable op then 2 else 1
width (Reply n r) = 1
width (Lost n) = 1

-- the position at which the event at the position k is read
abbrev pub read_at : List Event → ℕ → ℕ
read_at [] k = k
read_at (e ∷ es) zero = 0
read_at (e ∷ es) (suc k) = width e + read_at es k

width_some : (e : Event) → 0 < width e
width_some (Call h n d op) = by_test (is_repeatable op) where
  by_test : (b : Bool) → 0 < (if b then 2 else 1)
  by_test true = omega arith
  by_test false = omega arith
width_some (Reply n r) = omega arith
width_some (Lost n) = omega arith

pub read_later : (es : List Event) (k l : ℕ) → k < l → read_at es k < read_at es l
read_later [] k l less = less
read_later (e ∷ es) zero zero less = absurd (omega arith)
read_later (e ∷ es) zero (suc l) less = let some = width_some e in omega arith
read_later (e ∷ es) (suc k) zero less = absurd (omega arith)
read_later (e ∷ es) (suc k) (suc l) less = let later = read_later es k l (omega arith) in omega arith

-- positions are read in their order, and in no other
pub read_in_order : (es : List Event) (k l : ℕ) → read_at es k < read_at es l → k < l
read_in_order es k l less = elim (cases_lt k l) as (λ _. k < l) [
  | inl below ↦ below
  | inr other ↦ elim (cases_lt l k) as (λ _. k < l) [
    | inl above ↦ (let more = read_later es l k above in absurd (omega arith))
    | inr under ↦ (let same : k ≡ l = omega arith in let equal : read_at es k ≡ read_at es l = ap (read_at es) same in absurd (omega arith))
  ]
]

-- ---- what is read

-- an event of the text as it is read, at its position
abbrev pub as_read : List Event → ℕ → Event → Event
as_read events i (Call h n d op) = Call h (2 * i) d op
as_read events i (Reply n r) = Reply (doubled events n) r
as_read events i (Lost n) = Lost (doubled events n)

-- an event that is read is an event of the text
pub record IsMain (events : List Event) (i : ℕ) (es : List Event) (j : ℕ) (x : Event) : Type 0 where
  pub place : ℕ
  pub event : Event
  pub at : slice_get es place ≡ Some event
  pub here : j ≡ read_at es place
  pub is : x ≡ as_read events (i + place) event

-- or it is the twin of a call of the text
pub record IsTwin (i : ℕ) (es : List Event) (j : ℕ) (x : Event) : Type 0 where
  pub place : ℕ
  pub shard : ℕ
  pub number : ℕ
  pub doc : List ℕ
  pub op : Op
  pub at : slice_get es place ≡ Some (Call shard number doc op)
  pub here : j ≡ suc (read_at es place)
  pub is : x ≡ Call shard (2 * (i + place) + 1) doc op

-- the same with one more event before
next : (events : List Event) (i : ℕ) (e : Event) (es : List Event) (x : Event) (j k w : ℕ) → width e ≡ w → j ≡ w + k → IsMain events (suc i) es k x ⊎ IsTwin (suc i) es k x
    → IsMain events i (e ∷ es) j x ⊎ IsTwin i (e ∷ es) j x
next events i e es x j k w wide at (inl m) = inl (record {
  place = suc m.place;
  event = m.event;
  at = m.at;
  here = let was : k ≡ read_at es m.place = m.here in omega arith;
  is = m.is ∙ ap (λ n. as_read events n m.event) (let same : suc i + m.place ≡ i + suc m.place = omega arith in same);
})
next events i e es x j k w wide at (inr m) = inr (record {
  place = suc m.place;
  shard = m.shard;
  number = m.number;
  doc = m.doc;
  op = m.op;
  at = m.at;
  here = let was : k ≡ suc (read_at es m.place) = m.here in omega arith;
  is = m.is ∙ ap (λ n. Call m.shard (2 * n + 1) m.doc m.op) (let same : suc i + m.place ≡ i + suc m.place = omega arith in same);
})

no_more : (i : ℕ) → i ≡ i + 0
no_more i = omega arith

pub from_text : (events : List Event) (i : ℕ) (es : List Event) (j : ℕ) (x : Event) → slice_get (with_twins events i es) j ≡ Some x → IsMain events i es j x ⊎ IsTwin i es j x
from_text events i [] j x at = absurd (none_is_not_some x at)
from_text events i (Call h n d op ∷ es) j x at = by_test (is_repeatable op) refl j at (λ k bt. from_text events (suc i) es k x bt) where
  by_test : (b : Bool) → is_repeatable op ≡ b → (j : ℕ) → slice_get (Call h (2 * i) d op ∷ twin_before b (Call h (2 * i + 1) d op) (with_twins events (suc i) es)) j ≡ Some x
      → ((k : ℕ) → slice_get (with_twins events (suc i) es) k ≡ Some x → IsMain events (suc i) es k x ⊎ IsTwin (suc i) es k x)
      → IsMain events i (Call h n d op ∷ es) j x ⊎ IsTwin i (Call h n d op ∷ es) j x
  by_test b is zero at later = inl (record {
    place = 0;
    event = Call h n d op;
    at = refl;
    here = refl;
    is = sym (same_some (Call h (2 * i) d op) x at) ∙ ap (λ m. Call h (2 * m) d op) (no_more i);
  })
  by_test true is (suc zero) at later = inr (record {
    place = 0;
    shard = h;
    number = n;
    doc = d;
    op = op;
    at = refl;
    here = refl;
    is = sym (same_some (Call h (2 * i + 1) d op) x at) ∙ ap (λ m. Call h (2 * m + 1) d op) (no_more i);
  })
  by_test true is (suc (suc k)) at later = next events i (Call h n d op) es x (suc (suc k)) k 2 (ap (λ b. if b then 2 else 1) is) (omega arith) (later k at)
  by_test false is (suc k) at later = next events i (Call h n d op) es x (suc k) k 1 (ap (λ b. if b then 2 else 1) is) (omega arith) (later k at)
from_text events i (Reply n r ∷ es) zero x at = inl (record { place = 0; event = Reply n r; at = refl; here = refl; is = sym (same_some (Reply (doubled events n) r) x at) })
from_text events i (Reply n r ∷ es) (suc k) x at = next events i (Reply n r) es x (suc k) k 1 refl (omega arith) (from_text events (suc i) es k x at)
from_text events i (Lost n ∷ es) zero x at = inl (record { place = 0; event = Lost n; at = refl; here = refl; is = sym (same_some (Lost (doubled events n)) x at) })
from_text events i (Lost n ∷ es) (suc k) x at = next events i (Lost n) es x (suc k) k 1 refl (omega arith) (from_text events (suc i) es k x at)

-- each event of the text is read at its position
head_read : (events : List Event) (i : ℕ) (x : Event) (es : List Event) → slice_get (with_twins events i (x ∷ es)) 0 ≡ Some (as_read events i x)
head_read events i (Call h n d op) es = refl
head_read events i (Reply n r) es = refl
head_read events i (Lost n) es = refl

tail_read : (events : List Event) (i : ℕ) (x : Event) (es : List Event) (m : ℕ) → slice_get (with_twins events i (x ∷ es)) (width x + m) ≡ slice_get (with_twins events (suc i) es) m
tail_read events i (Call h n d op) es m = by_test (is_repeatable op) where
  by_test : (b : Bool) → slice_get (Call h (2 * i) d op ∷ twin_before b (Call h (2 * i + 1) d op) (with_twins events (suc i) es)) ((if b then 2 else 1) + m) ≡ slice_get (with_twins events (suc i) es) m
  by_test true = ap (slice_get (Call h (2 * i) d op ∷ Call h (2 * i + 1) d op ∷ with_twins events (suc i) es)) (let two : 2 + m ≡ suc (suc m) = omega arith in two)
  by_test false = ap (slice_get (Call h (2 * i) d op ∷ with_twins events (suc i) es)) (let one : 1 + m ≡ suc m = omega arith in one)
tail_read events i (Reply n r) es m = ap (slice_get (Reply (doubled events n) r ∷ with_twins events (suc i) es)) (let one : 1 + m ≡ suc m = omega arith in one)
tail_read events i (Lost n) es m = ap (slice_get (Lost (doubled events n) ∷ with_twins events (suc i) es)) (let one : 1 + m ≡ suc m = omega arith in one)

pub text_read : (events : List Event) (i : ℕ) (es : List Event) (k : ℕ) (e : Event) → slice_get es k ≡ Some e → slice_get (with_twins events i es) (read_at es k) ≡ Some (as_read events (i + k) e)
text_read events i [] k e at = absurd (none_is_not_some e at)
text_read events i (x ∷ es) zero e at = head_read events i x es ∙ (ap (λ y. Some (as_read events i y)) (same_some x e at) ∙ ap (λ n. Some (as_read events n e)) (no_more i))
text_read events i (x ∷ es) (suc k) e at =
    tail_read events i x es (read_at es k)
    ∙ (text_read events (suc i) es k e at ∙ ap (λ n. Some (as_read events n e)) (let same : suc i + k ≡ i + suc k = omega arith in same))

-- ---- calls and endings

-- a call that is read: a call of the text with an even number, or its twin with the odd one behind it
pub record IsCallRead (events : List Event) (j n h : ℕ) (d : List ℕ) (op : Op) : Type 0 where
  pub place : ℕ
  pub number : ℕ
  pub at : IsCallAt events place number h d op
  pub kind : ((n ≡ 2 * place) × (j ≡ read_at events place)) ⊎ ((n ≡ 2 * place + 1) × (j ≡ suc (read_at events place)))

plain_place : (i : ℕ) → 0 + i ≡ i
plain_place i = omega arith

pub call_read : (events : List Event) (j n h : ℕ) (d : List ℕ) (op : Op) → IsCallAt (with_twins events 0 events) j n h d op → IsCallRead events j n h d op
call_read events j n h d op at = by_source (from_text events 0 events j (Call h n d op) at) where
  by_event : (place : ℕ) (e : Event) → slice_get events place ≡ Some e → j ≡ read_at events place → Call h n d op ≡ as_read events place e → IsCallRead events j n h d op
  by_event place (Call g m f o) own here is =
      let shard : g ≡ h = cc in
      let doc : f ≡ d = cc in
      let operation : o ≡ op = cc in
      let number : n ≡ 2 * place = cc in
      record {
        place = place;
        number = m;
        at = subst (λ x. IsCallAt events place m x d op) shard (subst (λ x. IsCallAt events place m g x op) doc (subst (λ x. IsCallAt events place m g f x) operation own));
        kind = inl (number, here);
      }
  by_event place (Reply m r) own here is = absurd (cc)
  by_event place (Lost m) own here is = absurd (cc)

  by_source : IsMain events 0 events j (Call h n d op) ⊎ IsTwin 0 events j (Call h n d op) → IsCallRead events j n h d op
  by_source (inl m) = by_event m.place m.event m.at m.here (m.is ∙ ap (λ k. as_read events k m.event) (plain_place m.place))
  by_source (inr m) =
      let is : Call h n d op ≡ Call m.shard (2 * m.place + 1) m.doc m.op = m.is ∙ ap (λ k. Call m.shard (2 * k + 1) m.doc m.op) (plain_place m.place) in
      let shard : m.shard ≡ h = cc in
      let doc : m.doc ≡ d = cc in
      let operation : m.op ≡ op = cc in
      let number : n ≡ 2 * m.place + 1 = cc in
      record {
        place = m.place;
        number = m.number;
        at = subst (λ x. IsCallAt events m.place m.number x d op) shard (subst (λ x. IsCallAt events m.place m.number m.shard x op) doc (subst (λ x. IsCallAt events m.place m.number m.shard m.doc x) operation m.at));
        kind = inr (number, m.here);
      }

-- an ending that is read: that of a call of the text
pub record IsEndingRead (events : List Event) (j n : ℕ) : Type 0 where
  pub place : ℕ
  pub number : ℕ
  pub at : PassesAt (is_ending number) events place
  pub no : n ≡ doubled events number
  pub here : j ≡ read_at events place

pub ending_read : (events : List Event) (j n : ℕ) → PassesAt (is_ending n) (with_twins events 0 events) j → IsEndingRead events j n
ending_read events j n passes = let e = passes_element (is_ending n) (with_twins events 0 events) j passes in by_source e.0 (from_text events 0 events j e.0 e.1) e.2 where
  by_event : (x : Event) (place : ℕ) (e : Event) → slice_get events place ≡ Some e → j ≡ read_at events place → x ≡ as_read events place e → is_ending n x ≡ true → IsEndingRead events j n
  by_event x place (Call g m f o) own here is ends = absurd (true≢false (sym ends ∙ ap (is_ending n) is))
  by_event x place (Reply m r) own here is ends = record {
    place = place;
    number = m;
    at = element_passes (is_ending m) events place (Reply m r) own (eq-eqb m m refl);
    no = sym (eqb-true (doubled events m) n (sym (ap (is_ending n) is) ∙ ends));
    here = here;
  }
  by_event x place (Lost m) own here is ends = record {
    place = place;
    number = m;
    at = element_passes (is_ending m) events place (Lost m) own (eq-eqb m m refl);
    no = sym (eqb-true (doubled events m) n (sym (ap (is_ending n) is) ∙ ends));
    here = here;
  }

  by_source : (x : Event) → IsMain events 0 events j x ⊎ IsTwin 0 events j x → is_ending n x ≡ true → IsEndingRead events j n
  by_source x (inl m) ends = by_event x m.place m.event m.at m.here (m.is ∙ ap (λ k. as_read events k m.event) (plain_place m.place)) ends
  by_source x (inr m) ends = absurd (true≢false (sym ends ∙ ap (is_ending n) m.is))

-- a reply that is read
pub record IsReplyRead (events : List Event) (j n : ℕ) (r : Answer) : Type 0 where
  pub place : ℕ
  pub number : ℕ
  pub at : IsReplyAt events place number r
  pub no : n ≡ doubled events number
  pub here : j ≡ read_at events place

pub reply_read : (events : List Event) (j n : ℕ) (r : Answer) → IsReplyAt (with_twins events 0 events) j n r → IsReplyRead events j n r
reply_read events j n r at = by_source (from_text events 0 events j (Reply n r) at) where
  by_event : (place : ℕ) (e : Event) → slice_get events place ≡ Some e → j ≡ read_at events place → Reply n r ≡ as_read events place e → IsReplyRead events j n r
  by_event place (Call g m f o) own here is = absurd (cc)
  by_event place (Reply m s) own here is =
      let reply : s ≡ r = cc in
      record { place = place; number = m; at = subst (λ x. IsReplyAt events place m x) reply own; no = cc; here = here }
  by_event place (Lost m) own here is = absurd (cc)

  by_source : IsMain events 0 events j (Reply n r) ⊎ IsTwin 0 events j (Reply n r) → IsReplyRead events j n r
  by_source (inl m) = by_event m.place m.event m.at m.here (m.is ∙ ap (λ k. as_read events k m.event) (plain_place m.place))
  by_source (inr m) = let impossible = m.is in absurd (cc)

-- ---- numbers

-- the number of a call among twins
pub doubled_call : (events : List Event) → IsHistory events → (m c : ℕ) → PassesAt (is_call m) events c → doubled events m ≡ 2 * c
doubled_call events history m c passes =
    let first = place_of-some (is_call m) events c passes in
    let same : first.0 ≡ c = history.called_once m first.0 c (place_of-passes (is_call m) events first.0 first.1) passes in
    ap (λ o. 2 * unwrap_or o 0) first.1 ∙ ap (λ k. 2 * k) same

-- the call of an ending, by its number among twins
pub record IsEnded (events : List Event) (m k : ℕ) : Type 0 where
  pub place : ℕ
  pub before : place < k
  pub call : PassesAt (is_call m) events place
  pub no : doubled events m ≡ 2 * place

pub ended : (events : List Event) → IsHistory events → (m k : ℕ) → PassesAt (is_ending m) events k → IsEnded events m k
ended events history m k passes =
    let c = history.ended_after_call m k passes in
    record { place = c.0; before = c.1; call = c.2; no = doubled_call events history m c.0 c.2 }

-- calls with one number among twins are one
pub once_doubled : (events : List Event) → IsHistory events → (m n c e : ℕ) → PassesAt (is_call m) events c → PassesAt (is_call n) events e → c ≡ e → m ≡ n
once_doubled events history m n c e p q same =
    let one = call_at events c m p in
    let two = call_at events c n (subst (λ k. PassesAt (is_call n) events k) (sym same) q) in
    let event : Call one.0 m one.1 one.2 ≡ Call two.0 n two.1 two.2 = same_some (Call one.0 m one.1 one.2) (Call two.0 n two.1 two.2) (sym one.3 ∙ two.3) in
    cc

-- ---- what is read is a history

even_not_odd : (n a b : ℕ) → n ≡ 2 * a → n ≡ 2 * b + 1 → ⊥
even_not_odd n a b even odd = omega arith

pub twins_called_once : (events : List Event) → IsHistory events → (n i j : ℕ) → PassesAt (is_call n) (with_twins events 0 events) i → PassesAt (is_call n) (with_twins events 0 events) j → i ≡ j
twins_called_once events history n i j p q =
    let a = call_at (with_twins events 0 events) i n p in
    let b = call_at (with_twins events 0 events) j n q in
    let x = call_read events i n a.0 a.1 a.2 a.3 in
    let y = call_read events j n b.0 b.1 b.2 b.3 in
    by_kinds x.place y.place x.kind y.kind where
      by_kinds : (k l : ℕ) → ((n ≡ 2 * k) × (i ≡ read_at events k)) ⊎ ((n ≡ 2 * k + 1) × (i ≡ suc (read_at events k)))
          → ((n ≡ 2 * l) × (j ≡ read_at events l)) ⊎ ((n ≡ 2 * l + 1) × (j ≡ suc (read_at events l))) → i ≡ j
      by_kinds k l (inl a) (inl b) =
          let one : n ≡ 2 * k = a.0 in let two : n ≡ 2 * l = b.0 in let same : k ≡ l = omega arith in
          a.1 ∙ (ap (read_at events) same ∙ sym b.1)
      by_kinds k l (inl a) (inr b) = absurd (even_not_odd n k l a.0 b.0)
      by_kinds k l (inr a) (inl b) = absurd (even_not_odd n l k b.0 a.0)
      by_kinds k l (inr a) (inr b) =
          let one : n ≡ 2 * k + 1 = a.0 in let two : n ≡ 2 * l + 1 = b.0 in let same : k ≡ l = omega arith in
          a.1 ∙ (ap (λ m. suc (read_at events m)) same ∙ sym b.1)

-- a call of the text is read with its number doubled
pub call_is_read : (events : List Event) (k n h : ℕ) (d : List ℕ) (op : Op) → IsCallAt events k n h d op → IsCallAt (with_twins events 0 events) (read_at events k) (2 * k) h d op
call_is_read events k n h d op at = text_read events 0 events k (Call h n d op) at ∙ ap (λ m. Some (Call h (2 * m) d op)) (plain_place k)

pub twins_are_history : (events : List Event) → IsHistory events → IsHistory (with_twins events 0 events)
twins_are_history events history = record {
  called_once = twins_called_once events history;
  ended_once = λ n i j p q.
      let a = ending_read events i n p in
      let b = ending_read events j n q in
      let x = ended events history a.number a.place a.at in
      let y = ended events history b.number b.place b.at in
      let one : n ≡ doubled events a.number = a.no in let two : n ≡ doubled events b.number = b.no in
      let three : doubled events a.number ≡ 2 * x.place = x.no in let four : doubled events b.number ≡ 2 * y.place = y.no in
      let place : x.place ≡ y.place = omega arith in
      let number : a.number ≡ b.number = once_doubled events history a.number b.number x.place y.place x.call y.call place in
      let same : a.place ≡ b.place = history.ended_once b.number a.place b.place (subst (λ m. PassesAt (is_ending m) events a.place) number a.at) b.at in
      a.here ∙ (ap (read_at events) same ∙ sym b.here);
  ended_after_call = λ n i p.
      let a = ending_read events i n p in
      let x = ended events history a.number a.place a.at in
      let call = call_at events x.place a.number x.call in
      let number : 2 * x.place ≡ n = sym (a.no ∙ x.no) in
      let earlier : read_at events x.place < read_at events a.place = read_later events x.place a.place x.before in
      let here : i ≡ read_at events a.place = a.here in (
        read_at events x.place,
        omega arith,
        subst (λ m. PassesAt (is_call m) (with_twins events 0 events) (read_at events x.place)) number
            (call_passes (with_twins events 0 events) (read_at events x.place) (2 * x.place) call.0 call.1 call.2 (call_is_read events x.place a.number call.0 call.1 call.2 call.3)),
      );
  replies_fit = λ n i j h d op r reply call.
      let a = reply_read events i n r reply in
      let b = call_read events j n h d op call in
      let ends : PassesAt (is_ending a.number) events a.place = element_passes (is_ending a.number) events a.place (Reply a.number r) a.at (eq-eqb a.number a.number refl) in
      let x = ended events history a.number a.place ends in
      let even : n ≡ 2 * x.place = a.no ∙ x.no in
      elim b.kind as (λ _. fits op r ≡ true) [
        | inl main ↦ (let odd : n ≡ 2 * b.place = main.0 in
            let place : b.place ≡ x.place = omega arith in
            let number : b.number ≡ a.number = once_doubled events history b.number a.number b.place x.place (call_passes events b.place b.number h d op b.at) x.call place in
            history.replies_fit a.number a.place b.place h d op r a.at (subst (λ m. IsCallAt events b.place m h d op) number b.at))
        | inr twin ↦ absurd (even_not_odd n x.place b.place even twin.0)
      ];
  one_shard = λ i j n m h g d op o a b.
      let x = call_read events i n h d op a in
      let y = call_read events j m g d o b in
      history.one_shard x.place y.place x.number y.number h g d op o x.at y.at;
  shards = λ i n h d op a. let x = call_read events i n h d op a in history.shards x.place x.number h d op x.at;
}
