-- A history stays one with one more event.
use Rattle.std.proofs.Common.{ℕ, ◌≡◌, ◌<◌, List, [], ◌∷◌, ◌++◌, length, refl, sym, ap, subst, ◌∙◌, inl, inr, arith, Some, slice_get, ◌⊎◌, Bool, true, false, eq-eqb}
use Rattle.std.specs.Prelude.{◌==◌}
use Rattle.std.proofs.lemmas.Bool.{eqb-true}
use Rattle.doc_register.specs.declared.op.Op.{Op}
use Rattle.doc_register.specs.declared.reply.Reply.{Reply as Answer}
use Rattle.doc_register.specs.Register.{fits}
use Rattle.events.specs.declared.event.Event.{Event}
use Rattle.events.specs.declared.event.Event.TheVariants.{Call, Reply, Lost}
use Rattle.events.specs.Events.{IsCallAt, IsReplyAt, IsHistory, PassesAt, is_call, is_ending}
use Rattle.version_pair.proofs.ListLemmas.{get_snoc}
use Rattle.events.proofs.EventLemmas.{element_passes, passes_element, passes_within, passes_front, passes_snoc}

-- a call is an event that is that call
pub call_passes : (H : List Event) (i n h : ℕ) (d : List ℕ) (op : Op) → IsCallAt H i n h d op → PassesAt (is_call n) H i
call_passes H i n h d op at = element_passes (is_call n) H i (Call h n d op) at (eq-eqb n n refl)

pub reply_passes : (H : List Event) (i n : ℕ) (r : Answer) → IsReplyAt H i n r → PassesAt (is_ending n) H i
reply_passes H i n r at = element_passes (is_ending n) H i (Reply n r) at (eq-eqb n n refl)

-- once holds of the longer list, where the new event is the only one of its number
once_more : (t : ℕ → Event → Bool) (H : List Event) (x : Event) → ((n i j : ℕ) → PassesAt (t n) H i → PassesAt (t n) H j → i ≡ j)
    → ((n i : ℕ) → t n x ≡ true → PassesAt (t n) H i → ⊥)
    → (n i j : ℕ) → PassesAt (t n) (H ++ x ∷ []) i → PassesAt (t n) (H ++ x ∷ []) j → i ≡ j
once_more t H x once new n i j p q =
    elim (passes_snoc (t n) H x i p) as (λ _. i ≡ j) [
      | inl a ↦ elim (passes_snoc (t n) H x j q) as (λ _. i ≡ j) [ inl b ↦ once n i j a b | inr b ↦ absurd (new n i b.1 a) ]
      | inr a ↦ elim (passes_snoc (t n) H x j q) as (λ _. i ≡ j) [ inl b ↦ absurd (new n j a.1 b) | inr b ↦ a.0 ∙ sym b.0 ]
    ]

-- an old call, or the new event is one
call_snoc : (H : List Event) (x : Event) (i n h : ℕ) (d : List ℕ) (op : Op) → IsCallAt (H ++ x ∷ []) i n h d op → IsCallAt H i n h d op ⊎ ((i ≡ length H) × (x ≡ Call h n d op))
call_snoc H x i n h d op at = get_snoc H x (Call h n d op) i at

pub history_after_call : (H : List Event) (n h : ℕ) (d : List ℕ) (op : Op) → IsHistory H
    → ((i : ℕ) → PassesAt (is_call n) H i → ⊥)
    → ((i m g : ℕ) (o : Op) → IsCallAt H i m g d o → g ≡ h)
    → h < 1024
    → IsHistory (H ++ Call h n d op ∷ [])
history_after_call H n h d op old fresh shard within = record {
  shards = λ i m g e o at. elim (call_snoc H (Call h n d op) i m g e o at) as (λ _. g < 1024)
      [ inl a ↦ old.shards i m g e o a | inr b ↦ (let same : h ≡ g = cc in subst (λ k. k < 1024) same within) ];
  called_once = once_more is_call H (Call h n d op) old.called_once (λ m i t p. fresh i (subst (λ k. PassesAt (is_call k) H i) (sym (eqb-true n m t)) p));
  ended_once = once_more is_ending H (Call h n d op) old.ended_once (λ m i t p. let impossible : false ≡ true = t in cc);
  ended_after_call = λ m i p. elim (passes_snoc (is_ending m) H (Call h n d op) i p) as (λ _. (j : ℕ) × (j < i) × PassesAt (is_call m) (H ++ Call h n d op ∷ []) j) [
    | inl a ↦ (let c = old.ended_after_call m i a in (c.0, c.1, passes_front (is_call m) H (Call h n d op ∷ []) c.0 c.2))
    | inr b ↦ (let impossible : false ≡ true = b.1 in absurd (cc))
  ];
  replies_fit = λ m i j g e o r reply call.
      elim (get_snoc H (Call h n d op) (Reply m r) i reply) as (λ _. fits o r ≡ true) [
        | inl a ↦ elim (call_snoc H (Call h n d op) j m g e o call) as (λ _. fits o r ≡ true) [
          | inl b ↦ old.replies_fit m i j g e o r a b
          | inr b ↦ (let c = old.ended_after_call m i (reply_passes H i m r a) in
              let number : n ≡ m = cc in
              absurd (fresh c.0 (subst (λ k. PassesAt (is_call k) H c.0) (sym number) c.2)))
        ]
        | inr a ↦ (let impossible : Call h n d op ≡ Reply m r = a.1 in absurd (cc))
      ];
  one_shard = λ i j m k g f e o q a b.
      elim (call_snoc H (Call h n d op) i m g e o a) as (λ _. g ≡ f) [
        | inl c ↦ elim (call_snoc H (Call h n d op) j k f e q b) as (λ _. g ≡ f) [
          | inl b ↦ old.one_shard i j m k g f e o q c b
          | inr b ↦ (let doc : d ≡ e = cc in let same : h ≡ f = cc in shard i m g o (subst (λ x. IsCallAt H i m g x o) (sym doc) c) ∙ same)
        ]
        | inr c ↦ elim (call_snoc H (Call h n d op) j k f e q b) as (λ _. g ≡ f) [
          | inl b ↦ (let doc : d ≡ e = cc in let same : h ≡ g = cc in sym (shard j k f q (subst (λ x. IsCallAt H j k f x q) (sym doc) b) ∙ same))
          | inr b ↦ (let first : h ≡ g = cc in let second : h ≡ f = cc in sym first ∙ second)
        ]
      ];
}

-- the event is an ending of the call numbered n, and no call
record IsEndingOf (x : Event) (n : ℕ) : Type 0 where
  no_call : (m : ℕ) → is_call m x ≡ false
  ends : (m : ℕ) → is_ending m x ≡ (n == m)
  other : (m g : ℕ) (e : List ℕ) (o : Op) → x ≡ Call g m e o → ⊥

history_after_ending : (H : List Event) (x : Event) (n c h : ℕ) (d : List ℕ) (op : Op) → IsHistory H
    → IsEndingOf x n → IsCallAt H c n h d op
    → ((i : ℕ) → PassesAt (is_ending n) H i → ⊥)
    → ((m : ℕ) (r : Answer) → x ≡ Reply m r → (m ≡ n) × (fits op r ≡ true))
    → IsHistory (H ++ x ∷ [])
history_after_ending H x n c h d op old ends call fresh fit = record {
  shards = λ i m g e o at. elim (call_snoc H x i m g e o at) as (λ _. g < 1024)
      [ inl a ↦ old.shards i m g e o a | inr b ↦ absurd (ends.other m g e o b.1) ];
  called_once = once_more is_call H x old.called_once (λ m i t p. let no : is_call m x ≡ false = ends.no_call m in cc);
  ended_once = once_more is_ending H x old.ended_once
      (λ m i t p. let number : n ≡ m = eqb-true n m (sym (ends.ends m) ∙ t) in fresh i (subst (λ k. PassesAt (is_ending k) H i) (sym number) p));
  ended_after_call = λ m i p. elim (passes_snoc (is_ending m) H x i p) as (λ _. (j : ℕ) × (j < i) × PassesAt (is_call m) (H ++ x ∷ []) j) [
    | inl a ↦ (let k = old.ended_after_call m i a in (k.0, k.1, passes_front (is_call m) H (x ∷ []) k.0 k.2))
    | inr b ↦ (let number : n ≡ m = eqb-true n m (sym (ends.ends m) ∙ b.1) in
        let here : PassesAt (is_call n) H c = call_passes H c n h d op call in
        let below : c < length H = passes_within (is_call n) H c here in
        let at_end : i ≡ length H = b.0 in
        (c, (omega arith), passes_front (is_call m) H (x ∷ []) c (subst (λ k. PassesAt (is_call k) H c) number here)))
  ];
  replies_fit = λ m i j g e o r reply q.
      elim (call_snoc H x j m g e o q) as (λ _. fits o r ≡ true) [
        | inl b ↦ elim (get_snoc H x (Reply m r) i reply) as (λ _. fits o r ≡ true) [
          | inl a ↦ old.replies_fit m i j g e o r a b
          | inr a ↦ (let f = fit m r a.1 in
              let place : j ≡ c = old.called_once m j c (call_passes H j m g e o b) (subst (λ k. PassesAt (is_call k) H c) (sym f.0) (call_passes H c n h d op call)) in
              let same : Some (Call g m e o) ≡ Some (Call h n d op) = sym b ∙ (ap (λ k. slice_get H k) place ∙ call) in
              let op_same : o ≡ op = cc in
              subst (λ k. fits k r ≡ true) (sym op_same) f.1)
        ]
        | inr b ↦ absurd (ends.other m g e o b.1)
      ];
  one_shard = λ i j m k g f e o q a b.
      elim (call_snoc H x i m g e o a) as (λ _. g ≡ f) [
        | inl s ↦ elim (call_snoc H x j k f e q b) as (λ _. g ≡ f) [
          | inl t ↦ old.one_shard i j m k g f e o q s t
          | inr t ↦ absurd (ends.other k f e q t.1)
        ]
        | inr s ↦ absurd (ends.other m g e o s.1)
      ];
}

pub history_after_reply : (H : List Event) (n c h : ℕ) (d : List ℕ) (op : Op) (r : Answer) → IsHistory H → IsCallAt H c n h d op
    → ((i : ℕ) → PassesAt (is_ending n) H i → ⊥) → fits op r ≡ true → IsHistory (H ++ Reply n r ∷ [])
history_after_reply H n c h d op r old call fresh fit =
    history_after_ending H (Reply n r) n c h d op old
    (record { no_call = λ m. refl; ends = λ m. refl; other = λ m g e o p. cc }) call fresh
    (λ m s p. let number : m ≡ n = cc in let same : s ≡ r = cc in (number, subst (λ k. fits op k ≡ true) (sym same) fit))

pub history_after_lost : (H : List Event) (n c h : ℕ) (d : List ℕ) (op : Op) → IsHistory H → IsCallAt H c n h d op
    → ((i : ℕ) → PassesAt (is_ending n) H i → ⊥) → IsHistory (H ++ Lost n ∷ [])
history_after_lost H n c h d op old call fresh =
    history_after_ending H (Lost n) n c h d op old
    (record { no_call = λ m. refl; ends = λ m. refl; other = λ m g e o p. cc }) call fresh
    (λ m s p. let impossible : Lost n ≡ Reply m s = p in absurd (cc))

-- ---- calls and their replies

-- the call that has the number
pub call_at : (H : List Event) (j n : ℕ) → PassesAt (is_call n) H j → (h : ℕ) × (d : List ℕ) × (op : Op) × IsCallAt H j n h d op
call_at H j n passes = let e = passes_element (is_call n) H j passes in by_event e.0 e.1 e.2 where
  by_event : (e : Event) → slice_get H j ≡ Some e → is_call n e ≡ true → (h : ℕ) × (d : List ℕ) × (op : Op) × IsCallAt H j n h d op
  by_event (Call h m d op) at is = (h, d, op, at ∙ ap (λ k. Some (Call h k d op)) (eqb-true m n is))
  by_event (Reply m r) at is = let impossible : false ≡ true = is in absurd (cc)
  by_event (Lost m) at is = let impossible : false ≡ true = is in absurd (cc)

-- the call that a reply answers
pub answered_call : (H : List Event) → IsHistory H → (k n : ℕ) (r : Answer) → IsReplyAt H k n r → (j : ℕ) × (h : ℕ) × (d : List ℕ) × (op : Op) × IsCallAt H j n h d op
answered_call H history k n r at =
    let c = history.ended_after_call n k (reply_passes H k n r at) in
    let call = call_at H c.0 n c.2 in
    (c.0, call.0, call.1, call.2, call.3)

-- no event is a history
pub empty_history : IsHistory []
empty_history = record {
  called_once = λ n i j a b. absurd (passes_none (is_call n) i a);
  ended_once = λ n i j a b. absurd (passes_none (is_ending n) i a);
  ended_after_call = λ n i a. absurd (passes_none (is_ending n) i a);
  replies_fit = λ n i j h d op r a b. absurd (passes_none (is_ending n) i (reply_passes [] i n r a));
  one_shard = λ i j n m h g d op o a b. absurd (passes_none (is_call n) i (call_passes [] i n h d op a));
  shards = λ i n h d op a. absurd (passes_none (is_call n) i (call_passes [] i n h d op a));
} where
  passes_none : (t : Event → Bool) (i : ℕ) → PassesAt t [] i → ⊥
  passes_none t i p = let within : i < length {A = Event} [] = passes_within t [] i p in omega arith
